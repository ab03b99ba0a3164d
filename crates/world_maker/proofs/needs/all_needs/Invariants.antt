-- the dependencies of the packages so far, and the state that they left
use Rattle.std.proofs.Common.{◌≡◌, map}
use Rattle.std.specs.List.{range_with_len}
use Rattle.world_maker.specs.Draws.{state}
use Rattle.world_maker.specs.Drawn.{needs_at, asked}
use Rattle.world_maker.proofs.needs.all_needs.Given as goal

abbrev pub invariant-needs : goal.invariant-needs
invariant-needs l =
    record {
      taken : map (λ needs. needs.items) l.all.items ≡ map (needs_at l.fn.draws.state l.count) (range_with_len 0 l.«package»);
      at : l.draws.state ≡ state l.fn.draws.state (asked l.fn.draws.state l.«package»);
    }
