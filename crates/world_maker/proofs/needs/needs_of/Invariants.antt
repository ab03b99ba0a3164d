-- the dependencies so far, and the state that they left
use Rattle.std.proofs.Common.{◌≡◌, ◌+◌, nat_lt, map}
use Rattle.std.specs.List.{filter, range_with_len}
use Rattle.world_maker.specs.Draws.{state}
use Rattle.world_maker.specs.Drawn.{distinct, candidate}
use Rattle.world_maker.proofs.needs.needs_of.Given as goal

abbrev pub invariant-tries : goal.invariant-tries
invariant-tries l =
    record {
      taken : l.needs.items ≡ distinct (filter (λ d. nat_lt d l.count) (map (candidate l.fn.draws.state l.«package») (range_with_len 0 l._try)));
      at : l.draws.state ≡ state l.fn.draws.state (l._try + 1);
    }
