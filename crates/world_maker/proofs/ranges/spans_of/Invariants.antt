-- the ranges so far, and the state that they left
use Rattle.std.proofs.Common.{◌≡◌, ◌*◌, map}
use Rattle.std.specs.List.{range_with_len}
use Rattle.world_maker.specs.Draws.{state}
use Rattle.world_maker.specs.Drawn.{span_of}
use Rattle.world_maker.proofs.ranges.spans_of.Given as goal

abbrev pub invariant-spans : goal.invariant-spans
invariant-spans l =
    record {
      taken : l.spans.items ≡ map (span_of l.fn.draws.state l.starts l.needs) (range_with_len 0 l.place);
      at : l.draws.state ≡ state l.fn.draws.state (2 * l.place);
    }
