-- the starts so far, and the state that they left
use Rattle.std.proofs.Common.{◌≡◌}
use Rattle.world_maker.specs.Draws.{state}
use Rattle.world_maker.specs.Drawn.{starts_from}
use Rattle.world_maker.proofs.draws.starts.Given as goal

abbrev pub invariant-starts : goal.invariant-starts
invariant-starts l = record { taken : l.starts.items ≡ starts_from l.fn.draws.state l._package; at : l.draws.state ≡ state l.fn.draws.state l._package }
