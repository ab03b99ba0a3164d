-- The lists so far are empty.
use Rattle.std.proofs.Common.{◌≡◌, ℕ, ◌<◌, length, []}
use Rattle.resolve_core.specs.Classed.{items_at}
use Rattle.resolve_core.proofs.classing.empty_lists.Given as goal

abbrev pub invariant-loop-state : goal.invariant-loop-state
invariant-loop-state l = record {
  each : length l.lists.items ≡ l._state;
  empty : (s : ℕ) → s < l._state → items_at l.lists.items s ≡ [];
}
