-- No offer so far passes.
use Rattle.std.proofs.Common.{ℕ, ◌<◌}
use Rattle.jl_versions.specs.Triple.{triple_of}
use Rattle.selection_check.specs.Passing.{Passes}
use Rattle.selection_check.proofs.raising.raise_above.Given as goal

abbrev pub invariant-loop-place : goal.invariant-loop-place
invariant-loop-place l = (j : ℕ) → j < l.place → Passes l.book (triple_of l.julia) l.selection.items l.table l.package j → ⊥
