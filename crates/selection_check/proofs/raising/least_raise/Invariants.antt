-- No offer of a package so far passes.
use Rattle.std.proofs.Common.{ℕ, ◌<◌}
use Rattle.jl_versions.specs.Triple.{triple_of}
use Rattle.selection_check.specs.Passing.{Passes}
use Rattle.selection_check.proofs.raising.least_raise.Given as goal

abbrev pub invariant-loop-package : goal.invariant-loop-package
invariant-loop-package l = (q : ℕ) → q < l.package → (j : ℕ) → Passes l.book (triple_of l.julia) l.selection.items l.table q j → ⊥
