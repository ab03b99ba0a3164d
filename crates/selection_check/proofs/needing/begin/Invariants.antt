-- No package so far is marked.
use Rattle.std.proofs.Common.{◌≡◌, ℕ, ◌<◌, false, length}
use Rattle.selection_check.specs.Needing.{is_marked}
use Rattle.selection_check.proofs.needing.begin.Given as goal

abbrev pub invariant-loop-package : goal.invariant-loop-package
invariant-loop-package l = record {
  each : length l.marks.items ≡ length l.book;
  none : (q : ℕ) → q < l.package → is_marked l.marks.items q ≡ false;
}
