-- What the selected offers of the packages so far don't allow is shut.
use Rattle.selection_check.specs.Scratch.{IsTableFor}
use Rattle.selection_check.specs.Opening.{Narrows, IsWithinFirst}
use Rattle.selection_check.proofs.opening.shut_selected.Given as goal

abbrev pub invariant-loop-package : goal.invariant-loop-package
invariant-loop-package l = record {
  narrows : Narrows l.book l.initial.table l.table (IsWithinFirst l.book l.selection.items l.package);
  made : IsTableFor l.book l.table;
}
