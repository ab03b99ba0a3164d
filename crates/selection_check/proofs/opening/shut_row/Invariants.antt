-- The offers so far are shut where they don't pass.
use Rattle.selection_check.specs.Opening.{NarrowsRow}
use Rattle.selection_check.proofs.opening.shut_row.Given as goal

abbrev pub invariant-loop-place : goal.invariant-loop-place
invariant-loop-place g l = NarrowsRow l.offers l.initial.table l.table l.package l.place (g.R.Rule.allows l.rule)
