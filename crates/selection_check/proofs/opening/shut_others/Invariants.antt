-- What the entries so far don't allow is shut.
use Rattle.std.proofs.Common.{map}
use Rattle.offer_terms.specs.Offered.{Id, Allows, allowing}
use Rattle.selection_check.specs.Scratch.{IsTableFor}
use Rattle.selection_check.specs.Opening.{Narrows, AllowsOther}
use Rattle.selection_check.proofs.OpenLemmas.{AllowsFirst}
use Rattle.selection_check.proofs.opening.shut_others.Given as goal

abbrev pub invariant-loop-entry : goal.invariant-loop-entry
invariant-loop-entry l = record {
  narrows : Narrows l.book l.initial.table l.table (AllowsFirst (λ (e : Id × Allows). AllowsOther l.uuid e) (map allowing l.entries) l.entry-index);
  made : IsTableFor l.book l.table;
}
