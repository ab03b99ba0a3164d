-- What the entries so far don't allow is shut.
use Rattle.std.proofs.Common.{List, map}
use Rattle.compat_spec.specs.declared.part.Part.{Part}
use Rattle.compat_spec.specs.Meaning.{specifier_holds}
use Rattle.offer_terms.specs.Offered.{Id}
use Rattle.offer_terms.specs.Demanded.{spec_entry}
use Rattle.selection_check.specs.Scratch.{IsTableFor}
use Rattle.selection_check.specs.Opening.{Narrows, AllowsOf}
use Rattle.selection_check.proofs.OpenLemmas.{AllowsFirst}
use Rattle.selection_check.proofs.opening.shut_project.Given as goal

abbrev pub invariant-loop-entry : goal.invariant-loop-entry
invariant-loop-entry l = record {
  narrows : Narrows l.book l.initial.table l.table (AllowsFirst (λ (e : Id × List Part). AllowsOf e.0 (specifier_holds e.1)) (map spec_entry l.entries) l.entry-index);
  made : IsTableFor l.book l.table;
}
