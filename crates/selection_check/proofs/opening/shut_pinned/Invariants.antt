-- The packages of the pins so far are shut.
use Rattle.std.proofs.Common.{map, false}
use Rattle.jl_versions.specs.declared.version.Version.{Version}
use Rattle.offer_terms.specs.Offered.{Id}
use Rattle.offer_terms.specs.Demanded.{version_entry}
use Rattle.selection_check.specs.Scratch.{IsTableFor}
use Rattle.selection_check.specs.Opening.{Narrows, AllowsOf}
use Rattle.selection_check.proofs.OpenLemmas.{AllowsFirst}
use Rattle.selection_check.proofs.opening.shut_pinned.Given as goal

abbrev pub invariant-loop-pin : goal.invariant-loop-pin
invariant-loop-pin l = record {
  narrows : Narrows l.book l.initial.table l.table (AllowsFirst (λ (p : Id × Version). AllowsOf p.0 (λ _. false)) (map version_entry l.pins) l.pin-index);
  made : IsTableFor l.book l.table;
}
