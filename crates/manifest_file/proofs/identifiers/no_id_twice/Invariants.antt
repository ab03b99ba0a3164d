use Rattle.std.proofs.Common.{◌≡◌, false, drop}
use Rattle.manifest_file.specs.Saying.{first_again}
use Rattle.manifest_file.specs.Steps.{has_id}
use Rattle.manifest_file.proofs.identifiers.no_id_twice.Given as goal

abbrev pub invariant-loop-id : goal.invariant-loop-id
invariant-loop-id l = first_again (λ q. false) l.id-items ≡ first_again (has_id l.earlier) (drop l.id-index l.id-items)
