-- The identifiers so far are put, and the rest is to be put.
use Rattle.std.proofs.Common.{◌≡◌, ℕ, ◌||◌, List, drop}
use Rattle.manifest_file.specs.Steps.{has_id}
use Rattle.extension_rules.specs.Rules.{is_id_among}
use Rattle.extension_rules.proofs.activity.id_set.Given as goal

abbrev pub invariant-loop-id : goal.invariant-loop-id
invariant-loop-id l = (q : List ℕ) → is_id_among l.ids q ≡ (has_id l.set q || is_id_among (drop l.id-index l.ids) q)
