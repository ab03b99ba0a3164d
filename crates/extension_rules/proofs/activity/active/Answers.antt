-- The set has the identifiers of the list.
use Rattle.std.proofs.Common.{◌≡◌, ℕ, List, IfOk, map, ap, ◌∙◌, subst}
use Rattle.manifest_file.specs.Said.{said_stanza}
use Rattle.manifest_file.specs.Steps.{has_id}
use Rattle.extension_rules.specs.Rules as spec
use Rattle.extension_rules.proofs.activity.active.Goals as goal

pub returns : goal.returns
returns c =
    let same : has_id c.in_ok-loaded.loaded ≡ spec.is_id_among c.args.loaded.now.items = λ i (q : List ℕ). (c.in_ok-loaded.ensures q ∙ ap (λ ids. spec.is_id_among ids q) c.items.ensures) i in
    subst (λ loaded. IfOk c.active_among.result (λ list. list.items ≡ spec.active loaded (map said_stanza c.args.manifest.now.stanzas.items))) same
    (rw c.items-2.ensures at c.active_among.ensures)
