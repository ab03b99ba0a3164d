use Rattle.std.proofs.Common.{◌≡◌, ◌∷◌, map, drop, ◌+◌, ap, sym, ◌∙◌, arith}
use Rattle.std.proofs.lemmas.Grind.{common_steps}
use Rattle.manifest_file.specs.Saying.{all_read, stanza_of}
use Rattle.manifest_file.specs.Said.{said_stanza}
use Rattle.manifest_file.specs.Sorting.{bearers_by}
use Rattle.manifest_file.specs.Steps.{onto}
use Rattle.manifest_file.proofs.Walks.{stanza_next}
use Rattle.manifest_file.proofs.resolving.push_stanzas.Goals as goal

pub loop-entry-preserved : goal.loop-entry-preserved
loop-entry-preserved c =
    let read = stanza_of (bearers_by c.args.index.now) in
    let rest = drop (c.loop-entry.entry-index + 1) c.args.list.now in
    let here : drop c.loop-entry.entry-index c.args.list.now ≡ c.entry-item.result ∷ rest = grind (arith, common_steps) in
    let old = c.loop-entry.stanzas.items in
    c.loop-entry.invariant
    ∙ ap (λ r. onto (map said_stanza old) (all_read read (map (λ entry. (c.args.name.now, entry)) r))) here
    ∙ stanza_next old c.in_ok-stanza.stanza (said_stanza c.in_ok-stanza.stanza) (read (c.args.name.now, c.entry-item.result)) (all_read read (map (λ entry. (c.args.name.now, entry)) rest)) c.in_ok-stanza.ensures
    ∙ ap (λ l. onto (map said_stanza l) (all_read read (map (λ entry. (c.args.name.now, entry)) rest))) (sym c.in_ok-push_stanza.ensures)
