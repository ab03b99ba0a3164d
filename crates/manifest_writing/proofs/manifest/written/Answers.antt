use Rattle.std.proofs.Common.{◌≡◌, Some, map, bytes_eq, sym, ap, ◌∙◌, subst}
use Rattle.std.specs.List.{list_any}
use Rattle.offer_terms.specs.declared.demand.VersionPair.{VersionPair}
use Rattle.manifest_file.specs.Said.{said_stanza}
use Rattle.manifest_file.specs.Steps.{has_id}
use Rattle.manifest_file.specs.Written.{are_by_name}
use Rattle.manifest_file.specs.ReadsBack.{StandOnce}
use Rattle.offer_terms.specs.Demanded.{wanted}
use Rattle.offer_terms.specs.Offered.{Id}
use Rattle.manifest_writing.specs.Views.{found_said}
use Rattle.manifest_writing.specs.Writing.{is_pinned, stanzas_of, written}
use Rattle.manifest_writing.proofs.Keyed.{pins-said}
use Rattle.manifest_writing.proofs.Said.{stanzas_rise, rises_by_name, written_once}
use Rattle.manifest_writing.proofs.manifest.written.Goals as goal

-- what the written stanzas say
said-is : (c : goal.After-drop-pinned-2) → map said_stanza c.in_ok-stanzas.stanzas.items ≡ (written c.args.book.now (wanted c.args.demand.now) (found_said c.args.found.now.entries) c.args.selection.now.items).stanzas
said-is c =
    let demand = c.args.demand.now in
    let pinned : has_id c.in_ok-pinned.pinned ≡ is_pinned (wanted demand) = λ i (q : Id). (c.in_ok-pinned.ensures q ∙ ap (list_any (λ (pin : VersionPair). bytes_eq pin.uuid q)) c.items.ensures ∙ pins-said q demand.pins.items) i in
    c.in_ok-stanzas.ensures ∙ (λ i. stanzas_of c.args.book.now (pinned i) (found_said c.args.found.now.entries) (c.in_ok-packages.ensures i))

pub returns-clause-told : goal.returns-clause-told
returns-clause-told c = λ i. record { julia_version = Some (c.of.ensures i); stanzas = said-is c i }

pub returns-clause-by_name : goal.returns-clause-by_name
returns-clause-by_name c =
    let book = c.args.book.now in
    let w = wanted c.args.demand.now in
    let found = found_said c.args.found.now.entries in
    ap are_by_name (said-is c) ∙ rises_by_name (written book w found c.args.selection.now.items).stanzas (stanzas_rise book w found c.args.selection.now.items)

pub returns-clause-once : goal.returns-clause-once
returns-clause-once c =
    subst StandOnce (sym (said-is c)) (written_once c.args.book.now (wanted c.args.demand.now) (found_said c.args.found.now.entries) c.args.selection.now.items)
