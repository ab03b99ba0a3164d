use Rattle.std.proofs.Common.{◌≡◌, ◌∷◌, Ok, map, drop, ◌+◌, ap, ◌∙◌, arith}
use Rattle.std.proofs.lemmas.Grind.{common_steps}
use Rattle.toml_view.specs.Causes.{then_read}
use Rattle.manifest_file.specs.Saying.{all_read, stanza_of, stanzas_by, flat}
use Rattle.manifest_file.specs.Said.{said_stanza}
use Rattle.manifest_file.specs.Sorting.{bearers_by}
use Rattle.manifest_file.specs.Steps.{Refuses, onto}
use Rattle.manifest_file.proofs.Walks.{all_read-append, onto_all}
use Rattle.manifest_file.proofs.Faults.{refuses_along}
use Rattle.manifest_file.proofs.resolving.resolved_by.Goals as goal

pub returns-in-Err : goal.returns-in-Err
returns-in-Err c =
    let by = bearers_by c.args.index.now in
    let read = stanza_of by in
    let old = map said_stanza c.loop-group.stanzas.items in
    let group = c.group-item.result in
    let rest = drop (c.loop-group.group-index + 1) c.args.groups.now in
    let here : drop c.loop-group.group-index c.args.groups.now ≡ group ∷ rest = grind (arith, common_steps) in
    let list = map (λ entry. (group.0, entry)) group.1 in
    let same : stanzas_by by c.args.groups.now ≡ onto old (then_read (all_read read list) (λ vs. onto vs (stanzas_by by rest)))
    = c.loop-group.invariant ∙ ap (λ r. onto old (stanzas_by by r)) here ∙ ap (onto old) (all_read-append read list (flat rest)) in
    let told : Refuses (all_read read list) c.in-Err.fault = rw (← c.items.ensures) c.in-Err.ensures in
    refuses_along (all_read read list) (stanzas_by by c.args.groups.now) c.in-Err.fault (λ cause e. same ∙ ap (λ r. onto old (then_read r (λ vs. onto vs (stanzas_by by rest)))) e) told

pub loop-group-preserved : goal.loop-group-preserved
loop-group-preserved c =
    let by = bearers_by c.args.index.now in
    let read = stanza_of by in
    let old = map said_stanza c.loop-group.stanzas.items in
    let new = map said_stanza c.push_stanzas.new.stanzas.items in
    let group = c.group-item.result in
    let rest = drop (c.loop-group.group-index + 1) c.args.groups.now in
    let here : drop c.loop-group.group-index c.args.groups.now ≡ group ∷ rest = grind (arith, common_steps) in
    let list = map (λ entry. (group.0, entry)) group.1 in
    let pushed : onto old (all_read read list) ≡ Ok new = rw (← c.items.ensures) c.in-Ok.ensures in
    c.loop-group.invariant ∙ ap (λ r. onto old (stanzas_by by r)) here ∙ ap (onto old) (all_read-append read list (flat rest))
    ∙ onto_all old new (all_read read list) (stanzas_by by rest) pushed
