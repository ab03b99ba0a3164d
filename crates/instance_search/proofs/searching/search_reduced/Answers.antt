use Rattle.decimation_repair.specs.Choice.{BeliefChoice}
use Rattle.decimation_repair.specs.Walk.{Ends, Spends}
use Rattle.instance_search.proofs.AnswerLemmas.{carried, ends_walked, spends_walked}
use Rattle.instance_search.proofs.searching.search_reduced.Goals as goal

pub returns-in-Empty : goal.returns-in-Empty
returns-in-Empty c =
    let h = c.args.reduced.now.instance in
    let f = c.in_ok-fields.fields in
    let r = c.requires.reduced in
    let s = c.in_ok-search.ensures in
    let nodes = c.in-Empty.log.items in
    ends_walked c.args.instance.now r.0 h c.args.reduced.now.back f c.args.budget c.packages-packages.ensures.sound r.1 c.in_ok-fields.ensures nodes c.in_ok-renumber-in-Empty.field-0
    c.in_ok-renumber-in-Empty.ensures.front
    (carried (λ z k n. Ends z (BeliefChoice k) n nodes) c.in_ok-search.search h f c.args.budget s.instance s.fields s.budget c.in-Empty.ensures)

pub returns : goal.returns
returns c =
    let h = c.args.reduced.now.instance in
    let f = c.in_ok-fields.fields in
    let r = c.requires.reduced in
    let s = c.in_ok-search.ensures in
    let nodes = c.in-Spent.log.items in
    spends_walked c.args.instance.now r.0 h c.args.reduced.now.back f c.args.budget c.packages-packages.ensures.sound r.1 c.in_ok-fields.ensures nodes c.in_ok-renumber-in-Spent.field-0
    c.in_ok-renumber-in-Spent.ensures.front
    (carried (λ z k n. Spends z (BeliefChoice k) n nodes) c.in_ok-search.search h f c.args.budget s.instance s.fields s.budget c.in-Spent.ensures)
