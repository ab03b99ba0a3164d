use Rattle.std.proofs.Common.{◌||◌, map, refl, sym, ap, ◌∙◌, arith}
use Rattle.std.specs.List.{list_any}
use Rattle.std.proofs.lemmas.List.{length-map, take_all}
use Rattle.std.proofs.lemmas.List.Folds.{list_any_at, list_any_more}
use Rattle.std.proofs.lemmas.Option.{get_or_from_slice_get}
use Rattle.jl_versions.specs.Triple.{triple_of}
use Rattle.offer_terms.specs.Offered.{allowing}
use Rattle.book_graph.specs.Building.{refuses_entry}
use Rattle.book_graph.proofs.Steps.{mapped_at}
use Rattle.book_graph.proofs.rules.refuses.Goals as goal

pub loop-entry-init : goal.loop-entry-init
loop-entry-init c = refl

pub returns-then-is_refusing : goal.returns-then-is_refusing
returns-then-is_refusing c =
    let test = refuses_entry (triple_of c.args.julia.now) in
    let entries = map allowing c.args.entries.now in
    let item = allowing c.entry-item.result in
    let there = mapped_at allowing c.args.entries.now c.loop-entry.entry-index c.entry-item.result (omega arith) c.entry-item.is in
    sym (list_any_at test entries c.loop-entry.entry-index item (omega (arith, c.loop-entry-test.true, length-map c.args.entries.now allowing))
    (ap test (get_or_from_slice_get entries c.loop-entry.entry-index item item there) ∙ sym c.is_refusing.ensures ∙ c.if-is_refusing.true))

pub loop-entry-preserved : goal.loop-entry-preserved
loop-entry-preserved c =
    let test = refuses_entry (triple_of c.args.julia.now) in
    let entries = map allowing c.args.entries.now in
    let item = allowing c.entry-item.result in
    let there = mapped_at allowing c.args.entries.now c.loop-entry.entry-index c.entry-item.result (omega arith) c.entry-item.is in
    list_any_more test entries c.loop-entry.entry-index item (omega (arith, c.loop-entry-test.true, length-map c.args.entries.now allowing))
    ∙ (λ i. c.loop-entry.invariant i || (ap test (get_or_from_slice_get entries c.loop-entry.entry-index item item there) ∙ sym c.is_refusing.ensures ∙ c.if-is_refusing.false) i)

pub returns : goal.returns
returns c =
    let test = refuses_entry (triple_of c.args.julia.now) in
    sym c.loop-entry.invariant ∙ ap (list_any test) (take_all c.loop-entry.entry-index (map allowing c.args.entries.now) (omega (arith, c.loop-entry-test.false, length-map c.args.entries.now allowing)))
