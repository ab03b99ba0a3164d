use Rattle.std.proofs.Common.{map, arith}
use Rattle.std.proofs.lemmas.List.{length-map}
use Rattle.offer_terms.specs.Offered.{offering}
use Rattle.book_graph.proofs.Steps.{forbids_begin, forbids_next, mapped_at}
use Rattle.book_graph.proofs.Pairs.{with_place, with_next, forbids_among}
use Rattle.book_graph.proofs.forbidding.forbid_offers.Goals as goal

pub loop-place-init : goal.loop-place-init
loop-place-init g c = forbids_begin c.args.builder.now (with_place c.args.package c.args.state c.args.other (map offering c.args.offers.now) (g.R.Rule.shuts c.args.rule.now))

pub loop-place-preserved : goal.loop-place-preserved
loop-place-preserved g c =
    let offers = map offering c.args.offers.now in
    let test = g.R.Rule.shuts c.args.rule.now in
    forbids_next c.args.builder.now c.loop-place.builder c.forbid_if.new.builder (with_place c.args.package c.args.state c.args.other offers test) c.loop-place.place c.loop-place.invariant
    (with_next c.loop-place.builder c.forbid_if.new.builder c.args.package c.args.state c.args.other c.loop-place.place offers test (offering c.index-offers-place.result) c.shuts-is_shut.result
    (mapped_at offering c.args.offers.now c.loop-place.place c.index-offers-place.result (omega arith) c.index-offers-place.is) c.shuts-is_shut.ensures c.in_ok-forbid_if.ensures)

pub returns : goal.returns
returns g c =
    forbids_among c.args.builder.now c.loop-place.builder c.args.package c.args.state c.args.other (map offering c.args.offers.now) (g.R.Rule.shuts c.args.rule.now) c.loop-place.place
    (omega (arith, c.loop-place-test.false, length-map c.args.offers.now offering)) c.loop-place.invariant
