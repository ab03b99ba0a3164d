use Rattle.std.proofs.Common.{map, arith}
use Rattle.std.proofs.lemmas.List.{length-map}
use Rattle.offer_terms.specs.Offered.{offering}
use Rattle.book_graph.specs.Building.{IsAmongAt}
use Rattle.book_graph.proofs.Steps.{bars_begin, bars_next, mapped_at}
use Rattle.book_graph.proofs.States.{among_next, bars_among}
use Rattle.book_graph.proofs.barring.bar_offers.Goals as goal

pub loop-place-init : goal.loop-place-init
loop-place-init g c = bars_begin c.args.builder.now (IsAmongAt c.args.package (map offering c.args.offers.now) (g.R.Rule.shuts c.args.rule.now))

pub loop-place-preserved : goal.loop-place-preserved
loop-place-preserved g c =
    let offers = map offering c.args.offers.now in
    let test = g.R.Rule.shuts c.args.rule.now in
    bars_next c.args.builder.now c.loop-place.builder c.bar_if.new.builder (IsAmongAt c.args.package offers test) c.loop-place.place c.loop-place.invariant
    (among_next c.loop-place.builder c.bar_if.new.builder c.args.package c.loop-place.place offers test (offering c.index-offers-place.result) c.shuts-is_shut.result
    (mapped_at offering c.args.offers.now c.loop-place.place c.index-offers-place.result (omega arith) c.index-offers-place.is) c.shuts-is_shut.ensures c.bar_if.ensures)

pub returns : goal.returns
returns g c =
    bars_among c.args.builder.now c.loop-place.builder c.args.package (map offering c.args.offers.now) (g.R.Rule.shuts c.args.rule.now) c.loop-place.place
    (omega (arith, c.loop-place-test.false, length-map c.args.offers.now offering)) c.loop-place.invariant
