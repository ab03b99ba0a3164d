use Rattle.std.proofs.Common.{length, slice_get, arith, sym, ap, ◌∙◌}
use Rattle.std.proofs.lemmas.List.{length-map}
use Rattle.offer_terms.specs.Offered.{offering}
use Rattle.book_graph.proofs.Steps.{forbids_begin, forbids_next, mapped_at}
use Rattle.book_graph.proofs.Pairs.{of_state, state_excludes, forbids_of_package}
use Rattle.book_graph.proofs.forbidding.forbid_of_package.Goals as goal
use Rattle.book_graph.proofs.forbidding.forbid_of_package.Goals.{In_ok-forbid_of_offer}

pub loop-place-init : goal.loop-place-init
loop-place-init c = forbids_begin c.args.builder.now (of_state c.args.book.now c.args.package)

pub forbid_of_offer-requires-clause-there : goal.forbid_of_offer-requires-clause-there
forbid_of_offer-requires-clause-there c =
    ap (λ offers. slice_get offers c.loop-place.place) (sym c.offers-offers.ensures.offers)
    ∙ mapped_at offering c.offers-offers.result.now c.loop-place.place c.index-offers-place.result (omega arith) c.index-offers-place.is

pub loop-place-preserved : goal.loop-place-preserved
loop-place-preserved c =
    forbids_next c.args.builder.now c.loop-place.builder c.forbid_of_offer.new.builder (of_state c.args.book.now c.args.package) c.loop-place.place c.loop-place.invariant
    (state_excludes c.loop-place.builder c.forbid_of_offer.new.builder c.args.book.now c.args.package c.loop-place.place (offering c.index-offers-place.result)
    (ap (λ offers. slice_get offers c.loop-place.place) (sym c.offers-offers.ensures.offers)
    ∙ mapped_at offering c.offers-offers.result.now c.loop-place.place c.index-offers-place.result (omega arith) c.index-offers-place.is)
    c.in_ok-forbid_of_offer.ensures)

pub returns : goal.returns
returns c =
    forbids_of_package c.args.builder.now c.loop-place.builder c.args.book.now c.args.package c.loop-place.place
    (omega (arith, c.loop-place-test.false, length-map c.offers-offers.result.now offering, ap length c.offers-offers.ensures.offers)) c.loop-place.invariant
