use Rattle.std.proofs.Common.{◌<◌, length, find, slice_get, MatchBool, refl, sym, ap, ◌∙◌, subst, arith}
use Rattle.std.proofs.lemmas.List.{length-map}
use Rattle.std.proofs.lemmas.Option.{slice_get_read}
use Rattle.jl_versions.specs.Triple.{triple_of}
use Rattle.offer_terms.specs.Offered.{offering, is_of}
use Rattle.selection_check.specs.Passing.{IsMet}
use Rattle.selection_check.proofs.Ranks.{offers_of_number}
use Rattle.selection_check.proofs.OfferSearch.{offer_stands}
use Rattle.selection_check.proofs.OpenLemmas.{mapped_at}
use Rattle.selection_check.proofs.RaiseLemmas.{is_less, passes_if}
use Rattle.selection_check.proofs.raising.passes.Goals as goal

pub returns : goal.returns
returns c =
    let book = c.args.book.now in
    let s = c.args.selection.now.items in
    let julia = triple_of c.args.julia.now in
    let p = c.args.package in
    let j = c.args.place in
    let offers = c.offers.result.now in
    let x = c.index-offers-place.result in
    let inside : j < length offers = omega (arith, c.requires.inside, ap length c.offers.ensures.offers, length-map offers offering) in
    let there = ap (λ xs. slice_get xs j) (sym c.offers.ensures.offers) ∙ mapped_at offering offers j x inside c.index-offers-place.is in
    let stands = ap (find (is_of x.version)) (offers_of_number book p c.packages-count.ensures.once c.requires.known ∙ sym c.offers.ensures.offers)
    ∙ offer_stands offers j x c.offers.ensures.rising (slice_get_read offers (length offers) j x refl inside c.index-offers-place.is) in
    passes_if book julia s c.args.table.now p j c.requires.known (offering x) there stands c.args.version.now c.requires.selected
    (is_less c.cmp.result _ c.cmp.ensures c.if-not-is_lt.ensures) (sym c.get.ensures ∙ c.if-not-get.false) c.is_met.result
    (subst (λ u. MatchBool c.is_met.result (IsMet julia s u (offering x)) (IsMet julia s u (offering x) → ⊥)) c.uuid.ensures c.is_met.ensures)
