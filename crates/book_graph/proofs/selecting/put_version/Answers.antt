use Rattle.std.proofs.Common.{◌≡◌, length, Some, None, slice_get, option_map, arith, sym, ap, ◌∙◌, subst}
use Rattle.std.proofs.lemmas.List.{length-map}
use Rattle.std.proofs.lemmas.Option.{slice_get_past}
use Rattle.offer_terms.specs.Offered.{offering}
use Rattle.offer_terms.specs.Booked.{package_at}
use Rattle.offer_terms.specs.declared.offer.Offer.{Offer}
use Rattle.book_graph.specs.StandsFor.{id_of, offer_in}
use Rattle.book_graph.specs.Chosen.{Puts}
use Rattle.book_graph.proofs.Steps.{mapped_at}
use Rattle.book_graph.proofs.Selected.{puts_some, puts_none}
use Rattle.book_graph.proofs.selecting.put_version.Goals as goal

pub returns-in_ok-insert : goal.returns-in_ok-insert
returns-in_ok-insert c =
    let book = c.args.book.now in
    let old = c.args.versions.now.entries in
    let new = c.insert.new.self.entries in
    let there : offer_in book c.args.package c.args.state ≡ Some (offering c.index-offers-state.result) =
    ap (λ offers. slice_get offers c.args.state) (sym c.offers-offers.ensures.offers)
    ∙ mapped_at offering c.offers-offers.result.now c.args.state c.index-offers-state.result (omega arith) c.index-offers-state.is in
    let version : c.in_ok-version.version ≡ c.index-offers-state.result.version = c.in_ok-version.ensures ∙ ap (λ (o : Offer). o.version) (sym c.index-offers-state.is) in
    subst (λ o. Puts (id_of book c.args.package) (option_map (λ x. x.version) o) old new) (sym there)
    (subst (λ u. Puts u (Some c.index-offers-state.result.version) old new) c.uuid.ensures
    (subst (λ v. Puts c.uuid.result (Some v) old new) version (puts_some c.uuid.result c.in_ok-version.version old new c.in_ok-insert.ensures.updates.0)))

pub returns-else-state-offers : goal.returns-else-state-offers
returns-else-state-offers c =
    let book = c.args.book.now in
    let s = c.args.versions.now.entries in
    let none : offer_in book c.args.package c.args.state ≡ None =
    slice_get_past (package_at book c.args.package).offers c.args.state (omega (arith, c.if-state-offers.false, length-map c.offers-offers.result.now offering, ap length c.offers-offers.ensures.offers)) in
    subst (λ o. Puts (id_of book c.args.package) (option_map (λ x. x.version) o) s s) (sym none) (puts_none (id_of book c.args.package) s)
