-- An offer's dependencies are mentioned before those of the offers behind it.
use Rattle.std.proofs.Common.{◌≡◌, ◌+◌, sym, ap, ◌∙◌, drop, map}
use Rattle.std.proofs.lemmas.List.Sums.{fold-append}
use Rattle.pkg_world.proofs.Each.{rest-step}
use Rattle.offer_terms.specs.Offered.{offering}
use Rattle.offer_book.specs.Numbers.{mention, mention_all, deps_offered}
use Rattle.offer_book.proofs.mentions.mention_offers.Goals as goal

pub offers-preserved : goal.offers-preserved
offers-preserved c =
    let old = c.offers.mentions.entries in
    let rest = map offering (drop (c.offers.offer-index + 1) c.args.offers.now) in
    let next = rest-step c.args.offers.now c.offers.offer-index c.offer-item.result c.offers-test.true c.offer-item.is in
    c.offers.invariant ∙ ap (λ list. mention_all old (deps_offered (map offering list))) next
    ∙ fold-append mention old c.offer-item.result.deps.items (deps_offered rest)
    ∙ ap (λ ms. mention_all ms (deps_offered rest)) (ap (mention_all old) (sym c.items.ensures.items) ∙ sym c.in_ok-mention_all.ensures)
