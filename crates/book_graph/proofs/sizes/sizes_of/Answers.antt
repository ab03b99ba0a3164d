use Rattle.std.proofs.Common.{◌≡◌, ◌+◌, ◌++◌, ◌∷◌, [], ◌<◌, length, get_or, sym, ap, ◌∙◌, arith}
use Rattle.std.proofs.lemmas.List.{length-map, take_all, take_more}
use Rattle.offer_terms.specs.Offered.{offering}
use Rattle.book_graph.specs.StandsFor.{sizes_of, state_count}
use Rattle.book_graph.proofs.Counts.{count_at, few_offers}
use Rattle.book_graph.proofs.sizes.sizes_of.Goals as goal

pub overflow_cast-offers : goal.overflow_cast-offers
overflow_cast-offers c =
    let few = few_offers c.args.book.now c.requires c.loop-package.package (omega (arith, c.loop-package-test.true, c.packages-package-end.ensures.count)) in
    omega (arith, few, length-map c.offers.result.now offering, ap length c.offers.ensures.offers)

pub overflow_add-offers : goal.overflow_add-offers
overflow_add-offers c =
    let few = few_offers c.args.book.now c.requires c.loop-package.package (omega (arith, c.loop-package-test.true, c.packages-package-end.ensures.count)) in
    omega (arith, few, length-map c.offers.result.now offering, ap length c.offers.ensures.offers)

pub loop-package-init : goal.loop-package-init
loop-package-init c = c.new-sizes.ensures.items

pub loop-package-preserved : goal.loop-package-preserved
loop-package-preserved c =
    let book = c.args.book.now in
    let n = c.loop-package.package in
    let inside : n < length book = omega (arith, c.loop-package-test.true, c.packages-package-end.ensures.count) in
    let count : length c.offers.result.now + 1 ≡ get_or (sizes_of book) n 0 =
    ap (λ k. k + 1) (sym (length-map c.offers.result.now offering) ∙ ap length c.offers.ensures.offers) ∙ sym (count_at book n inside) in
    c.in_ok-push.ensures.items ∙ (λ i. c.loop-package.invariant i ++ count i ∷ []) ∙ sym (take_more (sizes_of book) n 0 (omega (arith, inside, length-map book state_count)))

pub returns : goal.returns
returns c =
    c.loop-package.invariant ∙ take_all c.loop-package.package (sizes_of c.args.book.now)
    (omega (arith, c.loop-package-test.false, c.packages-package-end.ensures.count, length-map c.args.book.now state_count))
