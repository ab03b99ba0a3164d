use Rattle.std.proofs.Common.{◌-◌, ◌^◌, length, map, sum, refl, sym, ap, ◌∙◌, subst, inl, inr, arith}
use Rattle.std.specs.Prelude.{min}
use Rattle.std.specs.List.Sorted.{IsStrictlySortedBy}
use Rattle.std.proofs.lemmas.Bool.{cases_eq}
use Rattle.std.proofs.lemmas.List.{length-map, take_all}
use Rattle.jl_versions.specs.Order.{version_cmp}
use Rattle.offer_terms.specs.Offered.{offering}
use Rattle.offer_terms.specs.Booked.{package_at}
use Rattle.book_graph.specs.StandsFor.{sizes_of, state_count}
use Rattle.book_graph.proofs.Counts.{total_more, rising_offers}
use Rattle.book_graph.proofs.sizes.state_total.Goals as goal

pub loop-package-init : goal.loop-package-init
loop-package-init c = record { total = refl; rising = λ p below. absurd (omega (arith, below)) }

pub loop-package-preserved : goal.loop-package-preserved
loop-package-preserved c =
    let book = c.args.book.now in
    let n = c.loop-package.package in
    let inv = c.loop-package.invariant in
    record {
      total = total_more book n c.loop-package.total (length c.offers-offers.result.now) c.saturating_add-total.result (2 ^ 64 - 1)
          (omega (arith, c.loop-package-test.true, c.packages-package-end.ensures.count)) inv.total
          (sym (length-map c.offers-offers.result.now offering) ∙ ap length c.offers-offers.ensures.offers) c.saturating_add-total.ensures;
      rising = λ p below. elim (cases_eq p n) [
        | inl same ↦ subst (λ k. IsStrictlySortedBy version_cmp (map (λ x. x.version) (package_at book k).offers)) (sym same)
            (rising_offers book n c.offers-offers.result.now c.offers-offers.ensures.offers c.offers-offers.ensures.rising)
        | inr ne ↦ inv.rising p (omega (arith, below, ne))
      ];
    }

pub returns-clause-total : goal.returns-clause-total
returns-clause-total c =
    let sizes = sizes_of c.args.book.now in
    c.loop-package.invariant.total ∙ ap (λ xs. min (sum xs) (2 ^ 64 - 1)) (take_all c.loop-package.package sizes
    (omega (arith, c.loop-package-test.false, c.packages-package-end.ensures.count, length-map c.args.book.now state_count)))

pub returns-clause-sound : goal.returns-clause-sound
returns-clause-sound c = record {
  once = c.packages-package-end.ensures.once;
  rising = λ p inside. c.loop-package.invariant.rising p (omega (arith, inside, c.loop-package-test.false, c.packages-package-end.ensures.count));
}
