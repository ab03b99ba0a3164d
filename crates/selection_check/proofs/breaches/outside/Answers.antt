use Rattle.std.proofs.Common.{arith, sym, subst}
use Rattle.jl_versions.specs.Triple.{triple_of}
use Rattle.offer_terms.specs.Offered.{Id}
use Rattle.offer_terms.specs.Booked.{package_at, book_offers}
use Rattle.selection_check.specs.Order.{both_cmp, IsFirst}
use Rattle.selection_check.specs.Breaches.{Excludes}
use Rattle.selection_check.proofs.Ranks.{taken_held}
use Rattle.selection_check.proofs.Numbers.{first_pair, none_numbered, below_next}
use Rattle.selection_check.proofs.breaches.outside.Goals as goal

pub returns-in-Some : goal.returns-in-Some
returns-in-Some c =
    let book = c.args.book.now in
    let s = c.args.selection.now.items in
    let julia = triple_of c.args.julia.now in
    let p = c.loop-package.package in
    subst (λ u. IsFirst (both_cmp book) (λ x. Excludes (book_offers book) julia s x.0 x.1) (u, c.in-Some.other)) (sym c.uuid.ensures)
    (first_pair book c.packages-package-end.ensures.once p (omega (arith, c.loop-package-test.true, c.packages-package-end.ensures.count)) (Excludes (book_offers book) julia s) c.loop-package.invariant c.in-Some.other c.in-Some.ensures)

pub loop-package-preserved : goal.loop-package-preserved
loop-package-preserved c =
    let book = c.args.book.now in
    below_next (λ q. (d : Id) → Excludes (book_offers book) (triple_of c.args.julia.now) c.args.selection.now.items (package_at book q).uuid d → ⊥) c.loop-package.package c.loop-package.invariant c.in_default.ensures

pub returns : goal.returns
returns c = λ x l.
    let book = c.args.book.now in
    let s = c.args.selection.now.items in
    none_numbered book (λ t. Excludes (book_offers book) (triple_of c.args.julia.now) s t x.1) (λ t k. taken_held book s t k.offer k.selected)
    (λ q below. c.loop-package.invariant q (omega (arith, below, c.loop-package-test.false, c.packages-package-end.ensures.count)) x.1) x.0 l
