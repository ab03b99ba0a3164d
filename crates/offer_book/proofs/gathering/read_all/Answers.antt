-- Each step leaves one number less.
use Rattle.std.proofs.Common.{◌≡◌, ◌+◌, ◌-◌, ◌≤◌, arith, ◌∙◌}
use Rattle.offer_book.specs.AllOffers.{found_in}
use Rattle.offer_book.specs.Gathered.{most_packages}
use Rattle.offer_book.specs.Made.{scope_of, reaching}
use Rattle.offer_book.specs.Numbers.{walk}
use Rattle.offer_book.proofs.GatherLemmas.{told-more, told-end, told-stop, told-full, most-left, none-left, went-on, came-to-end}
use Rattle.offer_book.proofs.gathering.read_all.Goals as goal

pub packages-preserved : goal.packages-preserved
packages-preserved g c =
    let (same, later, other, count, front, walks) = c.packages.invariant in
    let n = c.packages.number in
    let (counted, first) = went-on n _ _ c.in-Ok.more c.in-Ok.ensures.next c.if-not-more.false in (
      c.read_next.ensures.files ∙ same,
      omega (arith, later, c.read_next.ensures.later),
      c.read_next.ensures.other ∙ other,
      counted,
      first,
      told-more _ (λ all. found_in all c.args.catalog.now (scope_of c.args.demand.now)) _ (most_packages - n) (most_packages - (n + 1)) _ _ (most-left n c.packages-test.true) walks (rw same at c.in-Ok.ensures.told),
    )

pub returns-then-not-more-clause-told : goal.returns-then-not-more-clause-told
returns-then-not-more-clause-told g c =
    let (same, later, other, count, front, walks) = c.packages.invariant in
    let n = c.packages.number in
    told-end _ (λ all. found_in all c.args.catalog.now (scope_of c.args.demand.now)) _ (most_packages - n) (most_packages - (n + 1)) _ c.read_next.new.mentions.entries c.read_next.new.book (most-left n c.packages-test.true)
    (came-to-end n c.read_next.new.mentions.entries c.read_next.new.book c.in-Ok.more c.in-Ok.ensures.next c.if-not-more.true) walks (rw same at c.in-Ok.ensures.told)

pub returns-in-Err-clause-told : goal.returns-in-Err-clause-told
returns-in-Err-clause-told g c =
    let (same, later, other, count, front, walks) = c.packages.invariant in
    let n = c.packages.number in
    told-stop _ c.in-Err.fault (λ all. found_in all c.args.catalog.now (scope_of c.args.demand.now)) _ (most_packages - n) (most_packages - (n + 1)) _ (most-left n c.packages-test.true)
    walks (rw same at c.in-Err.ensures.told)

pub returns-clause-told : goal.returns-clause-told
returns-clause-told g c =
    let (same, later, other, count, front, walks) = c.packages.invariant in
    let n = c.packages.number in
    let all : 4096 ≤ n = omega (arith, c.packages-test.false) in
    told-full _ (λ all. found_in all c.args.catalog.now (scope_of c.args.demand.now)) _ (most_packages - n) _ (none-left n all) walks
