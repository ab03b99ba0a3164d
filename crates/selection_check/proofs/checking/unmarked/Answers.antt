use Rattle.std.proofs.Common.{arith, sym, subst}
use Rattle.selection_check.specs.Order.{id_cmp, IsFirst}
use Rattle.selection_check.specs.Needing.{IsUnmarked}
use Rattle.selection_check.proofs.Numbers.{first_number, none_numbered}
use Rattle.selection_check.proofs.checking.unmarked.Goals as goal

pub returns-then-is_unmarked : goal.returns-then-is_unmarked
returns-then-is_unmarked c =
    let book = c.args.book.now in
    let s = c.args.selection.now.items in
    subst (IsFirst (id_cmp book) (IsUnmarked book s c.args.marks.now)) (sym c.uuid.ensures)
    (first_number book c.packages-package-end.ensures.once c.loop-package.package (omega (arith, c.loop-package-test.true, c.packages-package-end.ensures.count)) (IsUnmarked book s c.args.marks.now) c.loop-package.invariant c.if-is_unmarked.ensures)

pub returns : goal.returns
returns c = λ u l.
    let book = c.args.book.now in
    let s = c.args.selection.now.items in
    none_numbered book (IsUnmarked book s c.args.marks.now) (λ t k. k.known)
    (λ q below. c.loop-package.invariant q (omega (arith, below, c.loop-package-test.false, c.packages-package-end.ensures.count))) u l
