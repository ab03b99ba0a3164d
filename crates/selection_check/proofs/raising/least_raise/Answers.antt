use Rattle.std.proofs.Common.{ℕ, arith}
use Rattle.jl_versions.specs.Triple.{triple_of}
use Rattle.selection_check.specs.Passing.{Passes}
use Rattle.selection_check.proofs.Numbers.{below_next}
use Rattle.selection_check.proofs.RaiseLemmas.{least_passes}
use Rattle.selection_check.proofs.raising.least_raise.Goals as goal

pub returns-in-Some : goal.returns-in-Some
returns-in-Some c = least_passes _ c.loop-package.package c.in-Some.place c.loop-package.invariant c.in-Some.ensures.here c.in-Some.ensures.lowest

pub loop-package-preserved : goal.loop-package-preserved
loop-package-preserved c =
    below_next (λ q. (j : ℕ) → Passes c.args.book.now (triple_of c.args.julia.now) c.args.selection.now.items c.args.table.now q j → ⊥) c.loop-package.package c.loop-package.invariant c.in_default.ensures

pub returns : goal.returns
returns c = λ q j passes. c.loop-package.invariant q (let known = passes.known in omega (arith, known, c.loop-package-test.false, c.packages-package-end.ensures.count)) j passes
