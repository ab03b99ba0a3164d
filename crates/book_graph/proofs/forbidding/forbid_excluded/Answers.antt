use Rattle.std.proofs.Common.{arith}
use Rattle.book_graph.specs.Building.{AreExcludedOf}
use Rattle.book_graph.proofs.Steps.{forbids_begin, forbids_next}
use Rattle.book_graph.proofs.Pairs.{forbids_of_all}
use Rattle.book_graph.proofs.forbidding.forbid_excluded.Goals as goal

pub loop-package-init : goal.loop-package-init
loop-package-init c = forbids_begin c.args.builder.now (AreExcludedOf c.args.book.now)

pub loop-package-preserved : goal.loop-package-preserved
loop-package-preserved c =
    forbids_next c.args.builder.now c.loop-package.builder c.forbid_of_package.new.builder (AreExcludedOf c.args.book.now) c.loop-package.package c.loop-package.invariant
    c.in_ok-forbid_of_package.ensures

pub returns : goal.returns
returns c =
    forbids_of_all c.args.builder.now c.loop-package.builder c.args.book.now c.loop-package.package
    (omega (arith, c.loop-package-test.false, c.packages-package-end.ensures.count)) c.loop-package.invariant
