use Rattle.std.proofs.Common.{arith}
use Rattle.offer_terms.specs.Offered.{Text, Id}
use Rattle.book_graph.specs.Building.{OfPlace, IsFrom, IsAbsent}
use Rattle.book_graph.proofs.Steps.{forbids_begin, forbids_next_of, forbids_all_of, read_at}
use Rattle.book_graph.proofs.forbidding.forbid_absent.Goals as goal

pub loop-dep-init : goal.loop-dep-init
loop-dep-init c = forbids_begin c.args.builder.now (OfPlace (λ (d : Text × Id). IsFrom c.args.package c.args.state (IsAbsent c.args.book.now d.1)) c.args.deps.now)

pub loop-dep-preserved : goal.loop-dep-preserved
loop-dep-preserved c =
    forbids_next_of c.args.builder.now c.loop-dep.builder c.forbid_dep.new.builder (λ (d : Text × Id). IsFrom c.args.package c.args.state (IsAbsent c.args.book.now d.1)) c.args.deps.now c.loop-dep.dep-index c.dep-item.result c.loop-dep.invariant
    (read_at c.args.deps.now c.loop-dep.dep-index c.dep-item.result (omega arith) c.dep-item.is) c.in_ok-forbid_dep.ensures

pub returns : goal.returns
returns c =
    forbids_all_of c.args.builder.now c.loop-dep.builder (λ (d : Text × Id). IsFrom c.args.package c.args.state (IsAbsent c.args.book.now d.1)) c.args.deps.now c.loop-dep.dep-index
    (omega (arith, c.loop-dep-test.false)) c.loop-dep.invariant
