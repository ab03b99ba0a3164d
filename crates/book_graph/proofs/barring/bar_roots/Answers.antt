use Rattle.std.proofs.Common.{arith}
use Rattle.offer_terms.specs.Offered.{Text, Id}
use Rattle.book_graph.specs.Building.{OfPlace, IsAbsent}
use Rattle.book_graph.proofs.Steps.{bars_begin, bars_next_of, bars_all_of, read_at}
use Rattle.book_graph.proofs.barring.bar_roots.Goals as goal

pub loop-root-init : goal.loop-root-init
loop-root-init c = bars_begin c.args.builder.now (OfPlace (λ (r : Text × Id). IsAbsent c.args.book.now r.1) c.args.roots.now)

pub loop-root-preserved : goal.loop-root-preserved
loop-root-preserved c =
    bars_next_of c.args.builder.now c.loop-root.builder c.bar_absent.new.builder (λ (r : Text × Id). IsAbsent c.args.book.now r.1) c.args.roots.now c.loop-root.root-index c.root-item.result c.loop-root.invariant
    (read_at c.args.roots.now c.loop-root.root-index c.root-item.result (omega arith) c.root-item.is) c.bar_absent.ensures

pub returns : goal.returns
returns c =
    bars_all_of c.args.builder.now c.loop-root.builder (λ (r : Text × Id). IsAbsent c.args.book.now r.1) c.args.roots.now c.loop-root.root-index
    (omega (arith, c.loop-root-test.false)) c.loop-root.invariant
