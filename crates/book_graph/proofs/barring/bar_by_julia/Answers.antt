use Rattle.std.proofs.Common.{arith, subst}
use Rattle.jl_versions.specs.Triple.{triple_of}
use Rattle.book_graph.specs.Building.{Bars, IsAmong, refuses_julia}
use Rattle.book_graph.proofs.Steps.{bars_begin, bars_next}
use Rattle.book_graph.proofs.States.{of_package, bars_anywhere}
use Rattle.book_graph.proofs.barring.bar_by_julia.Goals as goal

pub loop-package-init : goal.loop-package-init
loop-package-init c = bars_begin c.args.builder.now (of_package c.args.book.now (refuses_julia (triple_of c.args.julia.now.version)))

pub loop-package-preserved : goal.loop-package-preserved
loop-package-preserved c =
    let test = refuses_julia (triple_of c.args.julia.now.version) in
    bars_next c.args.builder.now c.loop-package.builder c.bar_offers.new.builder (of_package c.args.book.now test) c.loop-package.package c.loop-package.invariant
    (subst (λ offers. Bars c.loop-package.builder c.bar_offers.new.builder (IsAmong c.loop-package.package offers test)) c.offers.ensures.offers c.bar_offers.ensures)

pub returns : goal.returns
returns c =
    bars_anywhere c.args.builder.now c.loop-package.builder c.args.book.now (refuses_julia (triple_of c.args.julia.now.version)) c.loop-package.package
    (omega (arith, c.loop-package-test.false, c.packages-package-end.ensures.count)) c.loop-package.invariant
