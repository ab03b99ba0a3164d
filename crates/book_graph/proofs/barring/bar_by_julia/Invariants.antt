-- The offers of the packages so far that don't allow Julia's version are forbidden.
use Rattle.jl_versions.specs.Triple.{triple_of}
use Rattle.book_graph.specs.Building.{Bars, UpTo, refuses_julia}
use Rattle.book_graph.proofs.States.{of_package}
use Rattle.book_graph.proofs.barring.bar_by_julia.Given as goal

abbrev pub invariant-loop-package : goal.invariant-loop-package
invariant-loop-package l = Bars l.initial.builder l.builder (UpTo (of_package l.book (refuses_julia (triple_of l.julia.version))) l.package)
