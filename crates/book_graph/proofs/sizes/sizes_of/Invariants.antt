-- The packages so far are counted.
use Rattle.std.proofs.Common.{◌≡◌, take}
use Rattle.book_graph.specs.StandsFor.{sizes_of}
use Rattle.book_graph.proofs.sizes.sizes_of.Given as goal

abbrev pub invariant-loop-package : goal.invariant-loop-package
invariant-loop-package l = l.sizes.items ≡ take l.package (sizes_of l.book)
