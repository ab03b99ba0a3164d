-- The states of the packages so far are counted, and their offers rise.
use Rattle.std.proofs.Common.{◌≡◌, ℕ, ◌<◌, ◌-◌, ◌^◌, map, take, sum}
use Rattle.std.specs.Prelude.{min}
use Rattle.std.specs.List.Sorted.{IsStrictlySortedBy}
use Rattle.jl_versions.specs.Order.{version_cmp}
use Rattle.offer_terms.specs.Booked.{package_at}
use Rattle.book_graph.specs.StandsFor.{sizes_of}
use Rattle.book_graph.proofs.sizes.state_total.Given as goal

abbrev pub invariant-loop-package : goal.invariant-loop-package
invariant-loop-package l = record {
  total : l.total ≡ min (sum (take l.package (sizes_of l.book))) (2 ^ 64 - 1);
  rising : (p : ℕ) → p < l.package → IsStrictlySortedBy version_cmp (map (λ x. x.version) (package_at l.book p).offers);
}
