-- When there is no instance for a book and a demand, and which count is told. (own rule)
use Rattle.std.specs.Prelude.{◌≡◌, ◌-◌, ◌<◌, ◌≤◌, ◌^◌, List, length, sum, min}
use Rattle.pkg_world.specs.declared.cause.LimitKind.TheVariants.{Packages, States, Bits, Cells, TreeDepth, TreeFiles}
use Rattle.offer_terms.specs.Booked.{Packed}
use Rattle.offer_terms.specs.Demanded.{Wanted}
use Rattle.version_graph.specs.Graph.{Graph, bits, cells}
use Rattle.version_graph.specs.declared.fault.GraphFault.{GraphFault}
use Rattle.version_graph.specs.declared.fault.GraphFault.TheVariants.{Limit, Memory}
use Rattle.book_graph.specs.StandsFor.{sizes_of, StandsFor}

-- something is true of an instance that stands for the book and the demand. The sums of all of them are the same
pub record SaysOfOne (book : List Packed) (w : Wanted) (Says : Graph → Type 0) : Type 0 where
  pub graph : Graph
  pub stands : StandsFor book w graph
  pub says : Says graph

-- neither more than 4,096 packages nor more than 65,536 states
pub record HasFew (book : List Packed) : Type 0 where
  pub few : length book ≤ 4096
  pub small : sum (sizes_of book) ≤ 65536

-- more than 4,096 packages, more than 65,536 states, more than 2^30 bits or more than 2^25 cells, the first of these. The
-- count of packages is told as 4,097; the others are told whole, that of states up to the greatest number of 64 bits
abbrev pub IsPast : List Packed → Wanted → GraphFault → Type 0
IsPast book w Memory = Unit {0}
IsPast book w (Limit Packages n) = (4096 < length book) × (n ≡ 4097)
IsPast book w (Limit States n) = (length book ≤ 4096) × (65536 < sum (sizes_of book)) × (n ≡ min (sum (sizes_of book)) (2 ^ 64 - 1))
IsPast book w (Limit Bits n) = HasFew book × SaysOfOne book w (λ g. (2 ^ 30 < bits g) × (n ≡ bits g))
IsPast book w (Limit Cells n) = HasFew book × SaysOfOne book w (λ g. (bits g ≤ 2 ^ 30) × (2 ^ 25 < cells g) × (n ≡ cells g))
IsPast book w (Limit TreeDepth n) = ⊥
IsPast book w (Limit TreeFiles n) = ⊥

-- no limit is passed
pub record Fits (book : List Packed) (w : Wanted) : Type 0 where
  pub few : length book ≤ 4096
  pub small : sum (sizes_of book) ≤ 65536
  pub sums : SaysOfOne book w (λ g. (bits g ≤ 2 ^ 30) × (cells g ≤ 2 ^ 25))
