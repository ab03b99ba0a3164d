-- How an instance is kept, and what its parts have to do with its meaning.
use Rattle.std.specs.Prelude.{◌≡◌, ℕ, ◌<◌, ◌≤◌, Bool, true, ◌&&◌, ◌||◌, ◌==◌, List, [], length, map, slice_index, slice_index_or, sum}
use Rattle.std.specs.List.{list_any, filter}
use Rattle.std.specs.List.Sorted.{IsStrictlyIncreasing}
use Rattle.std.specs.declared.vec.Vec.{Vec}
use Rattle.version_graph.specs.Graph.{Graph, packages, states, has_pair, are_neighbours, IsListOf}
use Rattle.version_graph.specs.Keys.{Key, is_linked, every_key}
use Rattle.version_graph.specs.Links.{Linked, link_at, together_in, IsLinkOf}

-- the lists in a list of vectors
abbrev pub rows_of : {T Z : Type 0} → List (Vec T Z) → List (List T)
rows_of vs = map (λ v. v.items) vs

-- what listed pairs make
abbrev pub graph_of : {Z : Type 0} → List ℕ → List (Vec Bool Z) → List Key → Graph
graph_of sizes barred pairs = record { sizes = sizes; barred = rows_of barred; pairs = pairs }

-- the pairs that the tables of the packages forbid
unfoldable pub pairs_in : List ℕ → List Linked → List Key
pairs_in sizes links = filter (λ k. together_in links k.0 k.2 k.1 k.3) (every_key (length links) (sum sizes))

-- what the tables of the packages make
abbrev pub told_by : {Z : Type 0} → List ℕ → List (Vec Bool Z) → List Linked → Graph
told_by sizes barred links = graph_of sizes barred (pairs_in sizes links)

-- each listed pair has the lower package first and is between states that there are
pub record IsListed (g : Graph) (p i q j : ℕ) : Type 0 where
  pub below : p < q
  pub known : q < packages g
  pub first_state : i < states g p
  pub second_state : j < states g q

-- what holds of the parts of an instance that is being built
pub record IsKept {Z : Type 0} (g : Graph) (barred : List (Vec Bool Z)) : Type 0 where
  pub few : packages g ≤ 4096
  pub small : sum g.sizes ≤ 65536
  pub filled : (p : ℕ) → p < packages g → 0 < states g p
  pub listed : (p i q j : ℕ) → has_pair g p i q j ≡ true → IsListed g p i q j
  pub each : length barred ≡ packages g
  pub wide : (p : ℕ) → p < packages g → length (slice_index_or (rows_of barred) p []) ≡ states g p

-- what holds of the parts of an instance
pub record IsStored {Z : Type 0} (g : Graph) (barred : List (Vec Bool Z)) (links : List Linked) (total : ℕ) : Type 0 where
  pub kept : IsKept g barred
  pub each : length links ≡ packages g
  pub lists : (p : ℕ) → p < packages g → IsListOf (are_neighbours g p) (link_at links p).numbers
  pub tables : (p : ℕ) → p < packages g → IsLinkOf g p (link_at links p)
  pub counted : total ≡ sum g.sizes

-- for each package the row of its neighbours
pub record AreNeighbourRows (g : Graph) (rows : List (List ℕ)) : Type 0 where
  pub each : length rows ≡ packages g
  pub lists : (p : ℕ) → p < packages g → IsListOf (are_neighbours g p) (slice_index_or rows p [])
  pub inside : (p k : ℕ) → p < packages g → k < length (slice_index_or rows p []) → slice_index (slice_index_or rows p []) k < packages g

-- whether the list has the number
abbrev pub includes : List ℕ → ℕ → Bool
includes xs x = list_any (λ y. y == x) xs

-- for each package, rising, those with which a pair is listed
pub record AreLinked (n : ℕ) (pairs : List Key) (rows : List (List ℕ)) : Type 0 where
  pub each : length rows ≡ n
  pub rising : (p : ℕ) → p < n → IsStrictlyIncreasing (slice_index_or rows p [])
  pub linked : (p q : ℕ) → p < n → includes (slice_index_or rows p []) q ≡ is_linked pairs p q

-- each row rises
pub record AreRising (rows : List (List ℕ)) : Type 0 where
  pub rising : (p : ℕ) → p < length rows → IsStrictlyIncreasing (slice_index_or rows p [])

-- the row of p has q besides, and every other row is as before
pub record AddsLink (old new : List (List ℕ)) (p q : ℕ) : Type 0 where
  pub linked : (a b : ℕ) → a < length old → includes (slice_index_or new a []) b ≡ (includes (slice_index_or old a []) b || (a == p && b == q))
