-- What a package has to do with its neighbours: for each neighbour a table with a row for each state of the package, and in
-- it a place for each state of the neighbour, that is true where the two states are allowed together.
use Rattle.std.specs.Prelude.{◌≡◌, ℕ, ◌<◌, Bool, true, not, ◌&&◌, ◌==◌, nat_lt, List, [], length, slice_index, slice_index_or}
use Rattle.std.specs.List.{list_any, range_with_len}
use Rattle.std.specs.List.Sorted.{IsStrictlyIncreasing}
use Rattle.bit_rows.specs.Rows.{row_at, truth_at}
use Rattle.version_graph.specs.Graph.{Graph, states, is_forbidden}
use Rattle.version_graph.specs.Keys.{Key, bare}

abbrev pub Table : Type 0
Table = List (List Bool)

pub record Linked : Type 0 where
  -- the neighbours, rising
  pub numbers : List ℕ
  -- for each of them its table
  pub tables : List Table

-- a table for each neighbour, and these rise
pub record IsLinked (l : Linked) : Type 0 where
  pub each : length l.tables ≡ length l.numbers
  pub rising : IsStrictlyIncreasing l.numbers

-- the neighbour in a place
abbrev pub number_at : Linked → ℕ → ℕ
number_at l k = slice_index l.numbers k

-- the table of the neighbour in a place
abbrev pub table_at : Linked → ℕ → Table
table_at l k = slice_index_or l.tables k []

-- whether the states i and j are allowed together, j being of the neighbour in the place k
abbrev pub allows_at : Linked → ℕ → ℕ → ℕ → Bool
allows_at l k i j = truth_at (row_at (table_at l k) i) j

-- the table has that row, and the row that place
pub record IsInTable (t : Table) (i j : ℕ) : Type 0 where
  pub row : i < length t
  pub place : j < length (row_at t i)

-- the same tables, but for the places
pub record SameShape (old new : Linked) : Type 0 where
  pub numbers : new.numbers ≡ old.numbers
  pub rows : (k : ℕ) → length (table_at new k) ≡ length (table_at old k)
  pub wide : (k i : ℕ) → length (row_at (table_at new k) i) ≡ length (row_at (table_at old k) i)

-- the states i and j, j being of the package q, are forbidden besides
pub record Forbids (old new : Linked) (i q j : ℕ) : Type 0 where
  pub shape : SameShape old new
  pub allows : (k b d : ℕ) → k < length old.numbers → allows_at new k b d ≡ (allows_at old k b d && not (number_at old k == q && (b == i && d == j)))

-- a table of so many rows and places for each neighbour, in which everything is allowed
pub record IsFree (l : Linked) (count : ℕ) (sizes : List ℕ) : Type 0 where
  pub rows : (k : ℕ) → k < length l.numbers → length (table_at l k) ≡ count
  pub wide : (k i : ℕ) → k < length l.numbers → i < count → length (row_at (table_at l k) i) ≡ slice_index sizes (number_at l k)
  pub free : (k i j : ℕ) → k < length l.numbers → i < count → j < slice_index sizes (number_at l k) → allows_at l k i j ≡ true

-- no neighbours
abbrev pub unlinked : Linked
unlinked = record { numbers = []; tables = [] }

-- what the package p has to do with its neighbours
abbrev pub link_at : List Linked → ℕ → Linked
link_at links p = slice_index_or links p unlinked

-- whether the table has that place, and it isn't true
abbrev pub is_cleared : Table → ℕ → ℕ → Bool
is_cleared t i j = nat_lt i (length t) && (nat_lt j (length (row_at t i)) && not (truth_at (row_at t i) j))

-- whether the state i is forbidden with the state j of the neighbour q
abbrev pub forbids_in : Linked → ℕ → ℕ → ℕ → Bool
forbids_in l i q j = list_any (λ k. number_at l k == q && is_cleared (table_at l k) i j) (range_with_len 0 (length l.numbers))

-- whether the tables of the lower package p forbid its state i with the state j of q
unfoldable pub together_in : List Linked → ℕ → ℕ → ℕ → ℕ → Bool
together_in links p i q j = nat_lt p q && forbids_in (link_at links p) i q j

-- the tables of p tell what is forbidden with it
pub record IsLinkOf (g : Graph) (p : ℕ) (l : Linked) : Type 0 where
  pub rows : (k : ℕ) → k < length l.numbers → length (table_at l k) ≡ states g p
  pub wide : (k i : ℕ) → k < length l.numbers → i < states g p → length (row_at (table_at l k) i) ≡ states g (number_at l k)
  pub bits : (k i j : ℕ) → k < length l.numbers → i < states g p → j < states g (number_at l k) → allows_at l k i j ≡ not (is_forbidden g p i (number_at l k) j)

-- the two states of a pair have their places in the tables of both packages, as far as these are neighbours
pub record CanForbid (links : List Linked) (p i q j : ℕ) : Type 0 where
  pub first : p < length links
  pub second : q < length links
  pub below : p < q
  pub there : (k : ℕ) → k < length (link_at links p).numbers → number_at (link_at links p) k ≡ q → IsInTable (table_at (link_at links p) k) i j
  pub back : (k : ℕ) → k < length (link_at links q).numbers → number_at (link_at links q) k ≡ p → IsInTable (table_at (link_at links q) k) j i

-- the listed pairs are forbidden besides
pub record ForbidsAll (old new : List Linked) (pairs : List Key) : Type 0 where
  pub each : length new ≡ length old
  pub shape : (p : ℕ) → SameShape (link_at old p) (link_at new p)
  pub allows : (p k i j : ℕ) → k < length (link_at old p).numbers →
      allows_at (link_at new p) k i j ≡ (allows_at (link_at old p) k i j && not (is_forbidden (bare pairs) p i (number_at (link_at old p) k) j))

-- one package's state i is forbidden besides with the state j of q
pub record ForbidsOf (old new : List Linked) (p i q j : ℕ) : Type 0 where
  pub each : length new ≡ length old
  pub shape : (a : ℕ) → SameShape (link_at old a) (link_at new a)
  pub allows : (a k b d : ℕ) → k < length (link_at old a).numbers →
      allows_at (link_at new a) k b d ≡ (allows_at (link_at old a) k b d && not (a == p && (number_at (link_at old a) k == q && (b == i && d == j))))
