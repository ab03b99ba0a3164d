-- The forbidden pairs as an instance lists them while it is made.
use Rattle.std.specs.Prelude.{◌≡◌, ℕ, ◌<◌, ◌≤◌, Bool, ◌&&◌, ◌||◌, ◌⊎◌, ◌==◌, List, [], ◌∷◌, length, slice_index_or}
use Rattle.std.specs.List.{list_any, flat_map, range_with_len}
use Rattle.version_graph.specs.Graph.{Graph}

-- the lower package, the higher one, the state of the lower one and the state of the higher one
abbrev pub Key : Type 0
Key = ℕ × ℕ × ℕ × ℕ

-- the listed pair at a place
abbrev pub pair_at : List Key → ℕ → Key
pair_at pairs k = slice_index_or pairs k (0, 0, 0, 0)

-- whether the pair is listed, in this order of its two states
abbrev pub is_in : List Key → ℕ → ℕ → ℕ → ℕ → Bool
is_in pairs p i q j = list_any (λ k. (k.0 == p && k.2 == i) && (k.1 == q && k.3 == j)) pairs

-- nothing but the pairs
abbrev pub bare : List Key → Graph
bare pairs = record { sizes = []; barred = []; pairs = pairs }

-- whether a listed pair is of these two packages, in either order
abbrev pub is_linked : List Key → ℕ → ℕ → Bool
is_linked pairs p q = list_any (λ k. (k.0 == p && k.1 == q) || (k.0 == q && k.1 == p)) pairs

-- each listed pair has the lower package first, and both are below n
pub record AreBelow (n : ℕ) (pairs : List Key) : Type 0 where
  pub at : (k : ℕ) → k < length pairs → ((pair_at pairs k).0 < (pair_at pairs k).1) × ((pair_at pairs k).1 < n)

-- the packages of x come before those of y, or are the same
abbrev pub ComesFirst : Key → Key → Type 0
ComesFirst x y = (x.0 < y.0) ⊎ ((x.0 ≡ y.0) × (x.1 ≤ y.1))

-- the pairs stand in the order of their packages
pub record AreInOrder (pairs : List Key) : Type 0 where
  pub order : (m n : ℕ) → m < n → n < length pairs → ComesFirst (pair_at pairs m) (pair_at pairs n)

-- every pair of packages below n and of states below w
unfoldable pub every_key : ℕ → ℕ → List Key
every_key n w =
    flat_map (λ p. flat_map (λ q. flat_map (λ i. flat_map (λ j. (p, q, i, j) ∷ []) (range_with_len 0 w)) (range_with_len 0 w)) (range_with_len 0 n)) (range_with_len 0 n)
