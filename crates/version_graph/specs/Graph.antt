-- What an instance means: how many states each package has, which states are forbidden alone, and which
-- two states are forbidden together. The last state of a package is its absent state. (own rule, after
-- Pkg, Compatibility: a version stands for a state, and what its compat refuses for a forbidden pair)
use Rattle.std.specs.Prelude.{◌≡◌, ◌≢◌, ℕ, zero, suc, ◌+◌, ◌*◌, ◌-◌, ◌<◌, ◌≤◌, Bool, true, false, if◌then◌else◌, not, ◌&&◌, ◌||◌, ◌==◌, nat_lt, List, length, slice_index, slice_index_or, [], sum, Contains}
use Rattle.std.specs.List.{list_any, range_with_len}
use Rattle.std.specs.List.Sorted.{IsStrictlyIncreasing}

pub record Graph : Type 0 where
  -- how many states each package has
  pub sizes : List ℕ
  -- by package and state, whether the state is forbidden alone
  pub barred : List (List Bool)
  -- the forbidden pairs: the lower package, the higher one, the state of the lower one and the state of the higher one
  pub pairs : List (ℕ × ℕ × ℕ × ℕ)

-- how many packages there are
abbrev pub packages : Graph → ℕ
packages g = length g.sizes

-- how many states the package p has
abbrev pub states : Graph → ℕ → ℕ
states g p = slice_index g.sizes p

-- the absent state of p
abbrev pub last : Graph → ℕ → ℕ
last g p = states g p - 1

-- whether the state i of p is forbidden alone
unfoldable pub is_barred : Graph → ℕ → ℕ → Bool
is_barred g p i = slice_index_or (slice_index_or g.barred p []) i false

-- whether the pair is listed, in this order of its two states
unfoldable pub has_pair : Graph → ℕ → ℕ → ℕ → ℕ → Bool
has_pair g p i q j = list_any (λ k. (k.0 == p && k.2 == i) && (k.1 == q && k.3 == j)) g.pairs

-- whether the state i of p and the state j of q are forbidden together, in whichever order they are named
unfoldable pub is_forbidden : Graph → ℕ → ℕ → ℕ → ℕ → Bool
is_forbidden g p i q j = if nat_lt p q then has_pair g p i q j else has_pair g q j p i

-- whether the two states are these two, in either order
abbrev pub is_pair : ℕ → ℕ → ℕ → ℕ → ℕ → ℕ → ℕ → ℕ → Bool
is_pair a b c d p i q j = ((a == p && b == i) && (c == q && d == j)) || ((a == q && b == j) && (c == p && d == i))

-- whether the two states are these two, in this order
abbrev pub is_key : ℕ → ℕ → ℕ → ℕ → ℕ → ℕ → ℕ → ℕ → Bool
is_key a b c d p i q j = (a == p && b == i) && (c == q && d == j)

-- whether the state is this one
abbrev pub is_state : ℕ → ℕ → ℕ → ℕ → Bool
is_state q j p i = q == p && j == i

-- the states of p that aren't forbidden alone
unfoldable pub is_offered : Graph → ℕ → ℕ → Bool
is_offered g p i = nat_lt p (packages g) && (nat_lt i (states g p) && not (is_barred g p i))

-- a state that there is
pub record IsKnown (g : Graph) (p i : ℕ) : Type 0 where
  pub known : p < packages g
  pub state : i < states g p

-- the numbers that pass the test, rising
pub record IsListOf (test : ℕ → Bool) (xs : List ℕ) : Type 0 where
  pub rising : IsStrictlyIncreasing xs
  pub sound : (k : ℕ) → k < length xs → test (slice_index xs k) ≡ true
  pub whole : (q : ℕ) → test q ≡ true → Contains xs q

-- the packages whose absent state is forbidden alone
abbrev pub is_root : Graph → ℕ → Bool
is_root g p = nat_lt p (packages g) && is_barred g p (last g p)

-- whether the state i of p is forbidden with the absent state of q
abbrev pub does_need : Graph → ℕ → ℕ → ℕ → Bool
does_need g p i q = nat_lt q (packages g) && (not (q == p) && is_forbidden g p i q (last g q))

-- no two absent states are forbidden together
pub record IsPlain (g : Graph) : Type 0 where
  pub apart : (p q : ℕ) → p < packages g → q < packages g → p ≢ q → is_forbidden g p (last g p) q (last g q) ≡ false

-- a forbidden pair stands between states of two different packages
pub record IsBetween (g : Graph) (p i q j : ℕ) : Type 0 where
  pub first : p < packages g
  pub second : q < packages g
  pub apart : p ≢ q
  pub first_state : i < states g p
  pub second_state : j < states g q

-- what is true of every instance: few packages and states, each package has a state, and forbidden pairs
-- are between states that there are
pub record IsGraph (g : Graph) : Type 0 where
  pub few : packages g ≤ 4096
  pub small : sum g.sizes ≤ 65536
  pub filled : (p : ℕ) → p < packages g → 0 < states g p
  pub between : (p i q j : ℕ) → is_forbidden g p i q j ≡ true → IsBetween g p i q j

-- the same states, forbidden alike
pub record SameGraph (g h : Graph) : Type 0 where
  pub sizes : h.sizes ≡ g.sizes
  pub barred : (p i : ℕ) → is_barred h p i ≡ is_barred g p i
  pub forbidden : (p i q j : ℕ) → is_forbidden h p i q j ≡ is_forbidden g p i q j

-- nothing is forbidden
pub record IsOpen (g : Graph) : Type 0 where
  pub barred : (p i : ℕ) → is_barred g p i ≡ false
  pub forbidden : (p i q j : ℕ) → is_forbidden g p i q j ≡ false

-- two packages are neighbours where at least one pair of their states is forbidden
unfoldable pub are_neighbours : Graph → ℕ → ℕ → Bool
are_neighbours g p q = list_any (λ i. list_any (λ j. is_forbidden g p i q j) (range_with_len 0 (states g q))) (range_with_len 0 (states g p))

-- f of the numbers below n, added up
abbrev pub sum_below : (ℕ → ℕ) → ℕ → ℕ
sum_below f zero = 0
sum_below f (suc n) = sum_below f n + f n

-- what one pair of packages adds: f of their numbers of states where they are neighbours
unfoldable pub share : Graph → (ℕ → ℕ → ℕ) → ℕ → ℕ → ℕ
share g f p q = if are_neighbours g p q then f (states g p) (states g q) else 0

-- f of the numbers of states of two neighbours, added up over all pairs of neighbours
unfoldable pub neighbour_sum : Graph → (ℕ → ℕ → ℕ) → ℕ
neighbour_sum g f = sum_below (λ p. sum_below (λ q. share g f p q) p) (packages g)

-- the sum over neighbouring pairs of the product of their states
abbrev pub bits : Graph → ℕ
bits g = neighbour_sum g (λ a b. a * b)

-- the sum over neighbouring pairs of the sum of their states
abbrev pub cells : Graph → ℕ
cells g = neighbour_sum g (λ a b. a + b)

-- one state for each package, none of them forbidden alone and no two forbidden together
pub record IsSolution (g : Graph) (chosen : List ℕ) : Type 0 where
  pub each : length chosen ≡ packages g
  pub offered : (p : ℕ) → p < packages g → is_offered g p (slice_index chosen p) ≡ true
  pub allowed : (p q : ℕ) → p < packages g → q < packages g → p ≢ q → is_forbidden g p (slice_index chosen p) q (slice_index chosen q) ≡ false

-- ---- laws

-- a state that isn't forbidden alone is one that there is
abbrev pub OfferedIsKnown : Type 0
OfferedIsKnown = (g : Graph) (p i : ℕ) → is_offered g p i ≡ true → IsKnown g p i
