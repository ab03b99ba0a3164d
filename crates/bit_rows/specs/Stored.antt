-- How rows are kept: as the bits of words of 64 bits.
use Rattle.std.specs.Prelude.{◌≡◌, ◌≢◌, ℕ, ◌+◌, ◌*◌, ◌/◌, ◌%◌, ◌^◌, ◌<◌, ◌≤◌, ◌==◌, Bool, true, false, List, length, map, slice_index, bit_and}
use Rattle.std.specs.List.{range_with_len}
use Rattle.std.specs.Int.{bit_at}
use Rattle.std.specs.Int.Bits.{bit_xor}

-- whether a bit is set
unfoldable pub is_set : List ℕ → ℕ → Bool
is_set words k = bit_at (slice_index words (k / 64)) (k % 64) == 1

-- n bits from one on
abbrev pub bits_from : List ℕ → ℕ → ℕ → List Bool
bits_from words start n = map (is_set words) (range_with_len start n)

-- how many words a row of that width takes
abbrev pub words_of : ℕ → ℕ
words_of width = (width + 63) / 64

-- the rows of a table, each beginning at a word
abbrev pub rows_from : List ℕ → ℕ → ℕ → ℕ → List (List Bool)
rows_from words stride width rows = map (λ r. bits_from words (64 * (r * stride)) width) (range_with_len 0 rows)

-- no bit is set from the width on
pub record IsRow (words : List ℕ) (width : ℕ) : Type 0 where
  pub narrow : width < 2 ^ 32
  pub long : length words ≡ words_of width
  pub clear : (k : ℕ) → width ≤ k → is_set words k ≡ false

-- so many rows, each of so many words
pub record IsTable (words : List ℕ) (stride width rows : ℕ) : Type 0 where
  pub long : length words ≡ rows * stride
  pub stride_is : stride ≡ words_of width

-- the words at k have a bit in common
abbrev pub meet_at : List ℕ → List ℕ → ℕ → ℕ
meet_at a b k = bit_and (slice_index a k) (slice_index b k)

-- the bits of the mask in which the words at k differ
abbrev pub differ_at : List ℕ → List ℕ → List ℕ → ℕ → ℕ
differ_at a b mask k = bit_and (bit_xor (slice_index a k) (slice_index b k)) (slice_index mask k)

-- one of the numbers from a place on isn't 0
pub record SomeFrom (f : ℕ → ℕ) (from to : ℕ) : Type 0 where
  pub at : ℕ
  pub low : from ≤ at
  pub high : at < to
  pub some : f at ≢ 0

-- all of the numbers from a place on are 0
abbrev pub NoneFrom : (ℕ → ℕ) → ℕ → ℕ → Type 0
NoneFrom f from to = (k : ℕ) → from ≤ k → k < to → f k ≡ 0

-- the words of the places from one on are met with the others, and every other word is as before
pub record HasMet (old other new : List ℕ) (from to : ℕ) : Type 0 where
  pub long : length new ≡ length old
  pub inside : (k : ℕ) → from ≤ k → k < to → slice_index new k ≡ meet_at old other k
  pub below : (k : ℕ) → k < from → slice_index new k ≡ slice_index old k
  pub above : (k : ℕ) → to ≤ k → slice_index new k ≡ slice_index old k

-- a bit that is set in both
pub record ShareBit (a b : List ℕ) : Type 0 where
  pub bit : ℕ
  pub first : is_set a bit ≡ true
  pub second : is_set b bit ≡ true

abbrev pub ShareNone : List ℕ → List ℕ → Type 0
ShareNone a b = (k : ℕ) → is_set a k ≡ true → is_set b k ≡ true → ⊥

-- a bit of the mask in which the two differ
pub record DifferInBit (a b mask : List ℕ) : Type 0 where
  pub bit : ℕ
  pub masked : is_set mask bit ≡ true
  pub apart : is_set a bit ≢ is_set b bit

abbrev pub DifferInNone : List ℕ → List ℕ → List ℕ → Type 0
DifferInNone a b mask = (k : ℕ) → is_set mask k ≡ true → is_set a k ≡ is_set b k

-- the old words with that bit set, or cleared
pub record HasBit (old new : List ℕ) (bit : ℕ) (value : Bool) : Type 0 where
  pub long : length new ≡ length old
  pub here : is_set new bit ≡ value
  pub others : (k : ℕ) → k ≢ bit → is_set new k ≡ is_set old k
