-- How the messages are kept, and what is kept with them: for each state the sum of the messages to it.
use Rattle.std.specs.Prelude.{◌≡◌, ◌≢◌, ℕ, ◌<◌, ◌≤◌, List, [], length, slice_index, slice_index_or, Option, None, Some}
use Rattle.std.specs.List.Sorted.{IsStrictlyIncreasing}
use Rattle.version_graph.specs.Domain.{Rows, row}
use Rattle.maxsum_messages.specs.Field.{field}
use Rattle.maxsum_messages.specs.Post.{Post, senders_of, said_to, message, heard}

-- neighbours of q among n packages, rising, not all of them
pub record AreSenders (n q : ℕ) (xs : List ℕ) : Type 0 where
  pub rising : IsStrictlyIncreasing xs
  pub known : (k : ℕ) → k < length xs → slice_index xs k < n
  pub apart : (k : ℕ) → k < length xs → slice_index xs k ≢ q
  pub few : length xs ≤ 4095

-- a message from each neighbour, at each state of the receiver
pub record AreShaped {W : Type 0} (sizes : List ℕ) (senders : List (List ℕ)) (said : List (List (List W))) : Type 0 where
  pub each : length said ≡ length sizes
  pub answered : (q : ℕ) → q < length sizes → length (slice_index_or said q []) ≡ length (slice_index_or senders q [])
  pub wide : (q k : ℕ) → q < length sizes → k < length (slice_index_or said q []) → length (slice_index_or (slice_index_or said q []) k []) ≡ slice_index sizes q

pub record IsKept {W : Type 0} (Small : W → Type 0) (none : W) (plus : W → W → W) (m : Post W) (sums : List (List W)) : Type 0 where
  pub packages : length m.sizes ≤ 4096
  pub each : length m.senders ≡ length m.sizes
  pub senders : (q : ℕ) → q < length m.sizes → AreSenders (length m.sizes) q (senders_of m q)
  pub shaped : AreShaped m.sizes m.senders m.said
  pub added : length sums ≡ length m.sizes
  pub wide : (q : ℕ) → q < length m.sizes → length (slice_index_or sums q []) ≡ slice_index m.sizes q
  pub summed : (q i : ℕ) → q < length m.sizes → i < slice_index m.sizes q → field none sums q i ≡ heard none plus i (said_to m q)
  pub small : (q k j : ℕ) → Small (message none m q k j)

-- room for the states of one package with what they weigh, and for what is said to those of another
pub record HasRoom {W : Type 0} (sizes : List ℕ) (room : ℕ) (raw : List W) : Type 0 where
  pub states : (p : ℕ) → p < length sizes → slice_index sizes p ≤ room
  pub more_room : (p : ℕ) → p < length sizes → slice_index sizes p ≤ length raw

-- the messages that are prepared for the next round
pub record IsReady {W : Type 0} (m : Post W) (next : List (List (List W))) (room : ℕ) (raw : List W) : Type 0 where
  pub shaped : AreShaped m.sizes m.senders next
  pub enough : HasRoom m.sizes room raw

-- the place of q in the list, or none where it isn't there
abbrev pub IsPlaceOf : List ℕ → ℕ → Option ℕ → Type 0
IsPlaceOf xs q None = (k : ℕ) → k < length xs → slice_index xs k ≡ q → ⊥
IsPlaceOf xs q (Some k) = (k < length xs) × (slice_index xs k ≡ q)

-- a field and a place in a domain for each state
pub record AreAligned {W : Type 0} (sizes : List ℕ) (f : List (List W)) (d : Rows) : Type 0 where
  pub fields : length f ≡ length sizes
  pub field_places : (p : ℕ) → p < length sizes → length (slice_index_or f p []) ≡ slice_index sizes p
  pub domains : length d ≡ length sizes
  pub domain_places : (p : ℕ) → p < length sizes → length (row d p) ≡ slice_index sizes p
