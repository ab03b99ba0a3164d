-- What a search for the choice keeps.
use Rattle.std.specs.Prelude.{◌≡◌, ℕ, ◌<◌, ◌≤◌, Bool, true, false, ◌==◌, Option, None, Some, if◌then◌else◌, List, length, slice_index, Contains}
use Rattle.std.specs.Ordering.{is_gt}
use Rattle.std.specs.declared.cmp.Ordering.{Ordering}
use Rattle.maxsum_messages.specs.Choice.{IsSingle, IsLead, IsBefore, IsFalling}

-- whether the number is the one that is passed over
abbrev pub is_skipped : Option ℕ → ℕ → Bool
is_skipped None i = false
is_skipped (Some k) i = i == k

-- the lead of the best value, or none where at most one number passes
abbrev pub HasLead : {W : Type 0} → (W → W → Ordering) → (W → W → W) → (ℕ → Bool) → (ℕ → W) → Option W → Type 0
HasLead cmp minus test value None = IsSingle test
HasLead cmp minus test value (Some lead) = IsLead cmp minus test value lead

-- the package with the greater lead; the first one on a tie
abbrev pub leading : {W : Type 0} → (W → W → Ordering) → Option (ℕ × W) → ℕ → Option W → Option (ℕ × W)
leading cmp best p None = best
leading cmp None p (Some lead) = Some (p, lead)
leading cmp (Some other) p (Some lead) = if is_gt (cmp lead other.1) then Some (p, lead) else Some other

-- the package of the lead, if there is one
abbrev pub package_of : {W : Type 0} → Option (ℕ × W) → Option ℕ
package_of None = None
package_of (Some best) = Some best.0

-- the numbers below n that pass, in the order in which they are tried
pub record AreInOrderBelow {W : Type 0} (cmp : W → W → Ordering) (n : ℕ) (test : ℕ → Bool) (value : ℕ → W) (xs : List ℕ) : Type 0 where
  pub passing : (k : ℕ) → k < length xs → test (slice_index xs k) ≡ true
  pub below : (k : ℕ) → k < length xs → slice_index xs k < n
  pub whole : (i : ℕ) → i < n → test i ≡ true → Contains xs i
  pub falling : IsFalling cmp value xs

-- what stands below the span is tried before i, and what stands above it after i
pub record IsSplit {W : Type 0} (cmp : W → W → Ordering) (value : ℕ → W) (xs : List ℕ) (i low high : ℕ) : Type 0 where
  pub ordered : low ≤ high
  pub bound : high ≤ length xs
  pub before : (k : ℕ) → k < low → IsBefore cmp value (slice_index xs k) i
  pub after : (k : ℕ) → high ≤ k → k < length xs → IsBefore cmp value i (slice_index xs k)

-- the greater of the two, where the second is wanted; the first one on a tie
abbrev pub raised : {W : Type 0} → (W → W → Ordering) → Option W → W → Bool → Option W
raised cmp best weight false = best
raised cmp None weight true = Some weight
raised cmp (Some other) weight true = Some (if is_gt (cmp weight other) then weight else other)
