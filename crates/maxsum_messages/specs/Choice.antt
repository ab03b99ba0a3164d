-- Which package is decided next, and in which order its states are tried. (own rule, after Pkg's resolver)
use Rattle.std.specs.Prelude.{◌≡◌, ◌≢◌, ℕ, ◌<◌, Bool, true, false, List, length, slice_index, Contains, ◌⊎◌}
use Rattle.std.specs.Ordering.{is_gt, ordering_then, nat_cmp}
use Rattle.std.specs.declared.cmp.Ordering.{Ordering}
use Rattle.std.specs.declared.cmp.Ordering.TheVariants.{Less}
use Rattle.version_graph.specs.Family.{Family}

-- at most one number passes
abbrev pub IsSingle : (ℕ → Bool) → Type 0
IsSingle test = (i j : ℕ) → test i ≡ true → test j ≡ true → i ≡ j

module _ {W : Type 0} (cmp : W → W → Ordering) where
  -- how far the best of two or more values is above the second best
  pub record IsLead (minus : W → W → W) (test : ℕ → Bool) (value : ℕ → W) (lead : W) : Type 0 where
    pub first : ℕ
    pub second : ℕ
    pub first_passes : test first ≡ true
    pub second_passes : test second ≡ true
    pub apart : second ≢ first
    pub best : (i : ℕ) → test i ≡ true → is_gt (cmp (value i) (value first)) ≡ false
    pub next : (i : ℕ) → test i ≡ true → i ≢ first → is_gt (cmp (value i) (value second)) ≡ false
    pub here : lead ≡ minus (value first) (value second)

  -- at most one number passes, or the lead isn't above the other one
  abbrev pub Trails : (W → W → W) → (ℕ → Bool) → (ℕ → W) → W → Type 0
  Trails minus test value other = IsSingle test ⊎ ((lead : W) × IsLead minus test value lead × (is_gt (cmp lead other) ≡ false))

  -- at most one number passes, or the lead is below the other one
  abbrev pub TrailsClearly : (W → W → W) → (ℕ → Bool) → (ℕ → W) → W → Type 0
  TrailsClearly minus test value other = IsSingle test ⊎ ((lead : W) × IsLead minus test value lead × (is_gt (cmp other lead) ≡ true))

  -- the package below n whose lead is the greatest, the least number on a tie
  pub record IsChosen (minus : W → W → W) (n : ℕ) (d : Family) (value : ℕ → ℕ → W) (p : ℕ) : Type 0 where
    pub known : p < n
    pub lead : W
    pub led : IsLead minus (d p) (value p) lead
    pub most : (q : ℕ) → q < n → Trails minus (d q) (value q) lead
    pub least : (q : ℕ) → q < p → TrailsClearly minus (d q) (value q) lead

  -- where the number i stands to j: first the one with the greater value, of equal values the greater number
  abbrev pub standing : (ℕ → W) → ℕ → ℕ → Ordering
  standing value i j = ordering_then (cmp (value j) (value i)) (nat_cmp j i)

  -- the number i is tried before j
  abbrev pub IsBefore : (ℕ → W) → ℕ → ℕ → Type 0
  IsBefore value i j = standing value i j ≡ Less

  -- each number is tried before all later ones
  abbrev pub IsFalling : (ℕ → W) → List ℕ → Type 0
  IsFalling value xs = (k l : ℕ) → k < l → l < length xs → IsBefore value (slice_index xs k) (slice_index xs l)

  -- the numbers that pass, each once, the greatest value first and then the greater number
  pub record AreInOrder (test : ℕ → Bool) (value : ℕ → W) (xs : List ℕ) : Type 0 where
    pub passing : (k : ℕ) → k < length xs → test (slice_index xs k) ≡ true
    pub whole : (i : ℕ) → test i ≡ true → Contains xs i
    pub falling : IsFalling value xs
