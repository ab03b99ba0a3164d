-- The message between two packages of which one has one state left.
use Rattle.std.proofs.Common.{◌≡◌, ◌≢◌, ℕ, zero, suc, ◌+◌, ◌<◌, Bool, true, false, ◌&&◌, ◌||◌, not, refl, sym, ◌∙◌, subst, ap, arith, eqb, Option, None, Some, ◌⊎◌, inl, inr}
use Rattle.std.proofs.lemmas.Bool.{eqb-true}
use Rattle.std.specs.Ordering.{is_gt}
use Rattle.std.specs.declared.cmp.Ordering.{Ordering}
use Rattle.std.specs.Cmp.{IsTotalOrder, tied_itself}
use Rattle.version_graph.specs.Graph.{Graph, packages, is_forbidden}
use Rattle.version_graph.specs.Domain.{Rows, has, size_of, OneStateIsLeft}
use Rattle.version_graph.specs.Family.{Family, IsStable}
use Rattle.maxsum_messages.specs.Greatest.{IsGreatest}
use Rattle.maxsum_messages.specs.Round.{IsMessage}
use Rattle.maxsum_messages.specs.Choice.{IsSingle}
use Rattle.maxsum_messages.specs.Searched.{raised}
use Rattle.maxsum_messages.proofs.Best.{IsBestBelow, best-more, best-end, both-first, forbidden-turned}

-- ---- where some number passes, there is a greatest value

next : (n : ℕ) → n + 1 ≡ suc n
next n = omega arith

module _ {W : Type 0} (cmp : W → W → Ordering) (total : IsTotalOrder cmp) (test : ℕ → Bool) (value : ℕ → W) where
  best-of : (n : ℕ) → (best : Option W) × IsBestBelow cmp test value n best
  best-of zero = (None, λ i h t. absurd (omega (arith, h)))
  best-of (suc n) =
      let before = best-of n in
      let after = raised cmp before.0 (value n) (test n) in
      (after, subst (λ m. IsBestBelow cmp test value m after) (next n) (best-more cmp test value total n before.0 after before.1 refl))

  found : (n : ℕ) (best : Option W) → IsBestBelow cmp test value n best → ((i : ℕ) → test i ≡ true → i < n) → (i : ℕ) → test i ≡ true → (w : W) × IsGreatest cmp test value w
  found n None b all i t = absurd (b i (all i t) t)
  found n (Some w) b all i t = (w, best-end cmp test value total n w b all)

-- ---- one state is left

pub one-left : OneStateIsLeft → (d : Rows) (p q : ℕ) → (eqb (size_of d p) 1 || eqb (size_of d q) 1) ≡ true → IsSingle (has d p) ⊎ IsSingle (has d q)
one-left law d p q e = by_first (eqb (size_of d p) 1) refl e
  where
    single : (r : ℕ) → eqb (size_of d r) 1 ≡ true → IsSingle (has d r)
    single r t = λ i j h k. (let only = law d r (eqb-true (size_of d r) 1 t) in only.1.alone i h ∙ sym (only.1.alone j k))

    by_first : (b : Bool) → eqb (size_of d p) 1 ≡ b → (b || eqb (size_of d q) 1) ≡ true → IsSingle (has d p) ⊎ IsSingle (has d q)
    by_first true t u = inl (single p t)
    by_first false t u = inr (single q u)

module _ {W : Type 0} (cmp : W → W → Ordering) (total : IsTotalOrder cmp) (none : W) (plus minus : W → W → W) (clip : W → W) (own : (a : W) → minus a a ≡ none) (still : clip none ≡ none)
    (g : Graph) (d : Family) (weight : ℕ → W) (p q : ℕ) (stable : IsStable g d) (first : p < packages g) (apart : p ≢ q) where
  -- a state of p that is allowed with this one of q
  partner : (j : ℕ) → d q j ≡ true → (i : ℕ) × ((d p i && not (is_forbidden g p i q j)) ≡ true)
  partner j t =
      let met = stable.meets q j p t first apart in
      (met.partner, ap (λ b. b && not (is_forbidden g p met.partner q j)) met.there ∙ ap not (forbidden-turned g p met.partner q j apart ∙ met.allowed))

  level-message : (top : W) → ((j : ℕ) → d q j ≡ true → IsGreatest cmp (λ i. d p i && not (is_forbidden g p i q j)) weight top) → (k : ℕ) → d q k ≡ true →
      (said : ℕ → W) → ((j : ℕ) → said j ≡ none) → IsMessage none plus minus clip cmp g d weight p q said
  level-message top best k here said silent = record {
    raw = λ j. top;
    top = top;
    best = best;
    highest = record { place = k; passes = here; here = refl; most = λ i t. ap is_gt (tied_itself total top) };
    inside = λ j t. silent j ∙ sym (ap clip (own top) ∙ still);
    outside = λ j f. silent j;
  }

  pub quiet : IsSingle (d p) ⊎ IsSingle (d q) → (n : ℕ) → ((i : ℕ) → d p i ≡ true → i < n) → (k : ℕ) → d q k ≡ true →
      (said : ℕ → W) → ((j : ℕ) → said j ≡ none) → IsMessage none plus minus clip cmp g d weight p q said
  quiet (inl single) n all k here said silent =
      let i = partner k here in
      level-message (weight i.0)
      (λ j t.
      let other = partner j t in
      record {
        place = other.0;
        passes = other.1;
        here = ap weight (single i.0 other.0 (both-first _ _ i.1) (both-first _ _ other.1));
        most = λ l u. subst (λ m. is_gt (cmp (weight m) (weight i.0)) ≡ false) (single i.0 l (both-first _ _ i.1) (both-first _ _ u)) (ap is_gt (tied_itself total (weight i.0)));
      })
      k here said silent
  quiet (inr single) n all k here said silent =
      let test = λ (i : ℕ). d p i && not (is_forbidden g p i q k) in
      let met = partner k here in
      let best = best-of cmp total test weight n in
      let top = found cmp total test weight n best.0 best.1 (λ i t. all i (both-first _ _ t)) met.0 met.1 in
      level-message top.0 (λ j t. subst (λ m. IsGreatest cmp (λ i. d p i && not (is_forbidden g p i q m)) weight top.0) (single k j here t) top.1) k here said silent
