-- Numbers in the order in which they are tried, and one more put into its place.
use Rattle.std.proofs.Common.{◌≡◌, ◌≢◌, ℕ, ◌+◌, ◌-◌, ◌<◌, ◌≤◌, Bool, true, false, List, [], length, get_or, refl, sym, ◌∙◌, subst, ap, arith, ◌⊎◌, inl, inr}
use Rattle.std.proofs.lemmas.Bool.{cases_lt, cases_order}
use Rattle.std.specs.List.{insert, Contains}
use Rattle.std.proofs.lemmas.List.Edits.{length-insert, get_or-insert_below, get_or-insert_at, get_or-insert_above}
use Rattle.std.specs.Ordering.{is_lt, ordering_then, ordering_reverse, nat_cmp}
use Rattle.std.specs.declared.cmp.Ordering.{Ordering}
use Rattle.std.specs.declared.cmp.Ordering.TheVariants.{Less, Equal, Greater}
use Rattle.std.specs.Cmp.{IsTotalOrder, on_total, then_total, back_total, nat_cmp_total, ranked}
use Rattle.maxsum_messages.specs.Choice.{standing, IsBefore, IsFalling, AreInOrder}
use Rattle.maxsum_messages.specs.Searched.{AreInOrderBelow}

is_less : (r : Ordering) → is_lt r ≡ true → r ≡ Less
is_less Less e = refl
is_less Equal e = cc
is_less Greater e = cc

module _ {W : Type 0} (cmp : W → W → Ordering) (total : IsTotalOrder cmp) (value : ℕ → W) where
  pub stands : IsTotalOrder (standing cmp value)
  stands = then_total (back_total (on_total value total)) (back_total nat_cmp_total)

  tied : (r : Ordering) (i j : ℕ) → ordering_then r (nat_cmp j i) ≡ Equal → i ≡ j
  tied Less i j e = cc
  tied Equal i j e = sym (ranked j i Equal (sym e))
  tied Greater i j e = cc

  turned : (i j : ℕ) → i ≢ j → is_lt (standing cmp value i j) ≡ false → IsBefore cmp value j i
  turned i j apart h = by_answer (standing cmp value i j) refl h
    where
      by_answer : (r : Ordering) → standing cmp value i j ≡ r → is_lt r ≡ false → IsBefore cmp value j i
      by_answer Less e h = cc
      by_answer Equal e h = absurd (apart (tied (cmp (value j) (value i)) i j e))
      by_answer Greater e h = stands.antisymm j i ∙ ap ordering_reverse e

  -- what stands up to a number that is tried before i is tried before i too
  pub before-all : (xs : List ℕ) (middle i : ℕ) → IsFalling cmp value xs → middle < length xs → is_lt (standing cmp value (get_or xs middle 0) i) ≡ true →
      (k : ℕ) → k < middle + 1 → IsBefore cmp value (get_or xs k 0) i
  before-all xs middle i falling h t k l =
      let here = is_less (standing cmp value (get_or xs middle 0) i) t in
      elim (cases_lt k middle) [
        | inl below ↦ stands.trans (get_or xs k 0) (get_or xs middle 0) i (falling k middle below h) here
        | inr above ↦ let same : middle ≡ k = omega (arith, l, above) in subst (λ n. IsBefore cmp value (get_or xs n 0) i) same here
      ]

  -- what stands from a number on that isn't tried before i is tried after i
  pub after-all : (xs : List ℕ) (middle i : ℕ) → IsFalling cmp value xs → get_or xs middle 0 ≢ i → is_lt (standing cmp value (get_or xs middle 0) i) ≡ false →
      (k : ℕ) → middle ≤ k → k < length xs → IsBefore cmp value i (get_or xs k 0)
  after-all xs middle i falling apart t k l h =
      let here = turned (get_or xs middle 0) i apart t in
      elim (cases_lt middle k) [
        | inl below ↦ stands.trans i (get_or xs middle 0) (get_or xs k 0) here (falling middle k below h)
        | inr above ↦ let same : middle ≡ k = omega (arith, l, above) in subst (λ n. IsBefore cmp value i (get_or xs n 0)) same here
      ]

  -- ---- one more in its place

  module _ (xs : List ℕ) (place i : ℕ) (bound : place ≤ length xs) where
    -- an element of the longer list stood before the place, is the new one, or stood from the place on
    abbrev Source : ℕ → Type 0
    Source k = ((k < place) × (get_or (insert xs place i) k 0 ≡ get_or xs k 0))
        ⊎ (((k ≡ place) × (get_or (insert xs place i) k 0 ≡ i))
        ⊎ ((l : ℕ) × (k ≡ l + 1) × (place ≤ l) × (l < length xs) × (get_or (insert xs place i) k 0 ≡ get_or xs l 0)))

    source : (k : ℕ) → k < length xs + 1 → Source k
    source k h =
        elim (cases_order k place) [
          | inl e ↦ inr (inl (e, ap (λ n. get_or (insert xs place i) n 0) e ∙ get_or-insert_at xs place i 0 bound))
          | inr o ↦ elim o [
            | inl l ↦ inl (l, get_or-insert_below xs place i 0 k l bound)
            | inr l ↦
                let back : k ≡ (k - 1) + 1 = omega (arith, l) in
                inr (inr (k - 1, back, omega (arith, l), omega (arith, h, l), ap (λ n. get_or (insert xs place i) n 0) back ∙ get_or-insert_above xs place i 0 (k - 1) (omega (arith, l)) bound))
          ]
        ]

    pub falling-insert : IsFalling cmp value xs → ((k : ℕ) → k < place → IsBefore cmp value (get_or xs k 0) i) → ((k : ℕ) → place ≤ k → k < length xs → IsBefore cmp value i (get_or xs k 0)) →
        IsFalling cmp value (insert xs place i)
    falling-insert falling before after = λ k l h end.
        by_sources k l h
        (source k (omega (arith, h, end, length-insert xs place i bound)))
        (source l (omega (arith, end, length-insert xs place i bound)))
      where
        joined : (x y a b : ℕ) → x ≡ a → y ≡ b → IsBefore cmp value a b → IsBefore cmp value x y
        joined x y a b e f t = subst (λ n. IsBefore cmp value n y) (sym e) (subst (λ n. IsBefore cmp value a n) (sym f) t)

        by_sources : (k l : ℕ) → k < l → Source k → Source l → IsBefore cmp value (get_or (insert xs place i) k 0) (get_or (insert xs place i) l 0)
        by_sources k l h (inl s) (inl t) = joined (get_or (insert xs place i) k 0) (get_or (insert xs place i) l 0) (get_or xs k 0) (get_or xs l 0) s.1 t.1 (falling k l h (omega (arith, t.0, bound)))
        by_sources k l h (inl s) (inr (inl t)) = joined (get_or (insert xs place i) k 0) (get_or (insert xs place i) l 0) (get_or xs k 0) i s.1 t.1 (before k s.0)
        by_sources k l h (inl s) (inr (inr t)) = joined (get_or (insert xs place i) k 0) (get_or (insert xs place i) l 0) (get_or xs k 0) (get_or xs t.0 0) s.1 t.4 (falling k t.0 (omega (arith, s.0, t.2)) t.3)
        by_sources k l h (inr (inl s)) (inl t) = absurd (omega (arith, s.0, t.0, h))
        by_sources k l h (inr (inl s)) (inr (inl t)) = absurd (omega (arith, s.0, t.0, h))
        by_sources k l h (inr (inl s)) (inr (inr t)) = joined (get_or (insert xs place i) k 0) (get_or (insert xs place i) l 0) i (get_or xs t.0 0) s.1 t.4 (after t.0 t.2 t.3)
        by_sources k l h (inr (inr s)) (inl t) = absurd (omega (arith, s.1, s.2, t.0, h))
        by_sources k l h (inr (inr s)) (inr (inl t)) = absurd (omega (arith, s.1, s.2, t.0, h))
        by_sources k l h (inr (inr s)) (inr (inr t)) = joined (get_or (insert xs place i) k 0) (get_or (insert xs place i) l 0) (get_or xs s.0 0) (get_or xs t.0 0) s.4 t.4 (falling s.0 t.0 (omega (arith, s.1, t.1, h)) t.3)

    pub all-insert : (P : ℕ → Type 0) → ((k : ℕ) → k < length xs → P (get_or xs k 0)) → P i → (k : ℕ) → k < length (insert xs place i) → P (get_or (insert xs place i) k 0)
    all-insert P all last k h = by_source (source k (omega (arith, h, length-insert xs place i bound)))
      where
        by_source : Source k → P (get_or (insert xs place i) k 0)
        by_source (inl s) = subst P (sym s.1) (all k (omega (arith, s.0, bound)))
        by_source (inr (inl s)) = subst P (sym s.1) last
        by_source (inr (inr s)) = subst P (sym s.4) (all s.0 s.3)

    pub contains-new : Contains (insert xs place i) i
    contains-new = (place, omega (arith, length-insert xs place i bound, bound), get_or-insert_at xs place i i bound)

    pub contains-old : (q : ℕ) → Contains xs q → Contains (insert xs place i) q
    contains-old q c =
        let long = length-insert xs place i bound in
        elim (cases_lt c.0 place) [
          | inl l ↦ (c.0, omega (arith, c.1, long), get_or-insert_below xs place i q c.0 l bound ∙ c.2)
          | inr l ↦ (c.0 + 1, omega (arith, c.1, long), get_or-insert_above xs place i q c.0 l bound ∙ c.2)
        ]

  pub in-order-insert : (test : ℕ → Bool) (xs : List ℕ) (place i : ℕ) → place ≤ length xs → AreInOrderBelow cmp i test value xs → test i ≡ true →
      ((k : ℕ) → k < place → IsBefore cmp value (get_or xs k 0) i) → ((k : ℕ) → place ≤ k → k < length xs → IsBefore cmp value i (get_or xs k 0)) →
      AreInOrderBelow cmp (i + 1) test value (insert xs place i)
  in-order-insert test xs place i bound o t before after = record {
    passing = all-insert xs place i bound (λ x. test x ≡ true) o.passing t;
    below = all-insert xs place i bound (λ x. x < i + 1) (λ k h. (let under = o.below k h in omega (arith, under))) (omega arith);
    whole = λ q h u. elim (cases_lt q i) [
      | inl l ↦ contains-old xs place i bound q (o.whole q l u)
      | inr l ↦ let same : i ≡ q = omega (arith, h, l) in subst (Contains (insert xs place i)) same (contains-new xs place i bound)
    ];
    falling = falling-insert xs place i bound o.falling before after;
  }

  pub in-order-skip : (test : ℕ → Bool) (xs : List ℕ) (i : ℕ) → AreInOrderBelow cmp i test value xs → test i ≡ false → AreInOrderBelow cmp (i + 1) test value xs
  in-order-skip test xs i o f = record {
    passing = o.passing;
    below = λ k h. (let under = o.below k h in omega (arith, under));
    whole = λ q h u. elim (cases_lt q i) [
      | inl l ↦ o.whole q l u
      | inr l ↦ let same : q ≡ i = omega (arith, h, l) in let no : test q ≡ false = ap test same ∙ f in absurd (cc)
    ];
    falling = o.falling;
  }

  pub in-order-end : (test : ℕ → Bool) (n : ℕ) (xs : List ℕ) → AreInOrderBelow cmp n test value xs → ((i : ℕ) → test i ≡ true → i < n) → AreInOrder cmp test value xs
  in-order-end test n xs o all = record { passing = o.passing; whole = λ i t. o.whole i (all i t) t; falling = o.falling }

  pub in-order-empty : (test : ℕ → Bool) (xs : List ℕ) → xs ≡ [] → AreInOrderBelow cmp 0 test value xs
  in-order-empty test xs e = record {
    passing = λ k h. absurd (omega (arith, h, ap length e));
    below = λ k h. absurd (omega (arith, h, ap length e));
    whole = λ i h t. absurd (omega (arith, h));
    falling = λ k l h end. absurd (omega (arith, end, ap length e));
  }
