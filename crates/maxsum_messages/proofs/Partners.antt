-- Numbers that pass with their values: one more, a sort, and the first that is allowed.
use Rattle.std.proofs.Common.{◌≡◌, ℕ, ◌+◌, ◌-◌, ◌<◌, ◌≤◌, Bool, true, false, ◌&&◌, not, List, [], ◌∷◌, ◌++◌, length, get_or, refl, sym, ◌∙◌, subst, ap, arith, inl, inr}
use Rattle.std.proofs.lemmas.Bool.{cases_lt}
use Rattle.std.proofs.lemmas.List.Elements.{All-nil, All-push}
use Rattle.std.proofs.lemmas.List.Sorted.{All-permutation, Contains-permutation, sorted_far, ranks_by}
use Rattle.std.proofs.lemmas.List.{length-append, get_or_append_left, get_or_default}
use Rattle.std.proofs.Math.Seq.{get_or-append_seam}
use Rattle.std.specs.List.{All, Contains}
use Rattle.std.specs.List.Sorted.{IsPermutation, IsSorted}
use Rattle.std.specs.Ordering.{is_gt, is_lt, ordering_then, ordering_reverse, nat_cmp}
use Rattle.std.specs.declared.cmp.Ordering.{Ordering}
use Rattle.std.specs.declared.cmp.Ordering.TheVariants.{Less, Equal, Greater}
use Rattle.std.specs.Cmp.{IsTotalOrder, IsStrictWeakOrder, on_total, then_total, nat_cmp_total}
use Rattle.maxsum_messages.specs.Greatest.{IsGreatest}
use Rattle.maxsum_messages.specs.Weighed.{AreWeighed, AreWeighedBelow, by_weight}
use Rattle.maxsum_messages.proofs.Best.{passed, both-first}

contains-kept : {X : Type 0} (xs : List X) (y x : X) → Contains xs x → Contains (xs ++ y ∷ []) x
contains-kept xs y x c = (c.0, omega (arith, c.1, length-append xs (y ∷ [])), get_or_append_left xs (y ∷ []) x c.0 c.1 ∙ c.2)

contains-last : {X : Type 0} (xs : List X) (y : X) → Contains (xs ++ y ∷ []) y
contains-last xs y = (length xs, omega (arith, length-append xs (y ∷ [])), get_or-append_seam xs y [] y)

module _ {W : Type 0} (test : ℕ → Bool) (value : ℕ → W) where
  pub weighed-none : (xs : List (W × ℕ)) → xs ≡ [] → AreWeighedBelow 0 test value xs
  weighed-none xs e = subst (AreWeighedBelow 0 test value) (sym e) (record {
    each = All-nil (λ x. (test x.1 ≡ true) × (x.0 ≡ value x.1));
    whole = λ i h t. absurd (omega (arith, h));
  })

  pub weighed-more : (n : ℕ) (xs : List (W × ℕ)) (w : W) → AreWeighedBelow n test value xs → test n ≡ true → w ≡ value n → AreWeighedBelow (n + 1) test value (xs ++ (w, n) ∷ [])
  weighed-more n xs w o t e = record {
    each = All-push (λ x. (test x.1 ≡ true) × (x.0 ≡ value x.1)) xs (w, n) o.each (t, e);
    whole = λ i h u. elim (passed n i h) [
      | inl l ↦ contains-kept xs (w, n) (value i, i) (o.whole i l u)
      | inr same ↦ subst (λ k. Contains (xs ++ (w, n) ∷ []) (value k, k)) (sym same) (subst (λ v. Contains (xs ++ (w, n) ∷ []) (v, n)) e (contains-last xs (w, n)))
    ];
  }

  pub weighed-skip : (n : ℕ) (xs : List (W × ℕ)) → AreWeighedBelow n test value xs → test n ≡ false → AreWeighedBelow (n + 1) test value xs
  weighed-skip n xs o f = record {
    each = o.each;
    whole = λ i h u. elim (passed n i h) [
      | inl l ↦ o.whole i l u
      | inr same ↦ let no : test i ≡ false = ap test same ∙ f in absurd (cc)
    ];
  }

  pub weighed-end : (n : ℕ) (xs : List (W × ℕ)) → AreWeighedBelow n test value xs → ((i : ℕ) → test i ≡ true → i < n) → AreWeighed test value xs
  weighed-end n xs o all = record { each = o.each; whole = λ i t. o.whole i (all i t) t }

  pub weighed-moved : (xs ys : List (W × ℕ)) → IsPermutation xs ys → AreWeighed test value xs → AreWeighed test value ys
  weighed-moved xs ys moved o = record {
    each = All-permutation (λ x. (test x.1 ≡ true) × (x.0 ≡ value x.1)) xs ys moved o.each;
    whole = λ i t. Contains-permutation xs ys (value i, i) moved (o.whole i t);
  }

-- ---- the first that is allowed, from the end

both-second : (a b : Bool) → (a && b) ≡ true → b ≡ true
both-second true b e = e
both-second false b e = cc

pub turned-true : (a b : Bool) → a ≡ not b → a ≡ true → b ≡ false
turned-true a true e t = cc
turned-true a false e t = refl

pub turned-false : (a b : Bool) → a ≡ not b → a ≡ false → b ≡ true
turned-false a true e f = refl
turned-false a false e f = cc

allowed-not : (b : Bool) → not b ≡ true → b ≡ true → ⊥
allowed-not true e h = cc
allowed-not false e h = cc

module _ {W : Type 0} (xs : List (W × ℕ)) (forbidden : ℕ → Bool) where
  -- nothing from the place low on is allowed
  abbrev pub AreBarred : ℕ → Type 0
  AreBarred low = (l : ℕ) (d : W × ℕ) → low ≤ l → l < length xs → forbidden (get_or xs l d).1 ≡ true

  pub barred-more : (k : ℕ) (d : W × ℕ) → k < length xs → forbidden (get_or xs (length xs - 1 - k) d).1 ≡ true → AreBarred (length xs - k) → AreBarred (length xs - (k + 1))
  barred-more k d inside here rest l e h m = elim (cases_lt l (length xs - k)) [
    | inl below ↦
        let same : length xs - 1 - k ≡ l = omega (arith, inside, h, below) in
        subst (λ n. forbidden (get_or xs n e).1 ≡ true) same
        (ap (λ (y : W × ℕ). forbidden y.1) (get_or_default xs (length xs - 1 - k) e d (omega (arith, inside))) ∙ here)
    | inr above ↦ rest l e above m
  ]

module _ {W : Type 0} (cmp : W → W → Ordering) (total : IsTotalOrder cmp) where
  ranks : IsStrictWeakOrder (λ (x y : W × ℕ). is_lt (by_weight cmp x y))
  ranks = ranks_by (then_total (on_total (λ (x : W × ℕ). x.0) total) (on_total (λ (x : W × ℕ). x.1) nat_cmp_total)) (λ x. x)

  not-higher : (a b : W) (r : Ordering) → is_lt (ordering_then (cmp b a) r) ≡ false → is_gt (cmp a b) ≡ false
  not-higher a b r h = by_answer (cmp b a) h (total.antisymm a b)
    where
      by_answer : (s : Ordering) → is_lt (ordering_then s r) ≡ false → cmp a b ≡ ordering_reverse s → is_gt (cmp a b) ≡ false
      by_answer Less h e = cc
      by_answer Equal h e = ap is_gt e
      by_answer Greater h e = ap is_gt e

  module _ (xs : List (W × ℕ)) (forbidden : ℕ → Bool) (test : ℕ → Bool) (value : ℕ → W) (o : AreWeighed test value xs) where
    pub first-allowed : IsSorted (by_weight cmp) xs → (k : ℕ) (d e : W × ℕ) → k < length xs → forbidden (get_or xs (length xs - 1 - k) e).1 ≡ false → AreBarred xs forbidden (length xs - k) →
        IsGreatest cmp (λ i. test i && not (forbidden i)) value (get_or xs (length xs - 1 - k) d).0
    first-allowed sorted k d e h allowed barred =
        let place = length xs - 1 - k in
        let inside : place < length xs = omega (arith, h) in
        let x = get_or xs place d in
        let same : (c : W × ℕ) → get_or xs place d ≡ get_or xs place c = λ c. get_or_default xs place d c inside in
        let here = o.each place d inside in
        record {
          place = x.1;
          passes = rw (here.0, ap (λ (y : W × ℕ). forbidden y.1) (same e) ∙ allowed) refl;
          here = here.1;
          most = λ i t.
              let there = o.whole i (both-first (test i) _ t) in
              elim (cases_lt there.0 (length xs - k)) [
                | inl below ↦ not-higher (value i) x.0 (nat_cmp x.1 i)
                    (subst (λ (y : W × ℕ). is_lt (by_weight cmp y (value i, i)) ≡ false) (sym (same (value i, i)))
                    (subst (λ (y : W × ℕ). is_lt (by_weight cmp (get_or xs place (value i, i)) y) ≡ false) there.2
                    (sorted_far (λ y z. is_lt (by_weight cmp y z)) ranks xs sorted there.0 place (value i, i) (omega (arith, below, h)) inside)))
                | inr above ↦ absurd (allowed-not (forbidden i) (both-second (test i) _ t)
                    (sym (ap (λ (y : W × ℕ). forbidden y.1) there.2) ∙ barred there.0 (value i, i) above there.1))
              ];
        }

    pub none-allowed : (k : ℕ) → length xs ≤ k → AreBarred xs forbidden (length xs - k) → (i : ℕ) → (test i && not (forbidden i)) ≡ true → ⊥
    none-allowed k h barred i t = by_both (test i) refl t
      where
        by_both : (b : Bool) → test i ≡ b → (b && not (forbidden i)) ≡ true → ⊥
        by_both true e u =
            let there = o.whole i e in
            allowed-not (forbidden i) u (sym (ap (λ (y : W × ℕ). forbidden y.1) there.2) ∙ barred there.0 (value i, i) (omega (arith, h)) there.1)
        by_both false e u = cc
