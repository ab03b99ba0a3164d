-- A search for the greatest value, number by number.
use Rattle.std.proofs.Common.{◌≡◌, ◌≢◌, ℕ, ◌+◌, ◌-◌, ◌<◌, ◌≤◌, Bool, true, false, cond, ◌&&◌, refl, sym, ◌∙◌, subst, ap, arith, Option, None, Some, MatchOption, IfSome, ◌⊎◌, inl, inr}
use Rattle.std.proofs.lemmas.Bool.{cases_lt, lt-ltb, le-ltb}
use Rattle.version_graph.specs.Graph.{Graph, is_forbidden}
use Rattle.std.proofs.Common.{length, get_or}
use Rattle.std.proofs.lemmas.List.{get_or_past}
use Rattle.version_graph.specs.Domain.{Rows, has, row}
use Rattle.std.specs.Ordering.{is_gt, ordering_reverse}
use Rattle.std.specs.declared.cmp.Ordering.{Ordering}
use Rattle.std.specs.declared.cmp.Ordering.TheVariants.{Less, Equal, Greater}
use Rattle.std.specs.Cmp.{IsTotalOrder, upto, tied_itself}
use Rattle.maxsum_messages.specs.Greatest.{IsGreatest}
use Rattle.maxsum_messages.specs.Searched.{raised}

pub not_above : {W : Type 0} (cmp : W → W → Ordering) → IsTotalOrder cmp → (a b : W) → is_gt (cmp a b) ≡ true → is_gt (cmp b a) ≡ false
not_above cmp total a b h = by_answer (cmp a b) h (total.antisymm b a)
  where
    by_answer : (r : Ordering) → is_gt r ≡ true → cmp b a ≡ ordering_reverse r → is_gt (cmp b a) ≡ false
    by_answer Less h e = cc
    by_answer Equal h e = cc
    by_answer Greater h e = ap is_gt e

pub passed : (n i : ℕ) → i < n + 1 → (i < n) ⊎ (i ≡ n)
passed n i h = elim (cases_lt i n) [
  | inl l ↦ inl l
  | inr l ↦ inr (omega (arith, h, l))
]

module _ {W : Type 0} (cmp : W → W → Ordering) (test : ℕ → Bool) (value : ℕ → W) where
  -- the greatest value at a number below n that passes
  pub record IsGreatestBelow (n : ℕ) (best : W) : Type 0 where
    pub place : ℕ
    pub below : place < n
    pub passes : test place ≡ true
    pub here : best ≡ value place
    pub most : (i : ℕ) → i < n → test i ≡ true → is_gt (cmp (value i) best) ≡ false

  abbrev pub IsBestBelow : ℕ → Option W → Type 0
  IsBestBelow n None = (i : ℕ) → i < n → test i ≡ true → ⊥
  IsBestBelow n (Some best) = IsGreatestBelow n best

  module _ (total : IsTotalOrder cmp) where
    first : (n : ℕ) → ((i : ℕ) → i < n → test i ≡ true → ⊥) → test n ≡ true → IsGreatestBelow (n + 1) (value n)
    first n none t = record {
      place = n;
      below = omega arith;
      passes = t;
      here = refl;
      most = λ i h u. elim (passed n i h) [
        | inl l ↦ absurd (none i l u)
        | inr e ↦ subst (λ k. is_gt (cmp (value k) (value n)) ≡ false) (sym e) (ap is_gt (tied_itself total (value n)))
      ];
    }

    kept : (n : ℕ) (best : W) → IsGreatestBelow n best → (test n ≡ true → is_gt (cmp (value n) best) ≡ false) → IsGreatestBelow (n + 1) best
    kept n best b h = record {
      place = b.place;
      below = omega (arith, b.below);
      passes = b.passes;
      here = b.here;
      most = λ i l u. elim (passed n i l) [
        | inl below ↦ b.most i below u
        | inr e ↦ subst (λ k. is_gt (cmp (value k) best) ≡ false) (sym e) (h (sym (ap test e) ∙ u))
      ];
    }

    risen : (n : ℕ) (best : W) → IsGreatestBelow n best → test n ≡ true → is_gt (cmp (value n) best) ≡ true → IsGreatestBelow (n + 1) (value n)
    risen n best b t above = record {
      place = n;
      below = omega arith;
      passes = t;
      here = refl;
      most = λ i l u. elim (passed n i l) [
        | inl below ↦ upto total (value i) best (value n) (b.most i below u) (not_above cmp total (value n) best above)
        | inr e ↦ subst (λ k. is_gt (cmp (value k) (value n)) ≡ false) (sym e) (ap is_gt (tied_itself total (value n)))
      ];
    }

    greater : (n : ℕ) (best : W) → IsGreatestBelow n best → test n ≡ true → (b : Bool) → is_gt (cmp (value n) best) ≡ b → IsGreatestBelow (n + 1) (cond b (value n) best)
    greater n best k t true e = risen n best k t e
    greater n best k t false e = kept n best k (λ _. e)

    by_test : (n : ℕ) (best : Option W) → IsBestBelow n best → (b : Bool) → test n ≡ b → IsBestBelow (n + 1) (raised cmp best (value n) b)
    by_test n None none true t = first n none t
    by_test n None none false t = λ i h u. elim (passed n i h) [ inl l ↦ none i l u | inr e ↦ let no : test i ≡ false = ap test e ∙ t in absurd (cc) ]
    by_test n (Some best) b true t = greater n best b t (is_gt (cmp (value n) best)) refl
    by_test n (Some best) b false t = kept n best b (λ u. absurd (cc))

    pub best-more : (n : ℕ) (best after : Option W) → IsBestBelow n best → after ≡ raised cmp best (value n) (test n) → IsBestBelow (n + 1) after
    best-more n best after b e = subst (IsBestBelow (n + 1)) (sym e) (by_test n best b (test n) refl)

    -- at the end it is the greatest of all
    pub best-end : (n : ℕ) (best : W) → IsGreatestBelow n best → ((i : ℕ) → test i ≡ true → i < n) → IsGreatest cmp test value best
    best-end n best b all = record { place = b.place; passes = b.passes; here = b.here; most = λ i t. b.most i (all i t) t }

-- a state of a domain is in range

pub in-range : (d : Rows) (p i : ℕ) → has d p i ≡ true → i < length (row d p)
unfolding has
in-range d p i e =
    elim (cases_lt i (length (row d p))) [
      | inl h ↦ h
      | inr h ↦ let past : get_or (row d p) i false ≡ false = get_or_past (row d p) i false h in absurd (cc)
    ]

pub both-first : (a b : Bool) → (a && b) ≡ true → a ≡ true
both-first true b e = refl
both-first false b e = cc

-- a pair is forbidden in whichever order it is named
pub forbidden-turned : (g : Graph) (p i q j : ℕ) → p ≢ q → is_forbidden g p i q j ≡ is_forbidden g q j p i
unfolding is_forbidden
forbidden-turned g p i q j apart =
    elim (cases_lt p q) [
      | inl h ↦ rw (lt-ltb p q h, le-ltb q p (omega arith)) refl
      | inr h ↦ let above : q < p = omega (arith, h, apart) in rw (le-ltb p q h, lt-ltb q p above) refl
    ]

pub greatest-same : {W : Type 0} (cmp : W → W → Ordering) (test : ℕ → Bool) (value other : ℕ → W) (best : W) → ((i : ℕ) → test i ≡ true → value i ≡ other i) → IsGreatest cmp test value best → IsGreatest cmp test other best
greatest-same cmp test value other best same b = record {
  place = b.place;
  passes = b.passes;
  here = b.here ∙ same b.place b.passes;
  most = λ i t. subst (λ w. is_gt (cmp w best) ≡ false) (same i t) (b.most i t);
}

-- ---- where the values are places

module _ (cmp : ℕ → ℕ → Ordering) (test : ℕ → Bool) where
  pub best-known : (n m : ℕ) (best : Option ℕ) → IsBestBelow cmp test (λ i. i) n best → n ≤ m → IfSome best (λ k. k < m)
  best-known n m None b h = tt
  best-known n m (Some k) b h = omega (arith, b.below, b.here, h)

  pub best-found : (total : IsTotalOrder cmp) (n : ℕ) (best : Option ℕ) → IsBestBelow cmp test (λ i. i) n best → ((i : ℕ) → test i ≡ true → i < n) →
      MatchOption best ((i : ℕ) → test i ≡ true → ⊥) (λ k. IsGreatest cmp test (λ i. i) k)
  best-found total n None b all = λ i t. b i (all i t) t
  best-found total n (Some k) b all = best-end cmp test (λ i. i) total n k b all
