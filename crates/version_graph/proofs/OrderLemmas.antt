-- Pairs that are put in their order, each once.
use Rattle.std.proofs.Common.{◌≡◌, ◌⊎◌, ℕ, ◌<◌, ◌≤◌, Bool, true, false, ◌&&◌, List, length, get_or, refl, sym, ◌∙◌, ap, arith, inl, inr, eqb}
use Rattle.std.specs.List.{list_any, dedup, Contains}
use Rattle.std.specs.List.Sorted.{IsSorted}
use Rattle.std.specs.Ordering.{nat_cmp, ordering_then, eq_by_cmp}
use Rattle.std.specs.declared.cmp.Ordering.{Ordering}
use Rattle.std.specs.declared.cmp.Ordering.TheVariants.{Less, Equal, Greater}
use Rattle.std.specs.Cmp.{IsEquivalence, IsTotalOrder, both_tied, unsigned_tied}
use Rattle.std.proofs.lemmas.Cmp.{nat_cmp_total, on_total, then_total}
use Rattle.std.proofs.lemmas.Bool.{eq-eqb, eqb-true, and_from, and_parts}
use Rattle.std.proofs.lemmas.Bool.Decides.{nat_tests}
use Rattle.std.proofs.lemmas.List.Folds.{list_any_at, Any-from_list_any}
use Rattle.std.proofs.lemmas.List.Kept.{Contains-dedup, Contains-from_dedup, IsStrictlySortedBy-dedup}
use Rattle.std.proofs.lemmas.Map.Keys.{Less-from_sorted}
use Rattle.version_graph.specs.Keys.{Key, pair_at, is_in, AreInOrder, ComesFirst}
use Rattle.version_graph.proofs.GraphLemmas.{eqb-sym, both_true}

-- how pairs are compared: part by part from the first
abbrev pub key_cmp : Key → Key → Ordering
key_cmp x y = ordering_then (ordering_then (ordering_then (nat_cmp x.0 y.0) (nat_cmp x.1 y.1)) (nat_cmp x.2 y.2)) (nat_cmp x.3 y.3)

abbrev pub key_eq : Key → Key → Bool
key_eq x y = ((eqb x.0 y.0 && eqb x.1 y.1) && eqb x.2 y.2) && eqb x.3 y.3

key_cmp_total : IsTotalOrder key_cmp
key_cmp_total =
    then_total (then_total (then_total (on_total (λ (t : Key). t.0) nat_cmp_total) (on_total (λ (t : Key). t.1) nat_cmp_total)) (on_total (λ (t : Key). t.2) nat_cmp_total))
    (on_total (λ (t : Key). t.3) nat_cmp_total)

key_tied : (x y : Key) → key_eq x y ≡ eq_by_cmp key_cmp x y
key_tied x y =
    let two = both_tied _ _ (nat_cmp x.0 y.0) (nat_cmp x.1 y.1) (sym (unsigned_tied x.0 y.0)) (sym (unsigned_tied x.1 y.1)) in
    let three = both_tied _ _ (ordering_then (nat_cmp x.0 y.0) (nat_cmp x.1 y.1)) (nat_cmp x.2 y.2) two (sym (unsigned_tied x.2 y.2)) in
    both_tied _ _ (ordering_then (ordering_then (nat_cmp x.0 y.0) (nat_cmp x.1 y.1)) (nat_cmp x.2 y.2)) (nat_cmp x.3 y.3) three (sym (unsigned_tied x.3 y.3))

same_key : (x y : Key) → key_eq x y ≡ true → x ≡ y
same_key x y e =
    let last = and_parts _ (eqb x.3 y.3) e in
    let third = and_parts _ (eqb x.2 y.2) last.0 in
    let first = and_parts (eqb x.0 y.0) (eqb x.1 y.1) third.0 in
    let a = eqb-true _ _ first.0 in
    let b = eqb-true _ _ first.1 in
    let c = eqb-true _ _ third.1 in
    let d = eqb-true _ _ last.1 in
    λ n. (a n, b n, c n, d n)

key_equiv : IsEquivalence key_eq
key_equiv = record {
  refl = λ x. and_from _ _ (and_from _ _ (and_from _ _ (eq-eqb x.0 x.0 refl) (eq-eqb x.1 x.1 refl)) (eq-eqb x.2 x.2 refl)) (eq-eqb x.3 x.3 refl);
  symm = λ x y n. ((eqb-sym x.0 y.0 n && eqb-sym x.1 y.1 n) && eqb-sym x.2 y.2 n) && eqb-sym x.3 y.3 n;
  congr = λ x y z e. ap (λ v. key_eq v z) (same_key x y e);
}

-- ---- nothing comes and nothing goes

same_test : {X : Type 0} (p : X → Bool) (xs ys : List X) → ((x : X) → Contains xs x → Contains ys x) → list_any p xs ≡ true → list_any p ys ≡ true
same_test p xs ys f e =
    let a = Any-from_list_any p xs e in
    let c = f a.1 (a.0, a.2, a.3) in
    list_any_at p ys c.0 a.1 c.1 (ap p c.2 ∙ a.4)

pub dedup_in : (pairs : List Key) (p i q j : ℕ) → is_in (dedup key_eq pairs) p i q j ≡ is_in pairs p i q j
dedup_in pairs p i q j =
    let test : Key → Bool = λ k. (eqb k.0 p && eqb k.2 i) && (eqb k.1 q && eqb k.3 j) in
    let down = same_test test (dedup key_eq pairs) pairs (Contains-from_dedup key_eq pairs) in
    let up = same_test test pairs (dedup key_eq pairs) (Contains-dedup key_equiv same_key pairs) in
    both_true _ _ down up

-- ---- the order

then_less : (a b : Ordering) → ordering_then a b ≡ Less → (a ≡ Less) ⊎ ((a ≡ Equal) × (b ≡ Less))
then_less Less b e = inl refl
then_less Equal b e = inr (refl, e)
then_less Greater b e = absurd (cc)

then_equal : (a b : Ordering) → ordering_then a b ≡ Equal → (a ≡ Equal) × (b ≡ Equal)
then_equal Less b e = absurd (cc)
then_equal Equal b e = (refl, e)
then_equal Greater b e = absurd (cc)

less_is : (a b : ℕ) → nat_cmp a b ≡ Less → a < b
less_is a b e = grind (arith, nat_tests)

equal_is : (a b : ℕ) → nat_cmp a b ≡ Equal → a ≡ b
equal_is a b e = grind (arith, nat_tests)

comes : (x y : Key) → key_cmp x y ≡ Less → ComesFirst x y
comes x y e =
    let a = nat_cmp x.0 y.0 in
    let b = nat_cmp x.1 y.1 in
    let c = nat_cmp x.2 y.2 in
    let d = nat_cmp x.3 y.3 in
    let same : ordering_then a b ≡ Equal → ComesFirst x y = λ f.
    let parts = then_equal a b f in inr (equal_is x.0 y.0 parts.0, omega (arith, equal_is x.1 y.1 parts.1)) in
    let less : ordering_then a b ≡ Less → ComesFirst x y = λ f.
    elim (then_less a b f) [
      | inl g ↦ inl (less_is x.0 y.0 g)
      | inr g ↦ inr (equal_is x.0 y.0 g.0, omega (arith, less_is x.1 y.1 g.1))
    ] in
    elim (then_less (ordering_then (ordering_then a b) c) d e) [
      | inr f ↦ same (then_equal (ordering_then a b) c f.0).0
      | inl f ↦ elim (then_less (ordering_then a b) c f) [ inl g ↦ less g | inr g ↦ same g.0 ]
    ]

pub dedup_ordered : (pairs : List Key) → IsSorted key_cmp pairs → AreInOrder (dedup key_eq pairs)
dedup_ordered pairs sorted = record {
  order = λ m n less known.
      comes (pair_at (dedup key_eq pairs) m) (pair_at (dedup key_eq pairs) n) (Less-from_sorted key_cmp (dedup key_eq pairs) m n (0, 0, 0, 0) (IsStrictlySortedBy-dedup key_cmp_total key_tied pairs sorted) less known);
}
