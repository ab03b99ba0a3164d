-- What is true of a pruning of an instance.
use Rattle.std.proofs.Common.{◌≡◌, ◌≢◌, ℕ, zero, suc, ◌<◌, Bool, true, false, not, ◌&&◌, ◌||◌, List, [], length, get_or, refl, sym, ◌∙◌, subst, ap, arith, inl, inr, ◌⊎◌, eqb, ltb}
use Rattle.std.proofs.lemmas.Bool.{cases_eq, cases_lt, cases_Bool, both_ways, and_parts, and_from, or_cases, or_left, or_right, eq-eqb, eqb-true, ne_eqb, ltb-true, lt-ltb, not-true, false_from_ne_true}
use Rattle.version_graph.specs.Graph.{Graph, packages, states, last, is_barred, is_offered, does_need, is_forbidden, IsGraph, IsPlain, IsSolution}
use Rattle.version_graph.specs.Family.{Family, IsWithin, IsStable, IsFilled, IsClosureOf, under}
use Rattle.graph_pruning.specs.Pruned.{Pruning, left, AreKept, SameIn, StandsFor, AreStanding, IsPruningOf, SamePruning}
use Rattle.graph_pruning.specs.Reduced.{IsStanding}
use Rattle.graph_pruning.proofs.SpreadLemmas.{forbidden-flip}

-- ---- searching below a bound

-- whether a number below n passes
abbrev pub some_below : (ℕ → Bool) → ℕ → Bool
some_below test zero = false
some_below test (suc n) = test n || some_below test n

pub some_from : (test : ℕ → Bool) (n i : ℕ) → i < n → test i ≡ true → some_below test n ≡ true
some_from test zero i below e = absurd (omega arith)
some_from test (suc n) i below e =
    elim (cases_eq i n) [
      | inl same ↦ or_left (test n) (some_below test n) (ap test (sym same) ∙ e)
      | inr apart ↦ or_right (test n) (some_below test n) (some_from test n i (omega (arith, below, apart)) e)
    ]

pub some_parts : (test : ℕ → Bool) (n : ℕ) → some_below test n ≡ true → (i : ℕ) × (i < n) × (test i ≡ true)
some_parts test zero e = absurd (cc)
some_parts test (suc n) e =
    elim (or_cases (test n) (some_below test n) e) [
      | inl here ↦ (n, omega arith, here)
      | inr there ↦ let s = some_parts test n there in (s.0, omega (arith, s.1), s.2)
    ]

pub same_truth : (x y : Bool) → (x ≡ true → y ≡ true) → (y ≡ true → x ≡ true) → x ≡ y
same_truth true y f g = sym (f refl)
same_truth false true f g = g refl
same_truth false false f g = refl

-- ---- closed domains

pub closed_stable : (g : Graph) (f s : Family) → IsClosureOf g f s → IsStable g s
closed_stable g f s c = record {
  meets = λ p i q here known apart.
      let k = c.sound p i here in
      let m = k.stable.meets p i q k.here known apart in
      record { partner = m.partner; there = c.whole q m.partner (record { family = k.family; stable = k.stable; within = k.within; here = m.there }); allowed = m.allowed };
}

pub closed_offered : (g : Graph) (s : Family) (p i : ℕ) → IsClosureOf g (under g []) s → s p i ≡ true → is_offered g p i ≡ true
closed_offered g s p i c here = let k = c.sound p i here in (and_parts (is_offered g p i) true (k.within.at p i k.here)).0

pub offered_known : (g : Graph) (p i : ℕ) → is_offered g p i ≡ true → (p < packages g) × (i < states g p)
unfolding is_offered
offered_known g p i e =
    let parts = and_parts (ltb p (packages g)) _ e in
    let more = and_parts (ltb i (states g p)) _ parts.1 in
    (ltb-true _ _ parts.0, ltb-true _ _ more.0)

pub offered_unbarred : (g : Graph) (p i : ℕ) → is_offered g p i ≡ true → is_barred g p i ≡ false
unfolding is_offered
offered_unbarred g p i e = not-true _ (and_parts (ltb i (states g p)) _ (and_parts (ltb p (packages g)) _ e).1).1

pub offered_from : (g : Graph) (p i : ℕ) → p < packages g → i < states g p → is_barred g p i ≡ false → is_offered g p i ≡ true
unfolding is_offered
offered_from g p i known state free = and_from _ _ (lt-ltb _ _ known) (and_from _ _ (lt-ltb _ _ state) (ap not free))

pub closed_known : (g : Graph) (s : Family) (p i : ℕ) → IsClosureOf g (under g []) s → s p i ≡ true → (p < packages g) × (i < states g p)
closed_known g s p i c here = offered_known g p i (closed_offered g s p i c here)

-- a state that is closed where something is chosen is closed where nothing is
pub closed_before : (g : Graph) (s f : Family) → IsClosureOf g (under g []) s → IsStable g f → IsWithin f (is_offered g) → IsWithin f s
closed_before g s f c stable within = record {
  at = λ p i here. c.whole p i (record { family = f; stable = stable; here = here; within = record { at = λ q j there. and_from (is_offered g q j) true (within.at q j there) refl } });
}

-- no closed domain is empty, or else the one of package 0 is
filled_or_empty : (g : Graph) (s : Family) → IsClosureOf g (under g []) s → IsFilled g s ⊎ ((0 < packages g) × ((i : ℕ) → s 0 i ≡ false))
filled_or_empty g s c =
    elim (cases_Bool (some_below (s 0) (states g 0))) [
      | inl found ↦
          let first = some_parts (s 0) (states g 0) found in
          inl (record {
            some = λ q known. elim (cases_eq q 0) [
              | inl e ↦ (first.0, ap (λ r. s r first.0) e ∙ first.2)
              | inr apart ↦ let m = (closed_stable g (under g []) s c).meets 0 first.0 q first.2 known apart in (m.partner, m.there)
            ];
          })
      | inr none ↦ elim (cases_lt 0 (packages g)) [
        | inl above ↦ inr (above, λ i. false_from_ne_true (s 0 i) (λ e. both_ways _ none (some_from (s 0) (states g 0) i (closed_known g s 0 i c e).1 e)))
        | inr below ↦ inl (record { some = λ q known. absurd (omega arith) })
      ]
    ]

-- ---- one pruning

module _ (g : Graph) (a b : Pruning) (x : IsPruningOf g a) (y : IsPruningOf g b) where
  closed_same : (p i : ℕ) → a.closed p i ≡ b.closed p i
  closed_same p i = same_truth _ _ (λ e. y.closure.whole p i (x.closure.sound p i e)) (λ e. x.closure.whole p i (y.closure.sound p i e))

  kept_same : (p : ℕ) → a.kept p ≡ b.kept p
  kept_same p =
      let f : b.closed ≡ a.closed = λ t q i. sym (closed_same q i) t in
      let other : AreKept g a.closed b.kept = subst (λ s. AreKept g s b.kept) f y.reached in
      elim (filled_or_empty g a.closed x.closure) [
        | inl filled ↦
            let m = x.reached.reached filled in
            let n = other.reached filled in
            same_truth _ _ (m.least b.kept n.spreads p) (n.least a.kept m.spreads p)
        | inr e ↦ x.reached.none 0 e.0 e.1 p ∙ sym (other.none 0 e.0 e.1 p)
      ]

  left_same : (p i : ℕ) → left g b p i ≡ left g a p i
  left_same p i =
      sym (ap (λ v. v && (a.kept p || eqb i (last g p))) (closed_same p i) ∙ ap (λ v. b.closed p i && (v || eqb i (last g p))) (kept_same p))

  standing_same : (p i : ℕ) → a.standing p i ≡ b.standing p i
  standing_same p i =
      let f : left g b ≡ left g a = λ t q j. left_same q j t in
      let other : AreStanding g (left g a) b.standing = subst (λ s. AreStanding g s b.standing) f y.classes in
      elim (cases_Bool (left g a p i)) [
        | inl here ↦
            let m = x.classes.stands p i here in
            let n = other.stands p i here in
            let low = n.greatest (a.standing p i) m.same in
            let high = m.greatest (b.standing p i) n.same in
            omega arith
        | inr out ↦ x.classes.others p i out ∙ sym (other.others p i out)
      ]

  pub one_pruning : SamePruning a b
  one_pruning = record { domains = closed_same; packages = kept_same; classes = standing_same }

-- ---- equal states

pub same-refl : (g : Graph) (f : Family) (p i : ℕ) → f p i ≡ true → SameIn g f p i i
same-refl g f p i here = record { first = here; second = here; alike = λ q k apart there. refl }

pub same-sym : (g : Graph) (f : Family) (p i j : ℕ) → SameIn g f p i j → SameIn g f p j i
same-sym g f p i j s = record { first = s.second; second = s.first; alike = λ q k apart there. sym (s.alike q k apart there) }

pub same-trans : (g : Graph) (f : Family) (p i j k : ℕ) → SameIn g f p i j → SameIn g f p j k → SameIn g f p i k
same-trans g f p i j k s t = record { first = s.first; second = t.second; alike = λ q m apart there. s.alike q m apart there ∙ t.alike q m apart there }

-- what stands for a state stands for each state that is the same
pub stands_same : (g : Graph) (f : Family) (p i j s : ℕ) → SameIn g f p i j → StandsFor g f p i s → StandsFor g f p j s
stands_same g f p i j s e t = record {
  same = same-trans g f p j i s (same-sym g f p i j e) t.same;
  greatest = λ k n. t.greatest k (same-trans g f p i j k e n);
}

pub one_standing : (g : Graph) (f : Family) (p i s t : ℕ) → StandsFor g f p i s → StandsFor g f p i t → s ≡ t
one_standing g f p i s t a b =
    let low = b.greatest s a.same in
    let high = a.greatest t b.same in
    omega arith

-- what stands for a state stands for itself
pub standing_itself : (g : Graph) (f : Family) (standing : ℕ → ℕ → ℕ) (p i : ℕ) → AreStanding g f standing → f p i ≡ true → IsStanding f standing p (standing p i)
standing_itself g f standing p i c here =
    let s = c.stands p i here in
    record {
      inside = s.same.second;
      itself = one_standing g f p (standing p i) _ _ (c.stands p (standing p i) s.same.second) (stands_same g f p i (standing p i) (standing p i) s.same s);
    }

-- two states are allowed exactly where those that stand for them are
pub both_alike : (g : Graph) (f : Family) (standing : ℕ → ℕ → ℕ) (p i q k : ℕ) → AreStanding g f standing → p ≢ q → f p i ≡ true → f q k ≡ true →
    is_forbidden g p (standing p i) q (standing q k) ≡ is_forbidden g p i q k
both_alike g f standing p i q k c apart here there =
    let s = (c.stands p i here).same in
    let t = (c.stands q k there).same in
    sym (
    s.alike q k (λ e. apart (sym e)) there
    ∙ forbidden-flip g p (standing p i) q k apart
    ∙ t.alike p (standing p i) apart s.second
    ∙ sym (forbidden-flip g p (standing p i) q (standing q k) apart)
    )

-- ---- pruned domains

pub left_kept : (g : Graph) (pr : Pruning) (p i : ℕ) → pr.kept p ≡ true → pr.closed p i ≡ true → left g pr p i ≡ true
left_kept g pr p i kept here = and_from _ _ here (or_left _ _ kept)

pub left_absent : (g : Graph) (pr : Pruning) (p i : ℕ) → pr.kept p ≡ false → left g pr p i ≡ true → i ≡ last g p
left_absent g pr p i out e =
    elim (or_cases _ _ (and_parts (pr.closed p i) _ e).1) [
      | inl kept ↦ absurd (both_ways _ out kept)
      | inr same ↦ eqb-true _ _ same
    ]

pub left_closed : (g : Graph) (pr : Pruning) (p i : ℕ) → left g pr p i ≡ true → pr.closed p i ≡ true
left_closed g pr p i e = (and_parts (pr.closed p i) _ e).0

-- ---- packages that are left out

module _ (g : Graph) (pr : Pruning) (graph : IsGraph g) (plain : IsPlain g) (k : IsPruningOf g pr) (filled : IsFilled g pr.closed) where
  pub kept_known : (p : ℕ) → pr.kept p ≡ true → p < packages g
  kept_known p h =
      ltb-true _ _ ((k.reached.reached filled).least (λ q. ltb q (packages g)) (record {
        roots = λ q e. (and_parts (ltb q (packages g)) _ e).0;
        needs = λ q i r _ _ e. (and_parts (ltb r (packages g)) _ e).0;
      }) p h)

  -- a closed state of a kept package needs no package that isn't kept
  pub no_need : (p i q : ℕ) → pr.kept p ≡ true → pr.closed p i ≡ true → pr.kept q ≡ false → q < packages g → q ≢ p → is_forbidden g p i q (last g q) ≡ false
  no_need p i q kept here out known apart =
      false_from_ne_true _ (λ e.
      let need : does_need g p i q ≡ true = and_from _ _ (lt-ltb _ _ known) (and_from _ _ (ap not (ne_eqb q p apart)) e) in
      both_ways _ out ((k.reached.reached filled).spreads.needs p i q kept here need))

  -- the absent state of a package that isn't kept isn't forbidden alone
  absent_offered : (p : ℕ) → p < packages g → pr.kept p ≡ false → is_offered g p (last g p) ≡ true
  absent_offered p known out =
      let some = graph.filled p known in
      offered_from g p (last g p) known (omega arith) (false_from_ne_true _ (λ e.
      both_ways _ out ((k.reached.reached filled).spreads.roots p (and_from _ _ (lt-ltb _ _ known) e))))

  -- the closed domains, and the absent states of the packages that aren't kept
  abbrev is_absent : Family
  is_absent p i = ltb p (packages g) && (not (pr.kept p) && eqb i (last g p))

  abbrev with_absent : Family
  with_absent p i = pr.closed p i || is_absent p i

  absent_parts : (p i : ℕ) → is_absent p i ≡ true → (p < packages g) × (pr.kept p ≡ false) × (i ≡ last g p)
  absent_parts p i e =
      let parts = and_parts (ltb p (packages g)) _ e in
      let more = and_parts (not (pr.kept p)) _ parts.1 in
      (ltb-true _ _ parts.0, not-true _ more.0, eqb-true _ _ more.1)

  absent_from : (p : ℕ) → p < packages g → pr.kept p ≡ false → is_absent p (last g p) ≡ true
  absent_from p known out = and_from _ _ (lt-ltb _ _ known) (and_from _ _ (ap not out) (eq-eqb _ _ refl))

  absent_meets : (p i q : ℕ) → is_absent p i ≡ true → q < packages g → q ≢ p → (j : ℕ) × (with_absent q j ≡ true) × (is_forbidden g p i q j ≡ false)
  absent_meets p i q here known apart =
      let a = absent_parts p i here in
      elim (cases_Bool (pr.kept q)) [
        | inl kept ↦
            let s = filled.some q known in (
              s.0,
              or_left _ _ s.1,
              ap (λ x. is_forbidden g p x q s.0) a.2 ∙ forbidden-flip g p (last g p) q s.0 (λ e. apart (sym e)) ∙ no_need q s.0 p kept s.1 a.1 a.0 (λ e. apart (sym e)),
            )
        | inr out ↦ (
          last g q,
          or_right _ _ (absent_from q known out),
          ap (λ x. is_forbidden g p x q (last g q)) a.2 ∙ plain.apart p q a.0 known (λ e. apart (sym e)),
        )
      ]

  absent_stable : IsStable g with_absent
  absent_stable = record {
    meets = λ p i q here known apart.
        elim (or_cases _ _ here) [
          | inl c ↦
              let m = (closed_stable g (under g []) pr.closed k.closure).meets p i q c known apart in
              record { partner = m.partner; there = or_left _ _ m.there; allowed = m.allowed }
          | inr a ↦ let m = absent_meets p i q a known apart in record { partner = m.0; there = m.1; allowed = m.2 }
        ];
  }

  absent_within : IsWithin with_absent (is_offered g)
  absent_within = record {
    at = λ p i here.
        elim (or_cases _ _ here) [
          | inl c ↦ closed_offered g pr.closed p i k.closure c
          | inr a ↦ let parts = absent_parts p i a in ap (is_offered g p) parts.2 ∙ absent_offered p parts.0 parts.1
        ];
  }

  -- the absent state of a package that isn't kept is left
  pub absent_left : (p : ℕ) → p < packages g → pr.kept p ≡ false → left g pr p (last g p) ≡ true
  absent_left p known out =
      and_from (pr.closed p (last g p)) _
      ((closed_before g pr.closed with_absent k.closure absent_stable absent_within).at p (last g p) (or_right (pr.closed p (last g p)) _ (absent_from p known out)))
      (or_right (pr.kept p) (eqb (last g p) (last g p)) (eq-eqb (last g p) (last g p) refl))

  -- states that are left, one of each package, are a solution where those of kept packages are allowed together
  module _ (xs : List ℕ) (inside : (p : ℕ) → p < packages g → left g pr p (get_or xs p 0) ≡ true)
      (both : (p q : ℕ) → p < packages g → q < packages g → p ≢ q → pr.kept p ≡ true → pr.kept q ≡ true → is_forbidden g p (get_or xs p 0) q (get_or xs q 0) ≡ false) where
    kept_absent : (p q : ℕ) → p < packages g → q < packages g → p ≢ q → pr.kept p ≡ true → pr.kept q ≡ false → is_forbidden g p (get_or xs p 0) q (get_or xs q 0) ≡ false
    kept_absent p q first second apart kept out =
        ap (is_forbidden g p (get_or xs p 0) q) (left_absent g pr q (get_or xs q 0) out (inside q second))
        ∙ no_need p (get_or xs p 0) q kept (left_closed g pr p (get_or xs p 0) (inside p first)) out second (λ e. apart (sym e))

    left_allowed : (p q : ℕ) → p < packages g → q < packages g → p ≢ q → is_forbidden g p (get_or xs p 0) q (get_or xs q 0) ≡ false
    left_allowed p q first second apart =
        elim (cases_Bool (pr.kept p)) [
          | inl one ↦ elim (cases_Bool (pr.kept q)) [
            | inl two ↦ both p q first second apart one two
            | inr out ↦ kept_absent p q first second apart one out
          ]
          | inr away ↦ elim (cases_Bool (pr.kept q)) [
            | inl two ↦ forbidden-flip g p (get_or xs p 0) q (get_or xs q 0) apart ∙ kept_absent q p second first (λ e. apart (sym e)) two away
            | inr out ↦
                ap (λ x. is_forbidden g p x q (get_or xs q 0)) (left_absent g pr p (get_or xs p 0) away (inside p first))
                ∙ ap (is_forbidden g p (last g p) q) (left_absent g pr q (get_or xs q 0) out (inside q second))
                ∙ plain.apart p q first second apart
          ]
        ]

    pub left_solves : length xs ≡ packages g → IsSolution g xs
    left_solves each = record {
      each = each;
      offered = λ p known. closed_offered g pr.closed p (get_or xs p 0) k.closure (left_closed g pr p (get_or xs p 0) (inside p known));
      allowed = left_allowed;
    }
