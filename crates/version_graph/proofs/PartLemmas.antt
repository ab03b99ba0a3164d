-- Some packages and states of an instance: they are few, and what is copied of them.
use Rattle.std.proofs.Common.{◌≡◌, ◌≢◌, ℕ, zero, suc, ◌+◌, ◌<◌, ◌≤◌, Bool, true, false, ◌||◌, ◌&&◌, not, Result, Ok, Err, IfOk, Option, Some, None, MatchOption, List, [], ◌∷◌, length, get_or, set, replicate, drop, sum, refl, sym, ◌∙◌, subst, ap, arith, inl, inr}
use Rattle.std.proofs.lemmas.Bool.{cases_lt, cases_order, or_cases, and_parts, eqb-true}
use Rattle.std.proofs.lemmas.Bool.Decides.{eqb_tells}
use Rattle.std.proofs.lemmas.List.{length-set, length-replicate, get_or-replicate, get_or-set_same, get_or-set_other}
use Rattle.std.proofs.lemmas.List.Sums.{sum_by-cons}
use Rattle.std.specs.List.Sorted.{IsStrictlyIncreasing}
use Rattle.version_graph.specs.Graph.{Graph, packages, states, is_barred, is_offered, is_forbidden, is_pair, is_state, SameGraph, IsGraph, IsOpen}
use Rattle.version_graph.specs.Part.{Part, package_of, states_of, state_of, IsPartOf, IsRestrictedTo}
use Rattle.version_graph.specs.Copied.{is_barred_at, is_forbidden_at, HasPlaces, ArePlaces, IsCopied, Copies, IsCopiedTo}
use Rattle.version_graph.proofs.GraphLemmas.{both_true, forbidden-below, forbidden-above, offered-from_barred}

-- ---- the part is no greater than the instance

place_le : (g : Graph) (m : Part) → IsPartOf g m → (p : ℕ) → p < length m → p ≤ package_of m p
place_le g m part zero h = omega arith
place_le g m part (suc p) h = omega (arith, place_le g m part p (omega (arith, h)), part.rising p (suc p) (omega arith) h)

pub part_few : (g : Graph) (m : Part) → IsGraph g → IsPartOf g m → length m ≤ 4096
part_few g m graph part = at (length m) refl
  where
    at : (n : ℕ) → n ≡ length m → n ≤ 4096
    at zero e = omega arith
    at (suc n) e =
        let last : n < length m = omega (arith, e) in
        omega (arith, place_le g m part n last, part.known n last, graph.few)

climbs : (xs : List ℕ) → IsStrictlyIncreasing xs → (i : ℕ) → i < length xs → i ≤ get_or xs i 0
climbs xs up zero h = omega arith
climbs xs up (suc i) h =
    let e : i + 1 ≡ suc i = omega arith in
    let step : get_or xs i 0 < get_or xs (suc i) 0 = subst (λ n. get_or xs i 0 < get_or xs n 0) e (up i (omega (arith, h))) in
    omega (arith, climbs xs up i (omega (arith, h)), step)

pub states_few : (g : Graph) (m : Part) → IsPartOf g m → (p : ℕ) → p < length m → length (states_of m p) ≤ states g (package_of m p)
states_few g m part p known = at (length (states_of m p)) refl
  where
    at : (n : ℕ) → n ≡ length (states_of m p) → n ≤ states g (package_of m p)
    at zero e = omega arith
    at (suc n) e =
        let last : n < length (states_of m p) = omega (arith, e) in
        omega (arith, climbs (states_of m p) (part.ordered p known) n last, part.there p n known last)

drop-less : (xs : List ℕ) (b c : ℕ) → b ≤ c → sum (drop c xs) ≤ sum (drop b xs)
drop-less [] zero zero h = omega arith
drop-less [] zero (suc c) h = omega arith
drop-less [] (suc b) zero h = absurd (omega (arith, h))
drop-less [] (suc b) (suc c) h = omega arith
drop-less (x ∷ xs) zero zero h = omega arith
drop-less (x ∷ xs) zero (suc c) h = omega (arith, drop-less xs 0 c (omega arith), sum_by-cons (λ (n : ℕ). n) x xs)
drop-less (x ∷ xs) (suc b) zero h = absurd (omega (arith, h))
drop-less (x ∷ xs) (suc b) (suc c) h = drop-less xs b c (omega (arith, h))

sum-drop : (xs : List ℕ) (n : ℕ) → n < length xs → sum (drop n xs) ≡ get_or xs n 0 + sum (drop (n + 1) xs)
sum-drop [] n h = absurd (omega (arith, h))
sum-drop (x ∷ xs) zero h = sum_by-cons (λ (n : ℕ). n) x xs
sum-drop (x ∷ xs) (suc n) h = sum-drop xs n (omega (arith, h)) ∙ ap (λ k. get_or xs n 0 + sum (drop k (x ∷ xs))) (let e : suc (n + 1) ≡ suc n + 1 = omega arith in e)

-- numbers that are no greater than others at rising places have no greater sum
rising_sum : (xs all : List ℕ) (f : ℕ → ℕ) (b : ℕ) → ((k : ℕ) → k < length xs → b ≤ f k) → ((k : ℕ) → k < length xs → f k < length all) →
    ((k l : ℕ) → k < l → l < length xs → f k < f l) → ((k : ℕ) → k < length xs → get_or xs k 0 ≤ get_or all (f k) 0) → sum xs ≤ sum (drop b all)
rising_sum [] all f b from known up at = omega arith
rising_sum (x ∷ xs) all f b from known up at =
    let rest = rising_sum xs all (λ k. f (suc k)) (f 0 + 1)
    (λ k h. omega (arith, up 0 (suc k) (omega arith) (omega (arith, h))))
    (λ k h. known (suc k) (omega (arith, h)))
    (λ k l h e. up (suc k) (suc l) (omega (arith, h)) (omega (arith, e)))
    (λ k h. at (suc k) (omega (arith, h))) in
    omega (arith, rest, sum-drop all (f 0) (known 0 (omega arith)), drop-less all b (f 0) (from 0 (omega arith)), at 0 (omega arith), sum_by-cons (λ (n : ℕ). n) x xs)

pub one_le_sum : (xs : List ℕ) (n : ℕ) → n < length xs → get_or xs n 0 ≤ sum xs
one_le_sum xs n h = omega (arith, sum-drop xs n h, drop-less xs 0 n (omega arith))

pub part_small : (g : Graph) (m : Part) (sizes : List ℕ) → IsGraph g → IsPartOf g m → length sizes ≡ length m →
    ((p : ℕ) → p < length m → get_or sizes p 0 ≡ length (states_of m p)) → sum sizes ≤ 65536
part_small g m sizes graph part each at =
    let less = rising_sum sizes g.sizes (package_of m) 0
    (λ k h. omega arith)
    (λ k h. part.known k (omega (arith, h, each)))
    (λ k l h e. part.rising k l h (omega (arith, e, each)))
    (λ k h. let here : k < length m = omega (arith, h, each) in omega (arith, at k here, states_few g m part k here)) in
    omega (arith, less, graph.small)

-- ---- copying

pub forbidden-turned : (g : Graph) (p i q j : ℕ) → p ≢ q → is_forbidden g p i q j ≡ is_forbidden g q j p i
forbidden-turned g p i q j apart =
    elim (cases_order p q) [
      | inl e ↦ absurd (apart e)
      | inr o ↦ elim o [
        | inl l ↦ forbidden-below g p i q j l ∙ sym (forbidden-above g q j p i (omega arith))
        | inr l ↦ forbidden-above g p i q j (omega arith) ∙ sym (forbidden-below g q j p i l)
      ]
    ]

-- two places of one package are one place
pub place_is : (g : Graph) (m : Part) → IsPartOf g m → (k n : ℕ) → k < length m → n < length m → package_of m k ≡ package_of m n → k ≡ n
place_is g m part k n first second e =
    elim (cases_order k n) [
      | inl same ↦ same
      | inr o ↦ elim o [
        | inl l ↦ absurd (omega (arith, part.rising k n l second, e))
        | inr l ↦ absurd (omega (arith, part.rising n k l first, e))
      ]
    ]

-- no place is known yet
pub places_none : (g : Graph) (m : Part) → ArePlaces g m 0 (replicate (packages g) None)
places_none g m = record {
  each = length-replicate (packages g) None;
  at = λ q h.
      subst (λ (o : Option ℕ). MatchOption o ((k : ℕ) → k < 0 → package_of m k ≢ q) (λ k. (k < 0) × (package_of m k ≡ q)))
      (sym (get_or-replicate (packages g) q None None h)) (λ k l. absurd (omega (arith, l)));
}

place_still : (m : Part) (q n : ℕ) → package_of m n ≢ q → (o : Option ℕ) → MatchOption o ((k : ℕ) → k < n → package_of m k ≢ q) (λ k. (k < n) × (package_of m k ≡ q)) →
    MatchOption o ((k : ℕ) → k < n + 1 → package_of m k ≢ q) (λ k. (k < n + 1) × (package_of m k ≡ q))
place_still m q n apart None f = λ k h. elim (cases_lt k n) [
  | inl l ↦ f k l
  | inr l ↦ let same : k ≡ n = omega (arith, h, l) in λ e. apart (ap (package_of m) (sym same) ∙ e)
]
place_still m q n apart (Some x) f = (omega (arith, f.0), f.1)

-- the place of one more package
pub places_more : (g : Graph) (m : Part) (n : ℕ) (places : List (Option ℕ)) → package_of m n < packages g → ArePlaces g m n places →
    ArePlaces g m (n + 1) (set places (package_of m n) (Some n))
places_more g m n places known p = record {
  each = length-set places (package_of m n) (Some n) ∙ p.each;
  at = λ q h.
      let P : Option ℕ → Type 0 = λ o. MatchOption o ((k : ℕ) → k < n + 1 → package_of m k ≢ q) (λ k. (k < n + 1) × (package_of m k ≡ q)) in
      elim (eqb_tells q (package_of m n)) [
        | inl s ↦
            subst P (sym (ap (λ x. get_or (set places (package_of m n) (Some n)) x None) s.1 ∙ get_or-set_same places (package_of m n) (Some n) None (omega (arith, known, p.each))))
            (omega arith, sym s.1)
        | inr s ↦ subst P (sym (get_or-set_other places (package_of m n) q (Some n) None s.1)) (place_still m q n (λ e. s.1 (sym e)) (get_or places q None) (p.at q h))
      ];
}

-- packages in two places are two packages
pub places-apart : (g : Graph) (m : Part) → IsPartOf g m → (p q : ℕ) → p < length m → q < p → package_of m p ≢ package_of m q
places-apart g m part p q known below e = omega (arith, part.rising q p below known, e)

pub copies-none : (g : Graph) (m : Part) (h : Graph) → Copies g m h h
copies-none g m h = record { sizes = refl; barred = λ p i e. e; forbidden = λ p i q j e. e; copied = λ c. c }

pub copies-on : (g : Graph) (m : Part) (a b c : Graph) → Copies g m a b → Copies g m b c → Copies g m a c
copies-on g m a b c x y = record {
  sizes = y.sizes ∙ x.sizes;
  barred = λ p i e. y.barred p i (x.barred p i e);
  forbidden = λ p i q j e. y.forbidden p i q j (x.forbidden p i q j e);
  copied = λ e. y.copied (x.copied e);
}

pub places-kept : (g : Graph) (m : Part) (a b : Graph) → Copies g m a b → HasPlaces m a → HasPlaces m b
places-kept g m a b c h = record {
  each = ap length c.sizes ∙ h.each;
  wide = λ p known. ap (λ xs. get_or xs p 0) c.sizes ∙ h.wide p known;
}

pub unless_not : (b : Bool) → not b ≡ false → b ≡ true
unless_not true e = refl
unless_not false e = cc

pub if-ok : {T E : Type 0} (r : Result T E) (P Q : T → Type 0) → ((x : T) → P x → Q x) → IfOk r P → IfOk r Q
if-ok (Ok x) P Q f h = f x h
if-ok (Err e) P Q f h = h

or_true_left : (a b : Bool) → a ≡ true → (a || b) ≡ true
or_true_left true b e = refl
or_true_left false b e = cc

or_true_right : (a b : Bool) → b ≡ true → (a || b) ≡ true
or_true_right true b e = refl
or_true_right false b e = e

-- whether a state in a place of the part is offered
pub offered-at : (g : Graph) (m : Part) → IsPartOf g m → (p i a b : ℕ) → p < length m → i < length (states_of m p) → a ≡ package_of m p → b ≡ state_of m p i →
    is_offered g a b ≡ not (is_barred_at g m p i)
offered-at g m part p i a b known state first second =
    (λ k. is_offered g (first k) (second k)) ∙ offered-from_barred g (package_of m p) (state_of m p i) (part.known p known) (part.there p i known state)

-- a state that is forbidden in both
module _ (g : Graph) (m : Part) (old new : Graph) (p i : ℕ) (sizes : new.sizes ≡ old.sizes)
    (barred : (q j : ℕ) → is_barred new q j ≡ (is_barred old q j || is_state q j p i))
    (forbidden : (a b c d : ℕ) → is_forbidden new a b c d ≡ is_forbidden old a b c d) where
  pub state_copies : is_barred_at g m p i ≡ true → Copies g m old new
  state_copies here = record {
    sizes = sizes;
    barred = λ q j e. barred q j ∙ or_true_left _ _ e;
    forbidden = λ a b c d e. forbidden a b c d ∙ e;
    copied = λ k. record {
      barred = λ q j e. elim (or_cases (is_barred old q j) (is_state q j p i) (sym (barred q j) ∙ e)) [
        | inl o ↦ k.barred q j o
        | inr s ↦
            let parts = and_parts _ _ s in
            let first : q ≡ p = eqb-true _ _ parts.0 in
            let second : j ≡ i = eqb-true _ _ parts.1 in
            subst (λ a. is_barred_at g m a j ≡ true) (sym first) (subst (λ b. is_barred_at g m p b ≡ true) (sym second) here)
      ];
      forbidden = λ a b c d e. k.forbidden a b c d (sym (forbidden a b c d) ∙ e);
    };
  }

  pub state_here : is_barred new p i ≡ true
  state_here = barred p i ∙ or_true_right _ _ (same p i)
    where
      same : (a b : ℕ) → is_state a b a b ≡ true
      same a b = grind arith

-- a pair that is forbidden in both
module _ (g : Graph) (m : Part) (old new : Graph) (p i q j : ℕ) (sizes : new.sizes ≡ old.sizes)
    (barred : (a b : ℕ) → is_barred new a b ≡ is_barred old a b)
    (forbidden : (a b c d : ℕ) → is_forbidden new a b c d ≡ (is_forbidden old a b c d || is_pair a b c d p i q j)) where
  moved : (a b c d x y z w : ℕ) → ((a ≡ x) × (b ≡ y)) → ((c ≡ z) × (d ≡ w)) → is_forbidden_at g m x y z w ≡ true → is_forbidden_at g m a b c d ≡ true
  moved a b c d x y z w e f here =
      subst (λ n. is_forbidden_at g m n b c d ≡ true) (sym e.0)
      (subst (λ n. is_forbidden_at g m x n c d ≡ true) (sym e.1)
      (subst (λ n. is_forbidden_at g m x y n d ≡ true) (sym f.0)
      (subst (λ n. is_forbidden_at g m x y z n ≡ true) (sym f.1) here)))

  equal : (a b x y : ℕ) → is_state a b x y ≡ true → (a ≡ x) × (b ≡ y)
  equal a b x y e = let parts = and_parts _ _ e in (eqb-true _ _ parts.0, eqb-true _ _ parts.1)

  pub pair_copies : package_of m p ≢ package_of m q → is_forbidden_at g m p i q j ≡ true → Copies g m old new
  pair_copies apart here = record {
    sizes = sizes;
    barred = λ a b e. barred a b ∙ e;
    forbidden = λ a b c d e. forbidden a b c d ∙ or_true_left _ _ e;
    copied = λ k. record {
      barred = λ a b e. k.barred a b (sym (barred a b) ∙ e);
      forbidden = λ a b c d e. elim (or_cases (is_forbidden old a b c d) (is_pair a b c d p i q j) (sym (forbidden a b c d) ∙ e)) [
        | inl o ↦ k.forbidden a b c d o
        | inr s ↦ elim (or_cases (is_state a b p i && is_state c d q j) _ s) [
          | inl t ↦ let parts = and_parts (is_state a b p i) (is_state c d q j) t in
              moved a b c d p i q j (equal a b p i parts.0) (equal c d q j parts.1) here
          | inr t ↦ let parts = and_parts (is_state a b q j) (is_state c d p i) t in
              moved a b c d q j p i (equal a b q j parts.0) (equal c d p i parts.1)
              (sym (forbidden-turned g (package_of m p) (state_of m p i) (package_of m q) (state_of m q j) apart) ∙ here)
        ]
      ];
    };
  }

  pub pair_here : is_forbidden new p i q j ≡ true
  pair_here = forbidden p i q j ∙ or_true_right _ _ (same p i q j)
    where
      same : (a b c d : ℕ) → is_pair a b c d a b c d ≡ true
      same a b c d = grind arith

-- ---- the whole part is copied

pub open-copied : (g : Graph) (m : Part) (h : Graph) → IsOpen h → IsCopied g m h
open-copied g m h o = record {
  barred = λ p i e. let no = o.barred p i in absurd (cc);
  forbidden = λ p i q j e. let no = o.forbidden p i q j in absurd (cc);
}

pub copied_none : (g : Graph) (m : Part) (h : Graph) → IsCopiedTo g m h 0
copied_none g m h = record {
  barred = λ p i below s e. absurd (omega (arith, below));
  forbidden = λ p i q j below l s t e. absurd (omega (arith, below));
}

pub copied_more : (g : Graph) (m : Part) (a b c : Graph) (n : ℕ) → Copies g m a b → Copies g m b c → IsCopiedTo g m a n →
    ((i : ℕ) → i < length (states_of m n) → is_barred_at g m n i ≡ true → is_barred b n i ≡ true) →
    ((i q j : ℕ) → q < n → i < length (states_of m n) → j < length (states_of m q) → is_forbidden_at g m n i q j ≡ true → is_forbidden c n i q j ≡ true) →
    IsCopiedTo g m c (n + 1)
copied_more g m a b c n x y t alone pairs = record {
  barred = λ p i below s e. elim (cases_lt p n) [
    | inl l ↦ y.barred p i (x.barred p i (t.barred p i l s e))
    | inr l ↦
        let same : n ≡ p = omega (arith, below, l) in
        y.barred p i (subst (λ k. i < length (states_of m k) → is_barred_at g m k i ≡ true → is_barred b k i ≡ true) same (alone i) s e)
  ];
  forbidden = λ p i q j below l s u e. elim (cases_lt p n) [
    | inl k ↦ y.forbidden p i q j (x.forbidden p i q j (t.forbidden p i q j k l s u e))
    | inr k ↦
        let same : n ≡ p = omega (arith, below, k) in
        subst (λ v. q < v → i < length (states_of m v) → j < length (states_of m q) → is_forbidden_at g m v i q j ≡ true → is_forbidden c v i q j ≡ true) same (pairs i q j) l s u e
  ];
}

-- an instance with the same states, forbidden alike, is restricted to the part as well
pub restricted-on : (g : Graph) (m : Part) (a b : Graph) → IsRestrictedTo g m a → SameGraph a b → IsRestrictedTo g m b
restricted-on g m a b r s = record {
  each = ap length s.sizes ∙ r.each;
  wide = λ p known. ap (λ xs. get_or xs p 0) s.sizes ∙ r.wide p known;
  barred = λ p i known state. s.barred p i ∙ r.barred p i known state;
  forbidden = λ p i q j first low second high apart. s.forbidden p i q j ∙ r.forbidden p i q j first low second high apart;
}

pub restricted-from : (g : Graph) (m : Part) (h : Graph) → IsPartOf g m → HasPlaces m h → IsCopied g m h → IsCopiedTo g m h (length m) → IsRestrictedTo g m h
restricted-from g m h part places copied all = record {
  each = places.each;
  wide = places.wide;
  barred = λ p i known state. both_true _ _ (copied.barred p i) (all.barred p i known state);
  forbidden = λ p i q j first s second t apart. both_true _ _ (copied.forbidden p i q j) (λ e. elim (cases_order p q) [
    | inl same ↦ absurd (apart same)
    | inr o ↦ elim o [
      | inl l ↦
          let two : package_of m p ≢ package_of m q = λ same. omega (arith, part.rising p q l second, same) in
          forbidden-turned h p i q j apart
          ∙ all.forbidden q j p i second l t s (sym (forbidden-turned g (package_of m p) (state_of m p i) (package_of m q) (state_of m q j) two) ∙ e)
      | inr l ↦ all.forbidden p i q j first l s t e
    ]
  ]);
}
