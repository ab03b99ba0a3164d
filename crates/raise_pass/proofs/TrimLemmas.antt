-- Setting packages absent that aren't reached.
use Rattle.std.proofs.Common.{◌≡◌, ◌≢◌, ℕ, zero, suc, ◌+◌, ◌-◌, ◌<◌, ◌≤◌, Bool, true, false, not, cond, ◌&&◌, List, length, get_or, set, refl, sym, ◌∙◌, ap, subst, arith, inl, inr, eqb, ltb, MatchBool}
use Rattle.std.proofs.lemmas.Bool.{cases_eq, cases_lt, cases_Bool, and_from, and_parts, lt-ltb, ne_eqb, eq-eqb, eqb-true}
use Rattle.std.proofs.lemmas.List.{get_or-set_same, get_or-set_other, ext_get_or, length-set}
use Rattle.version_graph.specs.Graph.{Graph, packages, states, last, is_barred, does_need, is_offered, is_forbidden, sum_below, IsGraph, IsPlain, IsSolution}
use Rattle.raise_pass.specs.Finishing.{Spreads, IsReached, IsReachedSet, IsTrimmed, Trims}
use Rattle.raise_pass.specs.Changed.{below_last, AreStates, WasTrimmed}
use Rattle.version_graph.proofs.TrailLemmas.{offered_known}
use Rattle.raise_pass.proofs.StuckLemmas.{forbidden-flip}

-- ---- sums

pub sum-le : (f h : ℕ → ℕ) (n : ℕ) → ((k : ℕ) → k < n → f k ≤ h k) → sum_below f n ≤ sum_below h n
sum-le f h zero each = omega arith
sum-le f h (suc n) each =
    let rest = sum-le f h n (λ k b. each k (omega (arith, b))) in
    let here = each n (omega arith) in
    omega (arith, rest, here)

pub sum-lt : (f h : ℕ → ℕ) (n place : ℕ) → ((k : ℕ) → k < n → f k ≤ h k) → place < n → f place < h place → sum_below f n < sum_below h n
sum-lt f h zero place each inside less = absurd (omega (arith, inside))
sum-lt f h (suc n) place each inside less = elim (cases_eq place n) [
  | inl same ↦
      let rest = sum-le f h n (λ k b. each k (omega (arith, b))) in
      let here : f n < h n = subst (λ x. f x < h x) same less in
      omega (arith, rest, here)
  | inr ne ↦
      let rest = sum-lt f h n place (λ k b. each k (omega (arith, b))) (omega (arith, inside, ne)) less in
      let here = each n (omega arith) in
      omega (arith, rest, here)
]

-- ---- what is reached under the old states is reached under the new ones

abbrev both : (ℕ → Bool) → (ℕ → Bool) → ℕ → Bool
both f h p = f p && h p

both-spreads : (g : Graph) (old new : List ℕ) (set other : ℕ → Bool) → Spreads g old set → Spreads g new other →
    ((p : ℕ) → p < packages g → set p ≡ true → get_or new p 0 ≡ get_or old p 0) → Spreads g old (both set other)
both-spreads g old new set other s t same = record {
  roots = λ p e. and_from (set p) (other p) (s.roots p e) (t.roots p e);
  needs = λ p q known is e.
      let parts = and_parts (set p) (other p) is in
      and_from (set q) (other q) (s.needs p q known parts.0 e) (t.needs p q known parts.1 (ap (λ x. does_need g p x q) (same p known parts.0) ∙ e));
}

pub reached-kept : (g : Graph) (old new : List ℕ) (set : ℕ → Bool) (p : ℕ) → IsReachedSet g old set →
    ((p : ℕ) → p < packages g → set p ≡ true → get_or new p 0 ≡ get_or old p 0) → set p ≡ true → IsReached g new p
reached-kept g old new set p r same is = record {
  in_each = λ other t. (and_parts (set p) (other p) ((r.sound p is).in_each (both set other) (both-spreads g old new set other r.spreads t same))).1;
}

-- ---- the new states, where the set is that of the reached packages

-- the set is that of the reached packages, and each other package is absent
pub record IsCut (g : Graph) (old new : List ℕ) (set : ℕ → Bool) : Type 0 where
  pub reached : IsReachedSet g old set
  pub each : length new ≡ length old
  pub result : (p : ℕ) → p < packages g → get_or new p 0 ≡ cond (set p) (get_or old p 0) (last g p)

pub cut-stays : (g : Graph) (old new : List ℕ) (set : ℕ → Bool) → IsCut g old new set → (p : ℕ) → p < packages g → set p ≡ true → get_or new p 0 ≡ get_or old p 0
cut-stays g old new set c p known is = c.result p known ∙ ap (λ b. cond b (get_or old p 0) (last g p)) is

pub cut-goes : (g : Graph) (old new : List ℕ) (set : ℕ → Bool) → IsCut g old new set → (p : ℕ) → p < packages g → set p ≡ false → get_or new p 0 ≡ last g p
cut-goes g old new set c p known out = c.result p known ∙ ap (λ b. cond b (get_or old p 0) (last g p)) out

pub cut-trimmed : (g : Graph) (old new : List ℕ) (set : ℕ → Bool) → IsCut g old new set → IsTrimmed g new
cut-trimmed g old new set c = record {
  reached = λ p known present. elim (cases_Bool (set p)) [
    | inl is ↦ reached-kept g old new set p c.reached (cut-stays g old new set c) is
    | inr out ↦ absurd (present (cut-goes g old new set c p known out))
  ];
}

no-root : (g : Graph) (old new : List ℕ) (set : ℕ → Bool) → IsCut g old new set → (p : ℕ) → p < packages g → set p ≡ false → is_barred g p (last g p) ≡ false
no-root g old new set c p known out = elim (cases_Bool (is_barred g p (last g p))) [
  | inl t ↦ (let is = c.reached.spreads.roots p (and_from (ltb p (packages g)) (is_barred g p (last g p)) (lt-ltb p (packages g) known) t) in absurd (cc))
  | inr f ↦ f
]

absent-offered : (g : Graph) (p : ℕ) → p < packages g → 0 < states g p → is_barred g p (last g p) ≡ false → is_offered g p (last g p) ≡ true
unfolding is_offered
absent-offered g p known some out =
    and_from (ltb p (packages g)) _ (lt-ltb p (packages g) known)
    (and_from (ltb (last g p) (states g p)) _ (lt-ltb (last g p) (states g p) (omega (arith, some))) (ap not out))

-- a reached package needs no package that isn't reached
reached-apart : (g : Graph) (old new : List ℕ) (set : ℕ → Bool) → IsCut g old new set → (p q : ℕ) → p < packages g → q < packages g → p ≢ q →
    set p ≡ true → set q ≡ false → is_forbidden g p (get_or old p 0) q (last g q) ≡ false
reached-apart g old new set c p q kp kq ne is out = elim (cases_Bool (is_forbidden g p (get_or old p 0) q (last g q))) [
  | inl t ↦
      let apart : eqb q p ≡ false = ne_eqb q p (λ e. ne (sym e)) in
      let need : does_need g p (get_or old p 0) q ≡ true =
      and_from (ltb q (packages g)) _ (lt-ltb q (packages g) kq) (and_from (not (eqb q p)) _ (ap not apart) t) in
      let there = c.reached.spreads.needs p q kp is need in
      absurd (cc)
  | inr f ↦ f
]

pub cut-solves : (g : Graph) (old new : List ℕ) (set : ℕ → Bool) → IsGraph g → IsPlain g → IsSolution g old → IsCut g old new set → IsSolution g new
cut-solves g old new set graph plain s c =
    let stays = cut-stays g old new set c in
    let goes = cut-goes g old new set c in
    let put : (p q i j : ℕ) → get_or new p 0 ≡ i → get_or new q 0 ≡ j → is_forbidden g p i q j ≡ false → is_forbidden g p (get_or new p 0) q (get_or new q 0) ≡ false =
    λ p q i j a b f. ap (λ x. is_forbidden g p x q (get_or new q 0)) a ∙ ap (λ x. is_forbidden g p i q x) b ∙ f in
    record {
      each = c.each ∙ s.each;
      offered = λ p known. elim (cases_Bool (set p)) [
        | inl is ↦ ap (is_offered g p) (stays p known is) ∙ s.offered p known
        | inr out ↦ ap (is_offered g p) (goes p known out) ∙ absent-offered g p known (graph.filled p known) (no-root g old new set c p known out)
      ];
      allowed = λ p q kp kq ne. elim (cases_Bool (set p)) [
        | inl is ↦ elim (cases_Bool (set q)) [
          | inl too ↦ put p q _ _ (stays p kp is) (stays q kq too) (s.allowed p q kp kq ne)
          | inr not_too ↦ put p q _ _ (stays p kp is) (goes q kq not_too) (reached-apart g old new set c p q kp kq ne is not_too)
        ]
        | inr out ↦ elim (cases_Bool (set q)) [
          | inl too ↦ put p q _ _ (goes p kp out) (stays q kq too) (forbidden-flip g p (last g p) q (get_or old q 0) ne ∙ reached-apart g old new set c q p kq kp (λ e. ne (sym e)) too out)
          | inr not_too ↦ put p q _ _ (goes p kp out) (goes q kq not_too) (plain.apart p q kp kq ne)
        ]
      ];
    }

pub cut-below : (g : Graph) (old new : List ℕ) (set : ℕ → Bool) → IsCut g old new set → below_last g new ≤ below_last g old
cut-below g old new set c =
    sum-le (λ p. last g p - get_or new p 0) (λ p. last g p - get_or old p 0) (packages g)
    (λ p known. elim (cases_Bool (set p)) [
      | inl is ↦ (let e = cut-stays g old new set c p known is in omega (arith, e))
      | inr out ↦ (let e = cut-goes g old new set c p known out in omega (arith, e))
    ])

-- ---- going over the packages

-- below n the packages that aren't reached are absent, and above all is as it was
pub record IsCutBelow (g : Graph) (old new : List ℕ) (set : ℕ → Bool) (n : ℕ) : Type 0 where
  pub each : length new ≡ length old
  pub below : (p : ℕ) → p < n → p < packages g → get_or new p 0 ≡ cond (set p) (get_or old p 0) (last g p)
  pub above : (p : ℕ) → n ≤ p → get_or new p 0 ≡ get_or old p 0

-- some package below n was to be set absent
pub record IsDueAt (g : Graph) (old : List ℕ) (set : ℕ → Bool) (n : ℕ) : Type 0 where
  pub place : ℕ
  pub before : place < n
  pub known : place < packages g
  pub out : set place ≡ false
  pub present : get_or old place 0 ≢ last g place

-- none was
pub record IsDoneBelow (g : Graph) (old : List ℕ) (set : ℕ → Bool) (n : ℕ) : Type 0 where
  pub absent : (p : ℕ) → p < n → p < packages g → set p ≡ false → get_or old p 0 ≡ last g p

abbrev pub IsDue : Graph → List ℕ → (ℕ → Bool) → ℕ → Bool → Type 0
IsDue g old set n true = IsDueAt g old set n
IsDue g old set n false = IsDoneBelow g old set n

pub cut-none : (g : Graph) (old : List ℕ) (kept : ℕ → Bool) → IsCutBelow g old old kept 0
cut-none g old kept = record { each = refl; below = λ p b. absurd (omega (arith, b)); above = λ p b. refl }

pub due-none : (g : Graph) (old : List ℕ) (kept : ℕ → Bool) → IsDue g old kept 0 false
due-none g old kept = record { absent = λ p b. absurd (omega (arith, b)) }

pub cut-more : (g : Graph) (old mid new : List ℕ) (kept : ℕ → Bool) (n : ℕ) → IsCutBelow g old mid kept n → n < length mid →
    new ≡ set mid n (cond (kept n) (get_or mid n 0) (last g n)) → IsCutBelow g old new kept (n + 1)
cut-more g old mid new kept n c inside e =
    let v = cond (kept n) (get_or mid n 0) (last g n) in
    record {
      each = ap length e ∙ length-set mid n v ∙ c.each;
      below = λ p b known. elim (cases_eq p n) [
        | inl same ↦
            ap (λ xs. get_or xs p 0) e ∙ ap (λ k. get_or (set mid n v) k 0) same ∙ get_or-set_same mid n v 0 inside
            ∙ ap (λ x. cond (kept n) x (last g n)) (c.above n (omega arith)) ∙ sym (ap (λ k. cond (kept k) (get_or old k 0) (last g k)) same)
        | inr ne ↦ ap (λ xs. get_or xs p 0) e ∙ get_or-set_other mid n p v 0 ne ∙ c.below p (omega (arith, b, ne)) known
      ];
      above = λ p b.
          let ne : p ≢ n = omega (arith, b) in
          ap (λ xs. get_or xs p 0) e ∙ get_or-set_other mid n p v 0 ne ∙ c.above p (omega (arith, b));
    }

pub not-true : (b : Bool) → not b ≡ true → b ≡ false
not-true true e = sym e
not-true false e = refl

-- the package n is set absent
pub due-now : (g : Graph) (old mid : List ℕ) (kept : ℕ → Bool) (n : ℕ) → IsCutBelow g old mid kept n → n < packages g →
    (not (kept n) && not (eqb (get_or mid n 0) (last g n))) ≡ true → IsDue g old kept (n + 1) true
due-now g old mid kept n c known e =
    let parts = and_parts (not (kept n)) _ e in
    record {
      place = n;
      before = omega arith;
      known = known;
      out = not-true (kept n) parts.0;
      present = λ same.
          let is = eq-eqb (get_or mid n 0) (last g n) (c.above n (omega arith) ∙ same) in
          let isnt = not-true (eqb (get_or mid n 0) (last g n)) parts.1 in
          absurd (cc);
    }

or-done : (a b : Bool) → (not a && not b) ≡ false → a ≡ false → b ≡ true
or-done true b e f = absurd (cc)
or-done false true e f = refl
or-done false false e f = sym e

-- the package n stays
pub due-later : (g : Graph) (old mid : List ℕ) (kept : ℕ → Bool) (n : ℕ) (flag : Bool) → IsCutBelow g old mid kept n →
    (not (kept n) && not (eqb (get_or mid n 0) (last g n))) ≡ false → IsDue g old kept n flag → IsDue g old kept (n + 1) flag
due-later g old mid kept n true c e d = record { place = d.place; before = (let b = d.before in omega (arith, b)); known = d.known; out = d.out; present = d.present }
due-later g old mid kept n false c e d = record {
  absent = λ p b known out. elim (cases_eq p n) [
    | inl same ↦
        let here = subst (λ k. kept k ≡ false) same out in
        subst (λ k. get_or old k 0 ≡ last g k) (sym same) (sym (c.above n (omega arith)) ∙ eqb-true (get_or mid n 0) (last g n) (or-done (kept n) _ e here))
    | inr ne ↦ d.absent p (omega (arith, b, ne)) known out
  ];
}

pub cut-whole : (g : Graph) (old new : List ℕ) (kept : ℕ → Bool) (n : ℕ) → IsReachedSet g old kept → IsCutBelow g old new kept n → packages g ≤ n → IsCut g old new kept
cut-whole g old new kept n r c all = record { reached = r; each = c.each; result = λ p known. c.below p (omega (arith, known, all)) known }

-- what trimming answers
pub trim-answer : (g : Graph) (old new : List ℕ) (kept : ℕ → Bool) (n : ℕ) (flag : Bool) → IsReachedSet g old kept → IsCutBelow g old new kept n → packages g ≤ n →
    length old ≡ packages g → IsDue g old kept n flag → MatchBool flag (Trims g old new) (WasTrimmed g old new)
trim-answer g old new kept n true r c all each d =
    let w = cut-whole g old new kept n r c all in
    record {
      due = λ t.
          let is = (t.reached d.place d.known d.present).in_each kept r.spreads in
          let out = d.out in
          absurd (cc);
      set = kept;
      reached = r;
      each = c.each;
      result = w.result;
    }
trim-answer g old new kept n false r c all each d = record {
  trimmed = record {
    reached = λ p known present. elim (cases_Bool (kept p)) [
      | inl is ↦ r.sound p is
      | inr out ↦ absurd (present (d.absent p (omega (arith, known, all)) known out))
    ];
  };
  same = (let long = c.each in ext_get_or 0 new old long (λ p inside.
      let known : p < packages g = omega (arith, inside, long, each) in
      elim (cases_Bool (kept p)) [
        | inl is ↦ c.below p (omega (arith, known, all)) known ∙ ap (λ b. cond b (get_or old p 0) (last g p)) is
        | inr out ↦ c.below p (omega (arith, known, all)) known ∙ ap (λ b. cond b (get_or old p 0) (last g p)) out ∙ sym (d.absent p (omega (arith, known, all)) known out)
      ]));
}

-- a solution has a state for each package
pub solution-states : (g : Graph) (chosen : List ℕ) → IsSolution g chosen → AreStates g chosen
solution-states g chosen s = record { each = s.each; known = λ p known. (offered_known g p (get_or chosen p 0) (s.offered p known)).state }

-- while packages are set absent there is a state for each
pub cut-states : (g : Graph) (old mid : List ℕ) (kept : ℕ → Bool) (n : ℕ) → IsGraph g → AreStates g old → IsCutBelow g old mid kept n → AreStates g mid
cut-states g old mid kept n graph s c = record {
  each = c.each ∙ s.each;
  known = λ p known. elim (cases_lt p n) [
    | inl before ↦
        let low = s.known p known in
        let some = graph.filled p known in
        let at = c.below p before known in
        elim (cases_Bool (kept p)) [
          | inl is ↦ (let e : get_or mid p 0 ≡ get_or old p 0 = at ∙ ap (λ b. cond b (get_or old p 0) (last g p)) is in omega (arith, e, low))
          | inr out ↦ (let e : get_or mid p 0 ≡ last g p = at ∙ ap (λ b. cond b (get_or old p 0) (last g p)) out in omega (arith, e, some))
        ]
    | inr after ↦ (let e = c.above p after in let low = s.known p known in omega (arith, e, low))
  ];
}
