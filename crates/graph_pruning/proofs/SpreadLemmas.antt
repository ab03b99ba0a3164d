-- How one step of closing after another keeps what is done.
use Rattle.std.proofs.Common.{◌≡◌, ◌≢◌, ℕ, zero, suc, ◌+◌, ◌<◌, ◌≤◌, Bool, true, false, not, cond, ◌&&◌, ◌||◌, List, [], ◌∷◌, ◌++◌, length, get_or, take, drop, refl, sym, ◌∙◌, subst, ap, arith, inl, inr, eqb, ltb, length-append}
use Rattle.std.specs.Bool.{MatchBool}
use Rattle.std.specs.List.{list_any, Contains}
use Rattle.std.proofs.lemmas.Grind.{get_or_default_zero}
use Rattle.std.proofs.lemmas.Bool.{cases_lt, cases_Bool, cases_eq, and_parts, and_from, eq-eqb, eqb-true, ne_eqb, ltb-true, lt-ltb, le-ltb}
use Rattle.std.proofs.lemmas.Bool.Decides.{eqb_tells}
use Rattle.std.proofs.lemmas.List.{take-append-drop}
use Rattle.std.proofs.lemmas.List.Folds.{list_any-append}
use Rattle.std.proofs.Math.Seq.{take-append_seam, take-length}
use Rattle.version_graph.specs.Graph.{Graph, packages, states, is_forbidden, has_pair, is_state, is_offered}
use Rattle.version_graph.specs.Family.{Family, IsWithin, Meets, HasEmpty, IsClosureOf, LiesBetween}
use Rattle.version_graph.specs.Domain.{Rows, has}
use Rattle.version_graph.specs.Noted.{History, Holds, IsSettled, SaysAlike, left_by, is_noted, note_at}
use Rattle.graph_pruning.specs.Spread.{Shrinks, Extends, IsClear, is_pending, AreClear}

pub shrinks-refl : (g : Graph) (f : Family) → Shrinks g f f
shrinks-refl g f = record { within = record { at = λ p i h. h }; kept = λ s stable within. within }

pub shrinks-trans : (g : Graph) (f h k : Family) → Shrinks g f h → Shrinks g h k → Shrinks g f k
shrinks-trans g f h k a b = record {
  within = record { at = λ p i e. a.within.at p i (b.within.at p i e) };
  kept = λ s stable within. b.kept s stable (a.kept s stable within);
}

take-within : (n m : ℕ) (xs : List (ℕ × ℕ)) → n ≤ m → take n (take m xs) ≡ take n xs
take-within zero m xs h = refl
take-within (suc n) zero xs h = absurd (omega (arith, h))
take-within (suc n) (suc m) [] h = refl
take-within (suc n) (suc m) (x ∷ xs) h = ap (λ r. x ∷ r) (take-within n m xs (omega (arith, h)))

pub extends-refl : (t : History) → Extends t t
extends-refl t = record { longer = omega arith; earlier = take-length t.notes; alike = λ k h. refl }

pub extends-trans : (a b c : History) → Extends a b → Extends b c → Extends a c
extends-trans a b c x y = record {
  longer = omega (arith, x.longer, y.longer);
  earlier = sym (take-within (length a.notes) (length b.notes) c.notes x.longer) ∙ ap (take (length a.notes)) y.earlier ∙ x.earlier;
  alike = λ k h. y.alike k (omega (arith, h, x.longer)) ∙ x.alike k h;
}

pub extends-push : (t u : History) (n : ℕ × ℕ) → u.notes ≡ t.notes ++ n ∷ [] → SaysAlike t u (length t.notes) → Extends t u
extends-push t u n e alike = record {
  longer = omega (arith, ap length e, length-append t.notes (n ∷ []));
  earlier = ap (take (length t.notes)) e ∙ take-append_seam t.notes (n ∷ []);
  alike = alike;
}

-- a state that meets no allowed partner is in no stable family
pub shrinks-unmet : (g : Graph) (old new : Family) (p i q : ℕ) → q < packages g → q ≢ p →
    ((j : ℕ) → old q j ≡ true → is_forbidden g p i q j ≡ true) →
    ((r j : ℕ) → new r j ≡ (old r j && not (is_state r j p i))) → Shrinks g old new
shrinks-unmet g old new p i q known apart unmet without = record {
  within = record { at = λ r j h. (and_parts (old r j) _ (sym (without r j) ∙ h)).0 };
  kept = λ s stable within. record {
    at = λ r j h. elim (cases_Bool (is_state r j p i)) [
      | inr n ↦ without r j ∙ and_from _ _ (within.at r j h) (ap not n)
      | inl n ↦
          let parts = and_parts (eqb r p) (eqb j i) n in
          let here : s p i ≡ true = ap (λ x. s x i) (sym (eqb-true _ _ parts.0)) ∙ ap (s r) (sym (eqb-true _ _ parts.1)) ∙ h in
          let m = stable.meets p i q here known apart in
          let no_partner : is_forbidden g p i q m.partner ≡ true = unmet m.partner (within.at q m.partner m.there) in
          let allowed = m.allowed in
          absurd (cc)
    ];
  };
}

-- nothing is in the closure of what can't shrink to it
pub empty-from : (g : Graph) (old new : Family) (p : ℕ) → Shrinks g old new → p < packages g → ((i : ℕ) → new p i ≡ false) → HasEmpty g old
empty-from g old new p s known none = record {
  place = p;
  known = known;
  none = λ i c.
      let there = (s.kept c.family c.stable c.within).at p i c.here in
      let away = none i in
      absurd (cc);
}

-- where the domains have shrunk, an empty domain was there before
pub empty-before : (g : Graph) (old new : Family) → Shrinks g old new → HasEmpty g new → HasEmpty g old
empty-before g old new s h = record {
  place = h.place;
  known = h.known;
  none = λ i c.
      h.none i (record { family = c.family; stable = c.stable; within = s.kept c.family c.stable c.within; here = c.here });
}

-- a clear package stays clear while its own domain stays
pub clear-stays : (g : Graph) (old new : Family) (q : ℕ) → IsWithin new old → ((j : ℕ) → old q j ≡ true → new q j ≡ true) → IsClear g old q → IsClear g new q
clear-stays g old new q within same c = record {
  some = (c.some.0, same c.some.0 c.some.1);
  meets = λ p i h apart. let m = c.meets p i (within.at p i h) apart in record { partner = m.partner; there = same m.partner m.there; allowed = m.allowed };
}

-- ---- notes

noted-split : (notes : List (ℕ × ℕ)) (k q j : ℕ) → is_noted notes q j ≡ (is_noted (take k notes) q j || is_noted (drop k notes) q j)
unfolding is_noted
noted-split notes k q j = ap (λ xs. list_any (λ (n : ℕ × ℕ). is_state q j n.0 n.1) xs) (sym (take-append-drop k notes)) ∙ list_any-append (λ (n : ℕ × ℕ). is_state q j n.0 n.1) (take k notes) (drop k notes)

noted-pending : (xs : List (ℕ × ℕ)) (q j : ℕ) → list_any (λ (n : ℕ × ℕ). eqb n.0 q) xs ≡ false → list_any (λ (n : ℕ × ℕ). is_state q j n.0 n.1) xs ≡ false
noted-pending [] q j e = refl
noted-pending (x ∷ xs) q j e =
    let parts = or_parts (eqb x.0 q) (list_any (λ (n : ℕ × ℕ). eqb n.0 q) xs) e in
    let apart : eqb q x.0 ≡ false = eqb-flip x.0 q ∙ parts.0 in
    ap (λ v. (v && eqb j x.1) || list_any (λ (n : ℕ × ℕ). is_state q j n.0 n.1) xs) apart ∙ noted-pending xs q j parts.1
  where
    or_parts : (a b : Bool) → (a || b) ≡ false → (a ≡ false) × (b ≡ false)
    or_parts true b e = cc
    or_parts false b e = (refl, e)

    eqb-flip : (a b : ℕ) → eqb b a ≡ eqb a b
    eqb-flip a b = elim (eqb_tells a b) [ inl t ↦ eq-eqb b a (sym t.1) ∙ sym t.0 | inr t ↦ elim (eqb_tells b a) [ inl u ↦ absurd (t.1 (sym u.1)) | inr u ↦ u.0 ∙ sym t.0 ] ]

-- a domain of which nothing was noted since is as it was
pub unpending-same : (g : Graph) (notes : List (ℕ × ℕ)) (k q j : ℕ) → is_pending notes k q ≡ false → left_by g (take k notes) q j ≡ true → left_by g notes q j ≡ true
unfolding left_by is_pending is_noted
unpending-same g notes k q j e h =
    let parts = and_parts (is_offered g q j) _ h in
    let after : is_noted (drop k notes) q j ≡ false = noted-pending (drop k notes) q j e in
    let all : is_noted notes q j ≡ (is_noted (take k notes) q j || false) = noted-split notes k q j ∙ ap (λ v. is_noted (take k notes) q j || v) after in
    and_from (is_offered g q j) (not (is_noted notes q j)) parts.0 (ap not all ∙ none_more (is_noted (take k notes) q j) ∙ parts.1)
  where
    none_more : (a : Bool) → not (a || false) ≡ not a
    none_more true = refl
    none_more false = refl

-- a state in domains that a trail holds is in range
pub held-known : (g : Graph) (d : Rows) (t : History) (p i : ℕ) → Holds g d t → has d p i ≡ true → (p < packages g) × (i < states g p)
unfolding left_by is_offered
held-known g d t p i h e =
    let offered = and_parts (is_offered g p i) (not (is_noted t.notes p i)) (sym (h.left p i) ∙ e) in
    let parts = and_parts (ltb p (packages g)) _ offered.0 in
    let more = and_parts (ltb i (states g p)) _ parts.1 in
    (ltb-true _ _ parts.0, ltb-true _ _ more.0)

pub forbidden-flip : (g : Graph) (p i q j : ℕ) → p ≢ q → is_forbidden g p i q j ≡ is_forbidden g q j p i
unfolding is_forbidden
forbidden-flip g p i q j apart =
    elim (cases_lt p q) [
      | inl h ↦ ap (λ b. cond b (has_pair g p i q j) (has_pair g q j p i)) (lt-ltb p q h) ∙ sym (ap (λ b. cond b (has_pair g q j p i) (has_pair g p i q j)) (le-ltb q p (omega arith)))
      | inr h ↦
          let below : q < p = elim (cases_eq p q) [ inl e ↦ absurd (apart e) | inr n ↦ omega arith ] in
          ap (λ b. cond b (has_pair g p i q j) (has_pair g q j p i)) (le-ltb p q h) ∙ sym (ap (λ b. cond b (has_pair g q j p i) (has_pair g p i q j)) (lt-ltb q p below))
    ]

-- what is met by each neighbour of q is met by all
pub clear-from : (g : Graph) (f : Family) (q : ℕ) (xs : List ℕ) → ((i : ℕ) × (f q i ≡ true)) →
    ((i p j : ℕ) → is_forbidden g q i p j ≡ true → Contains xs p) →
    ((k : ℕ) → k < length xs → (i : ℕ) → f (get_or xs k 0) i ≡ true → Meets g f (get_or xs k 0) i q) → IsClear g f q
clear-from g f q xs some whole met = record {
  some = some;
  meets = λ p i h apart. elim (cases_Bool (is_forbidden g p i q some.0)) [
    | inr n ↦ record { partner = some.0; there = some.1; allowed = n }
    | inl y ↦
        let flip : is_forbidden g q some.0 p i ≡ true = forbidden-flip g q some.0 p i apart ∙ y in
        let c = whole some.0 p i flip in
        let here : get_or xs c.0 0 ≡ p = sym (get_or_default_zero xs c.0 p c.1) ∙ c.2 in
        subst (λ x. Meets g f x i q) here (met c.0 c.1 i (ap (λ x. f x i) here ∙ h))
  ];
}

abbrev pending : List (ℕ × ℕ) → ℕ → Bool
pending xs q = list_any (λ (n : ℕ × ℕ). eqb n.0 q) xs

or_both : (a b : Bool) → (a || b) ≡ false → (a ≡ false) × (b ≡ false)
or_both true b e = cc
or_both false b e = (refl, e)

any-take : (xs : List (ℕ × ℕ)) (n q : ℕ) → pending xs q ≡ false → pending (take n xs) q ≡ false
any-take xs zero q e = refl
any-take [] (suc n) q e = refl
any-take (x ∷ xs) (suc n) q e = let p = or_both (eqb x.0 q) (pending xs q) e in ap (λ v. v || pending (take n xs) q) p.0 ∙ any-take xs n q p.1

pend-take : (xs : List (ℕ × ℕ)) (from n q : ℕ) → pending (drop from xs) q ≡ false → pending (drop from (take n xs)) q ≡ false
pend-take xs zero n q e = any-take xs n q e
pend-take xs (suc from) zero q e = refl
pend-take [] (suc from) (suc n) q e = refl
pend-take (x ∷ xs) (suc from) (suc n) q e = pend-take xs from n q e

pend-later : (xs : List (ℕ × ℕ)) (from k q : ℕ) → from ≤ k → pending (drop from xs) q ≡ false → pending (drop k xs) q ≡ false
pend-later xs zero zero q h e = e
pend-later [] zero (suc k) q h e = refl
pend-later (x ∷ xs) zero (suc k) q h e = pend-later xs zero k q (omega arith) (or_both (eqb x.0 q) (pending xs q) e).1
pend-later xs (suc from) zero q h e = absurd (omega (arith, h))
pend-later [] (suc from) (suc k) q h e = refl
pend-later (x ∷ xs) (suc from) (suc k) q h e = pend-later xs from k q (omega (arith, h)) e

pend-here : (xs : List (ℕ × ℕ)) (k q : ℕ) → k < length xs → pending (drop k xs) q ≡ (eqb (note_at xs k).0 q || pending (drop (suc k) xs) q)
pend-here [] k q h = absurd (omega (arith, h))
pend-here (x ∷ xs) zero q h = refl
pend-here (x ∷ xs) (suc k) q h = pend-here xs k q (omega (arith, h))

pend-none : (xs : List (ℕ × ℕ)) (k q : ℕ) → length xs ≤ k → pending (drop k xs) q ≡ false
pend-none [] zero q h = refl
pend-none [] (suc k) q h = refl
pend-none (x ∷ xs) zero q h = absurd (omega (arith, h))
pend-none (x ∷ xs) (suc k) q h = pend-none xs k q (omega (arith, h))

-- a package that isn't noted from a place on keeps its clear domain
keeps-clear : (g : Graph) (d e : Rows) (t u : History) (from q : ℕ) → Holds g d t → Holds g e u → Extends t u → Shrinks g (has d) (has e) →
    from ≤ length t.notes → is_pending u.notes from q ≡ false → IsClear g (has d) q → IsClear g (has e) q
unfolding is_pending
keeps-clear g d e t u from q hd he x s below none c =
    clear-stays g (has d) (has e) q s.within
    (λ j h. he.left q j ∙ unpending-same g u.notes (length t.notes) q j (pend-later u.notes from (length t.notes) q below none)
    (ap (λ n. left_by g n q j) x.earlier ∙ sym (hd.left q j) ∙ h)) c

earlier-pending : (t u : History) (from q : ℕ) → Extends t u → is_pending u.notes from q ≡ false → is_pending t.notes from q ≡ false
unfolding is_pending
earlier-pending t u from q x none = ap (λ n. pending (drop from n) q) (sym x.earlier) ∙ pend-take u.notes from (length t.notes) q none

pub clear-more : (g : Graph) (d e : Rows) (t u : History) (from bound : ℕ) → Holds g d t → Holds g e u → Extends t u → Shrinks g (has d) (has e) →
    from ≤ length t.notes → AreClear g (has d) t.notes from bound → IsClear g (has e) bound → AreClear g (has e) u.notes from (bound + 1)
clear-more g d e t u from bound hd he x s below old new = record {
  clear = λ q known h none. elim (cases_eq q bound) [
    | inl same ↦ subst (IsClear g (has e)) (sym same) new
    | inr other ↦ keeps-clear g d e t u from q hd he x s below none (old.clear q known (omega (arith, h, other)) (earlier-pending t u from q x none))
  ];
}

apart-pending : (xs : List (ℕ × ℕ)) (k q : ℕ) → k < length xs → (note_at xs k).0 ≢ q → is_pending xs (k + 1) q ≡ false → is_pending xs k q ≡ false
unfolding is_pending
apart-pending xs k q h apart none =
    let next : k + 1 ≡ suc k = omega arith in
    pend-here xs k q h ∙ ap (λ v. v || pending (drop (suc k) xs) q) (ne_eqb (note_at xs k).0 q apart) ∙ ap (λ m. pending (drop m xs) q) (sym next) ∙ none

pub clear-step : (g : Graph) (d e : Rows) (t u : History) (from bound q : ℕ) → Holds g d t → Holds g e u → Extends t u → Shrinks g (has d) (has e) →
    from < length t.notes → (note_at t.notes from).0 ≡ q → AreClear g (has d) t.notes from bound → IsClear g (has e) q → AreClear g (has e) u.notes (from + 1) bound
clear-step g d e t u from bound q hd he x s below here old new = record {
  clear = λ r known h none. elim (cases_eq r q) [
    | inl same ↦ subst (IsClear g (has e)) (sym same) new
    | inr other ↦ keeps-clear g d e t u (from + 1) r hd he x s (omega arith) none
        (old.clear r known h (apart-pending t.notes from r below (λ z. other (sym z ∙ here)) (earlier-pending t u (from + 1) r x none)))
  ];
}

noted-again : (xs : List (ℕ × ℕ)) (k q : ℕ) → k < length xs → (note_at xs k).0 ≡ q → is_pending xs k q ≡ true
unfolding is_pending
noted-again xs k q h e = pend-here xs k q h ∙ ap (λ v. v || pending (drop (suc k) xs) q) (eq-eqb _ _ e)

pub clear-skip : (g : Graph) (f : Family) (notes : List (ℕ × ℕ)) (from bound q : ℕ) → from + 1 < length notes → (note_at notes from).0 ≡ q → (note_at notes (from + 1)).0 ≡ q →
    AreClear g f notes from bound → AreClear g f notes (from + 1) bound
clear-skip g f notes from bound q below here next old = record {
  clear = λ r known h none. old.clear r known h
      (apart-pending notes from r (omega (arith, below)) (λ z.
      let again : is_pending notes (from + 1) r ≡ true = noted-again notes (from + 1) r below (next ∙ sym here ∙ z) in
      absurd (cc)) none);
}

pub settled-from_clear : (g : Graph) (f : Family) (notes : List (ℕ × ℕ)) (from : ℕ) → length notes ≤ from → AreClear g f notes from (packages g) → IsSettled g f
unfolding is_pending
settled-from_clear g f notes from past c = record {
  stable = record { meets = λ p i q h known apart. (c.clear q known known (pend-none notes from q past)).meets p i h apart };
  filled = record { some = λ p known. (c.clear p known known (pend-none notes from p past)).some };
}

left-fewer : (g : Graph) (notes : List (ℕ × ℕ)) (k p i : ℕ) → left_by g notes p i ≡ true → left_by g (take k notes) p i ≡ true
unfolding left_by
left-fewer g notes k p i h =
    let parts = and_parts (is_offered g p i) _ h in
    and_from (is_offered g p i) _ parts.0 (fewer (is_noted (take k notes) p i) (is_noted (drop k notes) p i) (sym (ap not (noted-split notes k p i)) ∙ parts.1))
  where
    fewer : (a b : Bool) → not (a || b) ≡ true → not a ≡ true
    fewer true b e = e
    fewer false b e = refl

pub clear-from_settled : (g : Graph) (d : Rows) (t : History) (mark : ℕ) → Holds g d t → IsSettled g (left_by g (take mark t.notes)) →
    AreClear g (has d) t.notes mark (packages g)
clear-from_settled g d t mark h s = record {
  clear = λ q known _ none.
      clear-stays g (left_by g (take mark t.notes)) (has d) q
      (record { at = λ p i e. left-fewer g t.notes mark p i (sym (h.left p i) ∙ e) })
      (λ j e. h.left q j ∙ unpending-same g t.notes mark q j none e)
      (record { some = s.filled.some q known; meets = λ p i e apart. s.stable.meets p i q e known apart });
}

pub closed-from : (g : Graph) (old new : Family) → Shrinks g old new → IsSettled g new → IsClosureOf g old new
closed-from g old new s settled = record {
  sound = λ p i h. record { family = new; stable = settled.stable; within = s.within; here = h };
  whole = λ p i c. (s.kept c.family c.stable c.within).at p i c.here;
}

pub between-from : (g : Graph) (old new : Family) → Shrinks g old new → LiesBetween g old new
between-from g old new s = record { within = s.within; whole = λ p i c. (s.kept c.family c.stable c.within).at p i c.here }

-- a noted package is there
pub noted-known : (g : Graph) (d : Rows) (t : History) (k : ℕ) → Holds g d t → k < length t.notes → (note_at t.notes k).0 < packages g
unfolding left_by is_offered
noted-known g d t k h below =
    let there = h.taken k below in
    let offered = and_parts (is_offered g (note_at t.notes k).0 (note_at t.notes k).1) (not (is_noted (take k t.notes) (note_at t.notes k).0 (note_at t.notes k).1)) there in
    ltb-true _ _ (and_parts (ltb (note_at t.notes k).0 (packages g)) _ offered.0).0

pub match-weaker : (b : Bool) (P Q R : Type 0) → (P → Q) → MatchBool b P R → MatchBool b Q R
match-weaker true P Q R f h = f h
match-weaker false P Q R f h = h
