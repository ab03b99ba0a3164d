-- How the trail goes on holding what was taken, when a state is taken, given back, or the domains are found stable.
use Rattle.std.proofs.Common.{◌≡◌, ◌≢◌, ℕ, zero, suc, ◌+◌, ◌<◌, ◌≤◌, Bool, true, false, not, cond, ◌&&◌, ◌||◌, List, [], ◌∷◌, ◌++◌, length, get_or, set, take, refl, sym, ◌∙◌, subst, ap, arith, inl, inr, eqb, ltb, sum, length-append}
use Rattle.std.proofs.lemmas.Bool.{cases_lt, eq-eqb, eqb-true, ltb-true, and_from, and_parts, cases_Bool}
use Rattle.std.proofs.lemmas.List.{get_or-set_same, get_or-set_other, length-set, take-append-le, get_or_append_left}
use Rattle.std.proofs.lemmas.List.Folds.{list_any-append}
use Rattle.std.proofs.Math.Seq.{take-append_seam, get_or-append_seam, take-length}
use Rattle.version_graph.specs.Graph.{Graph, packages, states, is_state, is_offered, IsKnown}
use Rattle.version_graph.specs.Domain.{Rows, row, has, total, IsFor}
use Rattle.version_graph.specs.Noted.{History, Holds, is_noted, left_by, note_at, is_settled_at, IsSettled, IsFresh}
use Rattle.version_graph.proofs.RowLemmas.{written, has_known, has-written, total-taken, total-given, length-written, row-written, total-le}

regrouped : (a b c : Bool) → (a && not (b || (c || false))) ≡ ((a && not b) && not c)
regrouped true true true = refl
regrouped true true false = refl
regrouped true false true = refl
regrouped true false false = refl
regrouped false b c = refl

-- one more note takes its state away
pub left-more : (g : Graph) (notes : List (ℕ × ℕ)) (p i q j : ℕ) → left_by g (notes ++ (p, i) ∷ []) q j ≡ (left_by g notes q j && not (is_state q j p i))
unfolding left_by is_noted
left-more g notes p i q j =
    rw (list_any-append (λ (n : ℕ × ℕ). is_state q j n.0 n.1) notes ((p, i) ∷ []))
    (regrouped (is_offered g q j) (is_noted notes q j) (is_state q j p i))

-- the last note of a longer list
pub last-note : (notes : List (ℕ × ℕ)) (n : ℕ × ℕ) (k : ℕ) → k ≡ length notes → note_at (notes ++ n ∷ []) k ≡ n
last-note notes n k e = rw e (get_or-append_seam notes n [] (0, 0))

pub and-flipped : (a b : Bool) → cond a false b ≡ (b && not a)
and-flipped true true = refl
and-flipped true false = refl
and-flipped false true = refl
and-flipped false false = refl

pub or-flipped : (a b : Bool) → cond a true b ≡ (b || a)
or-flipped true true = refl
or-flipped true false = refl
or-flipped false true = refl
or-flipped false false = refl

pub state_same : (q j p i : ℕ) → is_state q j p i ≡ true → (q ≡ p) × (j ≡ i)
state_same q j p i e =
    let parts = and_parts (eqb q p) (eqb j i) e in
    (eqb-true _ _ parts.0, eqb-true _ _ parts.1)

-- a state that is in the domains can be noted
pub room_to_note : (g : Graph) (d : Rows) (t : History) (p i : ℕ) → has d p i ≡ true → Holds g d t →
    (length t.notes < t.room) × (length t.notes + 1 < length t.settled)
room_to_note g d t p i there holds =
    let less = total-taken d p i there in
    (omega (arith, less, holds.room), omega (arith, less, holds.lengths))

-- a state that is taken and noted last
pub takes : (g : Graph) (d : Rows) (t u : History) (p i : ℕ) → has d p i ≡ true → Holds g d t →
    u.notes ≡ t.notes ++ (p, i) ∷ [] → u.settled ≡ set t.settled (length t.notes + 1) false → t.room ≤ u.room →
    Holds g (written d p i false) u
takes g d t u p i there holds notes settled room =
    let k = has_known d p i there in
    let less = total-taken d p i there in
    let long : length u.notes ≡ length t.notes + 1 = ap length notes ∙ length-append t.notes ((p, i) ∷ []) in
    let front : (k : ℕ) → k ≤ length t.notes → take k u.notes ≡ take k t.notes = λ k h. ap (take k) notes ∙ take-append-le k t.notes ((p, i) ∷ []) h in
    record {
      shape = record {
        each = length-written d p i false ∙ holds.shape.each;
        wide = λ q known. row-written d p i false q ∙ holds.shape.wide q known;
      };
      left = λ q j.
          has-written d p i false q j k.0 k.1
          ∙ and-flipped (is_state q j p i) (has d q j)
          ∙ ap (λ x. x && not (is_state q j p i)) (holds.left q j)
          ∙ sym (left-more g t.notes p i q j)
          ∙ ap (λ x. left_by g x q j) (sym notes);
      taken = λ n h. elim (cases_lt n (length t.notes)) [
        | inl below ↦
            let place : note_at u.notes n ≡ note_at t.notes n = ap (λ x. note_at x n) notes ∙ get_or_append_left t.notes ((p, i) ∷ []) (0, 0) n below in
            let start : take n u.notes ≡ take n t.notes = front n (omega arith) in
            rw (start, place) (holds.taken n below)
        | inr above ↦
            let e : n ≡ length t.notes = omega (arith, long) in
            let place : note_at u.notes n ≡ (p, i) = ap (λ x. note_at x n) notes ∙ last-note t.notes (p, i) n e in
            let whole : take n u.notes ≡ t.notes = ap (λ x. take x u.notes) e ∙ ap (take (length t.notes)) notes ∙ take-append_seam t.notes ((p, i) ∷ []) in
            rw (whole, place) (sym (holds.left p i) ∙ there)
      ];
      room = omega (arith, less, long, holds.room, room);
      lengths = omega (arith, less, long, holds.lengths, ap length settled, length-set t.settled (length t.notes + 1) false);
      settled = λ n h is. elim (cases_lt n (length t.notes + 1)) [
        | inl below ↦
            let ne : n ≢ length t.notes + 1 = omega arith in
            let same : is_settled_at u n ≡ is_settled_at t n = ap (λ x. get_or x n false) settled ∙ get_or-set_other t.settled (length t.notes + 1) n false false ne in
            subst (λ x. IsSettled g (left_by g x)) (sym (front n (omega arith))) (holds.settled n (omega arith) (sym same ∙ is))
        | inr above ↦
            let e : n ≡ length t.notes + 1 = omega (arith, long) in
            let fits : length t.notes + 1 < length t.settled = (room_to_note g d t p i there holds).1 in
            let off : is_settled_at u n ≡ false = ap (λ x. get_or x n false) settled ∙ ap (λ x. get_or (set t.settled (length t.notes + 1) false) x false) e ∙ get_or-set_same t.settled (length t.notes + 1) false false fits in
            absurd (cc)
      ];
    }

-- what the last note took
pub last-taken : (g : Graph) (d : Rows) (t : History) (front : List (ℕ × ℕ)) (p i : ℕ) → Holds g d t → t.notes ≡ front ++ (p, i) ∷ [] →
    (left_by g front p i ≡ true) × (has d p i ≡ false)
last-taken g d t front p i holds notes =
    let long : length t.notes ≡ length front + 1 = ap length notes ∙ length-append front ((p, i) ∷ []) in
    let place : note_at t.notes (length front) ≡ (p, i) = ap (λ x. note_at x (length front)) notes ∙ last-note front (p, i) (length front) refl in
    let start : take (length front) t.notes ≡ front = ap (take (length front)) notes ∙ take-append_seam front ((p, i) ∷ []) in
    let here : left_by g (take (length front) t.notes) (note_at t.notes (length front)).0 (note_at t.notes (length front)).1 ≡ true = holds.taken (length front) (omega arith) in
    let there : left_by g front p i ≡ true = rw (start, place) at here in (
      there,
      holds.left p i ∙ ap (λ x. left_by g x p i) notes ∙ left-more g front p i p i
          ∙ away (left_by g front p i) (is_state p i p i) (and_from (eqb p p) (eqb i i) (eq-eqb p p refl) (eq-eqb i i refl)),
    )
  where
    away : (a b : Bool) → b ≡ true → (a && not b) ≡ false
    away true true e = refl
    away true false e = cc
    away false b e = refl

-- an offered state is in range
pub offered_known : (g : Graph) (p i : ℕ) → is_offered g p i ≡ true → IsKnown g p i
unfolding is_offered
offered_known g p i e =
    let parts = and_parts (ltb p (packages g)) _ e in
    let more = and_parts (ltb i (states g p)) _ parts.1 in
    record { known = ltb-true _ _ parts.0; state = ltb-true _ _ more.0 }

-- what is left is offered
left_offered : (g : Graph) (notes : List (ℕ × ℕ)) (p i : ℕ) → left_by g notes p i ≡ true → is_offered g p i ≡ true
unfolding left_by
left_offered g notes p i e = (and_parts (is_offered g p i) _ e).0

-- what is in the domains is offered
pub held_offered : (g : Graph) (d : Rows) (t : History) → Holds g d t → (p i : ℕ) → has d p i ≡ true → is_offered g p i ≡ true
held_offered g d t holds p i there = left_offered g t.notes p i (sym (holds.left p i) ∙ there)

-- the noted state is in range
pub last-known : (g : Graph) (d : Rows) (t : History) (front : List (ℕ × ℕ)) (p i : ℕ) → Holds g d t → t.notes ≡ front ++ (p, i) ∷ [] →
    (p < length d) × (i < length (row d p))
last-known g d t front p i holds notes =
    let k = offered_known g p i (left_offered g front p i (last-taken g d t front p i holds notes).0) in
    (omega (arith, k.known, holds.shape.each), omega (arith, k.state, holds.shape.wide p k.known))

-- a state that is put back, and its note taken away
pub gives : (g : Graph) (d : Rows) (t u : History) (p i : ℕ) → Holds g d t →
    t.notes ≡ u.notes ++ (p, i) ∷ [] → u.settled ≡ t.settled → u.room ≡ t.room → Holds g (written d p i true) u
gives g d t u p i holds notes settled room =
    let k = last-known g d t u.notes p i holds notes in
    let away = last-taken g d t u.notes p i holds notes in
    let more = total-given d p i k.0 k.1 away.1 in
    let long : length t.notes ≡ length u.notes + 1 = ap length notes ∙ length-append u.notes ((p, i) ∷ []) in
    let front : (k : ℕ) → k ≤ length u.notes → take k t.notes ≡ take k u.notes = λ k h. ap (take k) notes ∙ take-append-le k u.notes ((p, i) ∷ []) h in
    record {
      shape = record {
        each = length-written d p i true ∙ holds.shape.each;
        wide = λ q known. row-written d p i true q ∙ holds.shape.wide q known;
      };
      left = λ q j.
          has-written d p i true q j k.0 k.1
          ∙ elim (cases_Bool (is_state q j p i)) [
            | inl h ↦
                let same = state_same q j p i h in
                ap (λ x. cond x true (has d q j)) h ∙ sym (ap (λ x. left_by g u.notes x j) same.0 ∙ ap (λ x. left_by g u.notes p x) same.1 ∙ away.0)
            | inr h ↦
                ap (λ x. cond x true (has d q j)) h ∙ holds.left q j ∙ ap (λ x. left_by g x q j) notes ∙ left-more g u.notes p i q j
                ∙ ap (λ x. left_by g u.notes q j && not x) h ∙ kept (left_by g u.notes q j)
          ];
      taken = λ n h.
          let start : take n t.notes ≡ take n u.notes = front n (omega arith) in
          let place : note_at t.notes n ≡ note_at u.notes n = ap (λ x. note_at x n) notes ∙ get_or_append_left u.notes ((p, i) ∷ []) (0, 0) n h in
          let there = holds.taken n (omega (arith, long)) in
          rw (start, place) at there;
      room = omega (arith, more, long, holds.room, room);
      lengths = omega (arith, more, long, holds.lengths, ap length settled);
      settled = λ n h is.
          subst (λ x. IsSettled g (left_by g x)) (front n h) (holds.settled n (omega (arith, long)) (sym (ap (λ x. get_or x n false) settled) ∙ is));
    }
  where
    kept : (a : Bool) → (a && not false) ≡ a
    kept true = refl
    kept false = refl

-- the domains are found to be settled at the present length
pub settles : (g : Graph) (d : Rows) (t u : History) → Holds g d t → IsSettled g (has d) →
    u.notes ≡ t.notes → u.settled ≡ set t.settled (length t.notes) true → u.room ≡ t.room → Holds g d u
settles g d t u holds settled notes flags room =
    record {
      shape = holds.shape;
      left = λ p i. holds.left p i ∙ ap (λ x. left_by g x p i) (sym notes);
      taken = λ n h. rw notes (holds.taken n (omega (arith, ap length notes)));
      room = omega (arith, holds.room, room, ap length notes);
      lengths = omega (arith, holds.lengths, ap length flags, length-set t.settled (length t.notes) true, ap length notes);
      settled = λ n h is. elim (cases_lt n (length t.notes)) [
        | inl below ↦
            let ne : n ≢ length t.notes = omega arith in
            let same : is_settled_at u n ≡ is_settled_at t n = ap (λ x. get_or x n false) flags ∙ get_or-set_other t.settled (length t.notes) n true false ne in
            rw notes (holds.settled n (omega arith) (sym same ∙ is))
        | inr above ↦
            let e : n ≡ length u.notes = omega (arith, ap length notes) in
            let whole : take n u.notes ≡ t.notes = ap (λ x. take x u.notes) e ∙ take-length u.notes ∙ notes in
            let now : has d ≡ left_by g t.notes = λ k p i. holds.left p i k in
            subst (λ x. IsSettled g (left_by g x)) (sym whole) (subst (IsSettled g) now settled)
      ];
    }

not-noted : (a : Bool) → (a && not false) ≡ a
not-noted true = refl
not-noted false = refl

-- full domains are held by a trail without a note
pub fresh-holds : (g : Graph) (d : Rows) (t : History) → IsFor g d → ((p i : ℕ) → has d p i ≡ is_offered g p i) → IsFresh g t → Holds g d t
unfolding left_by is_noted
fresh-holds g d t shape offered fresh =
    let few : total d ≤ sum g.sizes = total-le d g.sizes shape.each shape.wide in
    let none : length t.notes ≡ 0 = ap length fresh.empty in
    record {
      shape = shape;
      left = λ p i. offered p i ∙ sym (not-noted (is_offered g p i)) ∙ ap (λ n. is_offered g p i && not (is_noted n p i)) (sym fresh.empty);
      taken = λ k h. absurd (omega (arith, none, h));
      room = omega (arith, few, none, fresh.room);
      lengths = omega (arith, few, none, fresh.lengths);
      settled = λ k h is. let no = fresh.unsettled k in absurd (cc);
    }

take-within : (n m : ℕ) (xs : List (ℕ × ℕ)) → n ≤ m → take n (take m xs) ≡ take n xs
take-within zero m xs h = refl
take-within (suc n) zero xs h = absurd (omega (arith, h))
take-within (suc n) (suc m) [] h = refl
take-within (suc n) (suc m) (x ∷ xs) h = ap (λ r. x ∷ r) (take-within n m xs (omega (arith, h)))

-- what was noted early stays
pub earlier-on : (a b c : List (ℕ × ℕ)) → length a ≤ length b → take (length a) b ≡ a → take (length b) c ≡ b → take (length a) c ≡ a
earlier-on a b c h e f = sym (take-within (length a) (length b) c h) ∙ ap (take (length a)) f ∙ e
