-- Lists of rows: reading and writing one place.
use Rattle.std.proofs.Common.{◌≡◌, ℕ, zero, suc, ◌+◌, ◌<◌, Bool, true, false, cond, List, [], ◌∷◌, ◌++◌, length, get_or, set, replicate, refl, sym, ◌∙◌, subst, ap, arith, inl, inr, eqb}
use Rattle.std.proofs.lemmas.Bool.{cases_lt}
use Rattle.std.proofs.lemmas.Bool.Decides.{eqb_tells}
use Rattle.std.proofs.lemmas.List.{get_or-map, length-map, map-append, set_past, get_or_past, get_or-set_same, get_or-set_other, length-set, get_or_append_left}
use Rattle.std.proofs.Math.Seq.{get_or-append_seam}
use Rattle.std.proofs.lemmas.List.{length-append, length-replicate}
use Rattle.std.specs.declared.vec.Vec.{Vec}
use Rattle.version_graph.specs.Graph.{is_state}
use Rattle.version_graph.specs.Stored.{rows_of}

-- the place i of the row p, or d where there is none
abbrev pub cell : {W : Type 0} → W → List (List W) → ℕ → ℕ → W
cell d f p i = get_or (get_or f p []) i d

-- the rows with one place written
abbrev pub written : {W : Type 0} → List (List W) → ℕ → ℕ → W → List (List W)
written f p i w = set f p (set (get_or f p []) i w)

pub row-read : {T Z : Type 0} (vs : List (Vec T Z)) (p : ℕ) (v : Vec T Z) → v ≡ get_or vs p v → p < length (rows_of vs) → get_or (rows_of vs) p [] ≡ v.items
row-read vs p v e h =
    get_or-map (λ (x : Vec _ _). x.items) vs p v [] (omega (arith, h, length-map vs (λ (x : Vec _ _). x.items))) ∙ ap (λ (x : Vec _ _). x.items) (sym e)

pub row-written : {W : Type 0} (f : List (List W)) (p i : ℕ) (w : W) (q : ℕ) → length (get_or (written f p i w) q []) ≡ length (get_or f q [])
row-written {W} f p i w q =
    elim (cases_lt p (length f)) [
      | inl h ↦ elim (eqb_tells q p) [
        | inl t ↦ subst (λ x. length (get_or (written f p i w) x []) ≡ length (get_or f x [])) (sym t.1)
            (ap length (get_or-set_same f p (set (get_or f p []) i w) [] h) ∙ length-set (get_or f p []) i w)
        | inr t ↦ ap length (get_or-set_other f p q (set (get_or f p []) i w) [] t.1)
      ]
      | inr h ↦ ap (λ (x : List (List W)). length (get_or x q [])) (set_past f p (set (get_or f p []) i w) h)
    ]

-- the written place has the weight, and each other place is as before
pub cell-written : {W : Type 0} (d : W) (f : List (List W)) (p i : ℕ) (w : W) (q j : ℕ) → p < length f → i < length (get_or f p []) →
    cell d (written f p i w) q j ≡ cond (is_state q j p i) w (cell d f q j)
cell-written {W} d f p i w q j known there =
    elim (eqb_tells q p) [
      | inl t ↦
          let same : get_or (written f p i w) q [] ≡ set (get_or f p []) i w = ap (λ x. get_or (written f p i w) x []) t.1 ∙ get_or-set_same f p (set (get_or f p []) i w) [] known in
          elim (eqb_tells j i) [
            | inl u ↦ rw (t.0, u.0, same, u.1) (get_or-set_same (get_or f p []) i w d there)
            | inr u ↦ rw (t.0, u.0, same, t.1) (get_or-set_other (get_or f p []) i j w d u.1)
          ]
      | inr t ↦ rw (t.0) (ap (λ (r : List W). get_or r j d) (get_or-set_other f p q (set (get_or f p []) i w) [] t.1))
    ]

-- ---- rows of the zero weight

zero-in : {W : Type 0} (none : W) (n i : ℕ) → get_or (replicate n none) i none ≡ none
zero-in none zero i = get_or_past [] i none (omega arith)
zero-in none (suc n) zero = refl
zero-in none (suc n) (suc i) = zero-in none n i

pub nothing : {W : Type 0} (none : W) (q i : ℕ) → cell none [] q i ≡ none
nothing none q i = ap (λ r. get_or r i none) (get_or_past [] q [] (omega arith)) ∙ get_or_past [] i none (omega arith)

pub get_or-pushed : {A : Type 0} (xs : List A) (y d : A) (q : ℕ) → get_or (xs ++ y ∷ []) q d ≡ cond (eqb q (length xs)) y (get_or xs q d)
get_or-pushed xs y d q =
    elim (eqb_tells q (length xs)) [
      | inl t ↦ rw (t.0, t.1) (get_or-append_seam xs y [] d)
      | inr t ↦ rw (t.0) (elim (cases_lt q (length xs)) [
        | inl h ↦ get_or_append_left xs (y ∷ []) d q h
        | inr h ↦ get_or_past (xs ++ y ∷ []) q d (omega (arith, length-append xs (y ∷ []), t.1)) ∙ sym (get_or_past xs q d h)
      ])
    ]

pub zero-pushed : {W : Type 0} (none : W) (f : List (List W)) (n : ℕ) → ((q i : ℕ) → cell none f q i ≡ none) → (q i : ℕ) → cell none (f ++ replicate n none ∷ []) q i ≡ none
zero-pushed {W} none f n all q i =
    ap (λ (r : List W). get_or r i none) (get_or-pushed f (replicate n none) [] q) ∙ by_place (eqb q (length f))
  where
    by_place : (b : Bool) → get_or (cond b (replicate n none) (get_or f q [])) i none ≡ none
    by_place true = zero-in none n i
    by_place false = all q i

pub wide-pushed : {W : Type 0} (none : W) (f : List (List W)) (n : ℕ) (size : ℕ → ℕ) → ((q : ℕ) → q < length f → length (get_or f q []) ≡ size q) → n ≡ size (length f) →
    (q : ℕ) → q < length f + 1 → length (get_or (f ++ replicate n none ∷ []) q []) ≡ size q
wide-pushed none f n size all last q h =
    ap length (get_or-pushed f (replicate n none) [] q) ∙ elim (eqb_tells q (length f)) [
      | inl t ↦ rw (t.0) (length-replicate n none ∙ last ∙ ap size (sym t.1))
      | inr t ↦ rw (t.0) (all q (omega (arith, h, t.1)))
    ]

-- what holds of each element, and of one more, holds of each with it pushed
pub pushed-all : {A : Type 0} (d : A) (P : ℕ → A → Type 0) (xs : List A) (y : A) → ((q : ℕ) → q < length xs → P q (get_or xs q d)) → P (length xs) y →
    (q : ℕ) → q < length xs + 1 → P q (get_or (xs ++ y ∷ []) q d)
pushed-all d P xs y all last q h =
    subst (P q) (sym (get_or-pushed xs y d q)) (elim (eqb_tells q (length xs)) [
      | inl t ↦ rw (t.0) (subst (λ n. P n y) (sym t.1) last)
      | inr t ↦ rw (t.0) (all q (omega (arith, h, t.1)))
    ])

-- the same of each element, past the end too
pub pushed-each : {A : Type 0} (d : A) (P : A → Type 0) (xs : List A) (y : A) → ((q : ℕ) → P (get_or xs q d)) → P y → (q : ℕ) → P (get_or (xs ++ y ∷ []) q d)
pushed-each d P xs y all last q = subst P (sym (get_or-pushed xs y d q)) (by_place (eqb q (length xs)))
  where
    by_place : (b : Bool) → P (cond b y (get_or xs q d))
    by_place true = last
    by_place false = all q

-- the rows of a list of vectors with one more
pub rows-pushed : {T Z : Type 0} (vs : List (Vec T Z)) (v : Vec T Z) → rows_of (vs ++ v ∷ []) ≡ rows_of vs ++ v.items ∷ []
rows-pushed vs v = map-append (λ (x : Vec _ _). x.items) vs (v ∷ [])
