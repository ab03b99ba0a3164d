-- What each state needs, row by row.
use Rattle.std.proofs.Common.{◌≡◌, ℕ, suc, ◌+◌, ◌-◌, ◌*◌, ◌^◌, ◌<◌, ◌≤◌, List, [], ◌∷◌, ◌++◌, length, length-append, drop, get_or, refl, sym, ◌∙◌, ap, subst, arith, inl, inr}
use Rattle.std.specs.List.{slice_range}
use Rattle.std.proofs.lemmas.Bool.{cases_lt}
use Rattle.std.proofs.lemmas.List.{get_or_append_left, append_assoc, append-nil, get_or-drop, get_or-take, length-drop, length-take-le}
use Rattle.std.proofs.Math.Seq.{get_or-append_seam}
use Rattle.version_graph.specs.Graph.{Graph, packages, states, does_need, IsListOf}
use Rattle.version_graph.specs.Flat.{cut, end_of, AreStarts, Flat, no_rows}
use Rattle.version_graph.specs.Needed.{need_row, AreNeeds, AddsNeed, AddsNeeds}
use Rattle.version_graph.proofs.FlatLemmas.{length-cut, get-cut, cut-kept, cut-ended, piece-last, start_le, starts-more, starts-wider, end-more, first_start, none-cut}

pub needs_start : (g : Graph) (p : ℕ) (old : Flat) → old.rest ≡ [] → AddsNeeds g p 0 old old
needs_start g p old ended = record {
  block = [];
  rows = sym (append-nil old.rows);
  ended = ended;
  wide = refl;
  lists = λ i h. absurd (omega (arith, h));
}

pub needs_more : (g : Graph) (p n : ℕ) (old mid new : Flat) → AddsNeeds g p n old mid → AddsNeed g p n mid new → AddsNeeds g p (n + 1) old new
needs_more g p n old mid new all one = record {
  block = all.block ++ one.row ∷ [];
  rows = one.rows ∙ ap (λ r. r ++ one.row ∷ []) all.rows ∙ append_assoc old.rows all.block (one.row ∷ []);
  ended = one.ended;
  wide = length-append all.block (one.row ∷ []) ∙ ap (λ k. k + 1) all.wide;
  lists = λ i h. elim (cases_lt i n) [
    | inl l ↦ subst (IsListOf (does_need g p i)) (sym (get_or_append_left all.block (one.row ∷ []) [] i (omega (arith, l, all.wide)))) (all.lists i l)
    | inr l ↦
        let e : n ≡ i = omega (arith, h, l) in
        subst (λ k. IsListOf (does_need g p k) (get_or (all.block ++ one.row ∷ []) k [])) e
        (subst (IsListOf (does_need g p n)) (sym (ap (λ k. get_or (all.block ++ one.row ∷ []) k []) (sym all.wide) ∙ get_or-append_seam all.block one.row [] [])) one.list)
  ];
}

-- the rows of the packages below n
pub record NeedsUpTo (g : Graph) (firsts : List ℕ) (flat : Flat) (n : ℕ) : Type 0 where
  pub starts : AreStarts firsts (length flat.rows)
  pub end : end_of firsts ≡ length flat.rows
  pub each : length firsts ≡ n + 1
  pub ended : flat.rest ≡ []
  pub few : length flat.rows ≤ n * 2 ^ 16
  pub wide : (q : ℕ) → q < n → length (get_or (cut firsts flat.rows) q []) ≡ states g q
  pub lists : (q i : ℕ) → q < n → i < states g q → IsListOf (does_need g q i) (get_or (get_or (cut firsts flat.rows) q []) i [])

pub upto_start : (g : Graph) (firsts : List ℕ) (flat : Flat) → firsts ≡ 0 ∷ [] → flat ≡ no_rows → NeedsUpTo g firsts flat 0
upto_start g firsts flat e f =
    subst (λ xs. NeedsUpTo g xs flat 0) (sym e) (subst (λ x. NeedsUpTo g (0 ∷ []) x 0) (sym f) (record {
      starts = first_start;
      end = refl;
      each = refl;
      ended = refl;
      few = omega arith;
      wide = λ q h. absurd (omega (arith, h));
      lists = λ q i h l. absurd (omega (arith, h));
    }))

pub upto_more : (g : Graph) (firsts : List ℕ) (old new : Flat) (p m : ℕ) → NeedsUpTo g firsts old p → AddsNeeds g p (states g p) old new → states g p ≤ 65536 → m ≡ length new.rows →
    NeedsUpTo g (firsts ++ m ∷ []) new (p + 1)
upto_more g firsts old new p m u a few e = record {
  starts = subst (AreStarts (firsts ++ m ∷ [])) e (starts-more firsts (length old.rows) m u.starts (omega (arith, e, long)));
  end = end-more firsts m ∙ e;
  each = length-append firsts (m ∷ []) ∙ ap (λ k. k + 1) u.each;
  ended = a.ended;
  few = omega (arith, long, a.wide, u.few, few);
  wide = λ q h. elim (cases_lt q p) [
    | inl l ↦ ap length (before q l) ∙ u.wide q l
    | inr l ↦ let s : p ≡ q = omega (arith, h, l) in subst (λ k. length (get_or (cut (firsts ++ m ∷ []) new.rows) k []) ≡ states g k) s (ap length here ∙ a.wide)
  ];
  lists = λ q i h k. elim (cases_lt q p) [
    | inl l ↦ subst (λ r. IsListOf (does_need g q i) (get_or r i [])) (sym (before q l)) (u.lists q i l k)
    | inr l ↦
        let s : p ≡ q = omega (arith, h, l) in
        subst (λ n. i < states g n → IsListOf (does_need g n i) (get_or (get_or (cut (firsts ++ m ∷ []) new.rows) n []) i [])) s
        (λ b. subst (λ r. IsListOf (does_need g p i) (get_or r i [])) (sym here) (a.lists i b)) k
  ];
}
  where
    long : length new.rows ≡ length old.rows + length a.block
    long = ap length a.rows ∙ length-append old.rows a.block

    cuts : cut (firsts ++ m ∷ []) new.rows ≡ cut firsts old.rows ++ a.block ∷ []
    cuts =
        cut-ended firsts m new.rows u.starts.some
        ∙ (λ i. cut firsts (a.rows i) ++ slice_range (a.rows i) (u.end i) ((e ∙ long) i) ∷ [])
        ∙ (λ i. cut-kept firsts old.rows a.block u.starts i ++ piece-last old.rows a.block i ∷ [])

    count : length (cut firsts old.rows) ≡ p
    count = omega (arith, length-cut firsts old.rows, u.each)

    before : (q : ℕ) → q < p → get_or (cut (firsts ++ m ∷ []) new.rows) q [] ≡ get_or (cut firsts old.rows) q []
    before q l = ap (λ r. get_or r q []) cuts ∙ get_or_append_left (cut firsts old.rows) (a.block ∷ []) [] q (omega (arith, l, count))

    here : get_or (cut (firsts ++ m ∷ []) new.rows) p [] ≡ a.block
    here = ap (λ r. get_or r p []) cuts ∙ ap (λ k. get_or (cut firsts old.rows ++ a.block ∷ []) k []) (sym count) ∙ get_or-append_seam (cut firsts old.rows) a.block [] []

pub upto_next : (g : Graph) (firsts more : List ℕ) (old new : Flat) (p m : ℕ) → more ≡ firsts ++ m ∷ [] → NeedsUpTo g firsts old p → AddsNeeds g p (states g p) old new → states g p ≤ 65536 →
    m ≡ length new.rows → NeedsUpTo g more new (p + 1)
upto_next g firsts more old new p m is u a few e = subst (λ xs. NeedsUpTo g xs new (p + 1)) (sym is) (upto_more g firsts old new p m u a few e)

pub upto_end : (g : Graph) (firsts : List ℕ) (flat : Flat) (n : ℕ) → NeedsUpTo g firsts flat n → n ≡ packages g → AreNeeds g (cut firsts flat.rows)
upto_end g firsts flat n u e = record {
  each = length-cut firsts flat.rows ∙ omega (arith, u.each, e);
  wide = λ p h. u.wide p (omega (arith, h, e));
  rows = λ p i h s. u.lists p i (omega (arith, h, e)) s;
}

-- a row of a package's piece stands as many rows behind the first
module _ (firsts : List ℕ) (rows : List (List ℕ)) (starts : AreStarts firsts (length rows)) (p i : ℕ) (known : p < length (cut firsts rows)) (state : i < length (get_or (cut firsts rows) p [])) where
  piece : get_or (cut firsts rows) p [] ≡ slice_range rows (get_or firsts p 0) (get_or firsts (p + 1) 0)
  piece = get-cut firsts rows p (omega (arith, known, length-cut firsts rows))

  width : i < get_or firsts (p + 1) 0 - get_or firsts p 0
  width =
      let n = get_or firsts (p + 1) 0 - get_or firsts p 0 in
      let top = start_le firsts (length rows) starts (p + 1) (omega (arith, known, length-cut firsts rows)) in
      let long : length (slice_range rows (get_or firsts p 0) (get_or firsts (p + 1) 0)) ≡ n =
      length-take-le n (drop (get_or firsts p 0) rows) (omega (arith, top, length-drop (get_or firsts p 0) rows)) in
      omega (arith, state, ap length piece, long)

  pub need_inside : get_or firsts p 0 + i < length rows
  need_inside = omega (arith, width, start_le firsts (length rows) starts (p + 1) (omega (arith, known, length-cut firsts rows)))

  pub need_is : need_row (cut firsts rows) p i ≡ get_or rows (get_or firsts p 0 + i) []
  need_is =
      ap (λ r. get_or r i []) piece
      ∙ get_or-take (get_or firsts (p + 1) 0 - get_or firsts p 0) (drop (get_or firsts p 0) rows) i [] width
      ∙ get_or-drop (get_or firsts p 0) rows i []
