-- How the packages that are reached are found.
use Rattle.std.proofs.Common.{◌≡◌, ℕ, ◌+◌, ◌<◌, Bool, true, false, List, [], length, get_or, set, refl, sym, ◌∙◌, ap, arith, inl, inr, ltb, replicate}
use Rattle.std.proofs.lemmas.Bool.{cases_eq, cases_lt, both_ways, and_parts, ltb-true}
use Rattle.std.proofs.lemmas.List.{length-replicate, get_or-replicate, get_or_past}
use Rattle.std.proofs.lemmas.Grind.{get_or_default_zero}
use Rattle.version_graph.specs.Graph.{Graph, packages, states, is_root, does_need, IsListOf}
use Rattle.version_graph.specs.Needed.{need_row, AreNeeds}
use Rattle.version_graph.specs.Family.{Family, IsFilled}
use Rattle.version_graph.specs.Domain.{Rows, has, row, IsFor}
use Rattle.graph_pruning.specs.declared.reaching.Reached.{Reached}
use Rattle.graph_pruning.specs.Pruned.{Spreads, AreKept}
use Rattle.graph_pruning.specs.Marked.{marked}
use Rattle.graph_pruning.specs.Reaching.{IsReaching, Grows, AreNeedsMarked}

pub grows-refl : (s : Reached) → Grows s s
grows-refl s = record { longer = omega arith; earlier = λ k h. refl; marks = λ p e. e; each = refl }

pub grows-trans : (r s t : Reached) → Grows r s → Grows s t → Grows r t
grows-trans r s t a b = record {
  longer = omega (arith, a.longer, b.longer);
  earlier = λ k h. b.earlier k (omega (arith, h, a.longer)) ∙ a.earlier k h;
  marks = λ p e. b.marks p (a.marks p e);
  each = b.each ∙ a.each;
}

-- a state of a domain is one that there is
pub known_in : (g : Graph) (d : Rows) (p i : ℕ) → IsFor g d → has d p i ≡ true → (p < packages g) × (i < states g p)
unfolding has
known_in g d p i m e =
    elim (cases_lt p (packages g)) [
      | inl known ↦ elim (cases_lt i (states g p)) [
        | inl state ↦ (known, state)
        | inr past ↦ absurd (both_ways _ (get_or_past (row d p) i false (omega (arith, past, m.wide p known))) e)
      ]
      | inr past ↦ absurd (both_ways _ (ap (λ r. get_or r i false) (get_or_past d p [] (omega (arith, past, m.each)))) e)
    ]

-- ---- what a state needs

pub need_known : (g : Graph) (needs : List (List (List ℕ))) (p i : ℕ) → AreNeeds g needs → p < packages g → i < states g p →
    (k : ℕ) → k < length (need_row needs p i) → get_or (need_row needs p i) k 0 < packages g
need_known g needs p i n known state k below =
    ltb-true _ _ (and_parts (ltb (get_or (need_row needs p i) k 0) (packages g)) _ ((n.rows p i known state).sound k below)).0

-- what stands in a list of numbers that pass is one of those in it
pub listed_at : (test : ℕ → Bool) (xs : List ℕ) (q : ℕ) → IsListOf test xs → test q ≡ true → (k : ℕ) × (k < length xs) × (get_or xs k 0 ≡ q)
listed_at test xs q l e = let c = l.whole q e in (c.0, c.1, sym (get_or_default_zero xs c.0 q c.1) ∙ c.2)

-- what a reached package needs is in every set that spreads
pub need_reached : (g : Graph) (f : Family) (needs : List (List (List ℕ))) (p i : ℕ) → AreNeeds g needs → p < packages g → i < states g p → f p i ≡ true →
    (set : ℕ → Bool) → Spreads g f set → set p ≡ true → (xs : List ℕ) → xs ≡ need_row needs p i → (k : ℕ) → k < length xs → set (get_or xs k 0) ≡ true
need_reached g f needs p i n known state here set s there xs e k below =
    let need = (n.rows p i known state).sound k (omega (arith, below, ap length e)) in
    s.needs p i (get_or xs k 0) there here (ap (λ ys. does_need g p i (get_or ys k 0)) e ∙ need)

pub need_marked : (g : Graph) (needs : List (List (List ℕ))) (p i q : ℕ) → AreNeeds g needs → p < packages g → i < states g p →
    (marks : List Bool) (xs : List ℕ) → xs ≡ need_row needs p i → ((k : ℕ) → k < length xs → marked marks (get_or xs k 0) ≡ true) → does_need g p i q ≡ true → marked marks q ≡ true
need_marked g needs p i q n known state marks xs e all need =
    let at = listed_at (does_need g p i) (need_row needs p i) q (n.rows p i known state) need in
    ap (marked marks) (sym (ap (λ ys. get_or ys at.0 0) e ∙ at.2)) ∙ all at.0 (omega (arith, at.1, ap length e))

-- ---- packages that are reached

pub reaching_known : (g : Graph) (f : Family) (s : Reached) (p : ℕ) → IsReaching g f s → marked s.marks.items p ≡ true → p < packages g
reaching_known g f s p r e =
    ltb-true _ _ (r.least (λ q. ltb q (packages g)) (record {
      roots = λ q h. (and_parts (ltb q (packages g)) _ h).0;
      needs = λ q i o _ _ h. (and_parts (ltb o (packages g)) _ h).0;
    }) p e)

none_marked : (n p : ℕ) → marked (replicate n false) p ≡ false
none_marked n p =
    elim (cases_lt p n) [
      | inl below ↦ get_or-replicate n p false false below
      | inr past ↦ get_or_past (replicate n false) p false (omega (arith, past, length-replicate n false))
    ]

pub nothing_reached : (g : Graph) (f : Family) (s : Reached) (n : ℕ) → s.marks.items ≡ replicate n false → n ≡ packages g → s.list.items ≡ [] → IsReaching g f s
nothing_reached g f s n e each none = record {
  each = ap length e ∙ length-replicate n false ∙ each;
  listed = λ p h. absurd (both_ways _ (unmarked p) h);
  only = λ k below. absurd (omega (arith, below, ap length none));
  least = λ set _ p h. absurd (both_ways _ (unmarked p) h);
}
  where
    unmarked : (p : ℕ) → marked s.marks.items p ≡ false
    unmarked p = ap (λ m. marked m p) e ∙ none_marked n p

pub needs_more : (g : Graph) (f : Family) (old new : Reached) (next : ℕ) → next < length old.list.items → Grows old new → IsReaching g f old → AreNeedsMarked g f old next →
    ((i q : ℕ) → f (get_or old.list.items next 0) i ≡ true → does_need g (get_or old.list.items next 0) i q ≡ true → marked new.marks.items q ≡ true) →
    AreNeedsMarked g f new (next + 1)
needs_more g f old new next below grows r d more = record {
  done = λ k i q h listed here need.
      let at : get_or new.list.items k 0 ≡ get_or old.list.items k 0 = grows.earlier k (omega (arith, h, below)) in
      let there = ap (λ x. f x i) (sym at) ∙ here in
      let needed = ap (λ x. does_need g x i q) (sym at) ∙ need in
      elim (cases_eq k next) [
        | inl e ↦ more i q (ap (λ x. f (get_or old.list.items x 0) i) (sym e) ∙ there) (ap (λ x. does_need g (get_or old.list.items x 0) i q) (sym e) ∙ needed)
        | inr apart ↦ grows.marks q (d.done k i q (omega (arith, h, apart)) (omega (arith, h, below)) there needed)
      ];
}

pub none_kept : (g : Graph) (f : Family) (marks : List Bool) (n : ℕ) → marks ≡ replicate n false → (p : ℕ) → p < packages g → ((i : ℕ) → f p i ≡ false) → AreKept g f (marked marks)
none_kept g f marks n e p known none = record {
  reached = λ filled. let some = filled.some p known in absurd (both_ways _ (none some.0) some.1);
  none = λ _ _ _ q. ap (λ m. marked m q) e ∙ none_marked n q;
}

pub kept_when_spread : (g : Graph) (f : Family) (s : Reached) (roots : List ℕ) → IsFilled g f → IsListOf (is_root g) roots →
    ((k : ℕ) → k < length roots → marked s.marks.items (get_or roots k 0) ≡ true) → IsReaching g f s → AreNeedsMarked g f s (length s.list.items) →
    AreKept g f (marked s.marks.items)
kept_when_spread g f s roots filled l started r d = record {
  reached = λ _. record {
    spreads = record {
      roots = λ p e. let at = listed_at (is_root g) roots p l e in ap (marked s.marks.items) (sym at.2) ∙ started at.0 at.1;
      needs = λ p i q here there need.
          let at = r.listed p here in
          d.done at.0 i q at.1 at.1 (ap (λ x. f x i) at.2 ∙ there) (ap (λ x. does_need g x i q) at.2 ∙ need);
    };
    least = r.least;
  };
  none = λ p known none. let some = filled.some p known in absurd (both_ways _ (none some.0) some.1);
}
