-- How the classes of a package's states are found.
use Rattle.std.proofs.Common.{◌≡◌, ℕ, ◌+◌, ◌<◌, Bool, true, false, List, [], ◌∷◌, ◌++◌, length, get_or, refl, sym, ◌∙◌, subst, ap, arith, inl, inr, length-append}
use Rattle.std.proofs.Math.ListN.{get_or-append}
use Rattle.std.proofs.Math.Seq.{get_or-append_seam}
use Rattle.std.specs.Bool.{MatchBool}
use Rattle.std.specs.List.{Contains}
use Rattle.std.proofs.lemmas.Bool.{cases_eq, cases_lt, cases_Bool, MatchBool-at_true, MatchBool-at_false}
use Rattle.std.proofs.lemmas.List.{get_or_past}
use Rattle.std.proofs.lemmas.Grind.{get_or_default_zero}
use Rattle.version_graph.specs.Graph.{Graph, packages, states, is_forbidden}
use Rattle.version_graph.specs.Family.{Family}
use Rattle.version_graph.specs.Domain.{Rows, has, IsFor}
use Rattle.graph_pruning.specs.declared.equality.ClassRow.{ClassRow}
use Rattle.graph_pruning.specs.Pruned.{SameIn, StandsFor, AreStanding}
use Rattle.graph_pruning.specs.Marked.{standing_in}
use Rattle.graph_pruning.specs.Classing.{IsClass, AreClassesOf, IsClassing}
use Rattle.graph_pruning.proofs.PruneLemmas.{same-refl, same-trans}
use Rattle.graph_pruning.proofs.ReachLemmas.{known_in}

-- ---- two states

-- what is alike at each neighbour is alike everywhere
pub alike_from : (g : Graph) (f : Family) (p i j : ℕ) (xs : List ℕ) → f p i ≡ true → f p j ≡ true →
    ((o q k : ℕ) → is_forbidden g p o q k ≡ true → Contains xs q) →
    ((n k : ℕ) → n < length xs → f (get_or xs n 0) k ≡ true → is_forbidden g p i (get_or xs n 0) k ≡ is_forbidden g p j (get_or xs n 0) k) → SameIn g f p i j
alike_from g f p i j xs first second whole alike = record {
  first = first;
  second = second;
  alike = λ q k apart there.
      elim (cases_Bool (is_forbidden g p i q k)) [
        | inl one ↦ at q k there (whole i q k one)
        | inr none ↦ elim (cases_Bool (is_forbidden g p j q k)) [
          | inl one ↦ at q k there (whole j q k one)
          | inr neither ↦ none ∙ sym neither
        ]
      ];
}
  where
    at : (q k : ℕ) → f q k ≡ true → Contains xs q → is_forbidden g p i q k ≡ is_forbidden g p j q k
    at q k there c =
        let same : get_or xs c.0 0 ≡ q = sym (get_or_default_zero xs c.0 q c.1) ∙ c.2 in
        subst (λ x. is_forbidden g p i x k ≡ is_forbidden g p j x k) same (alike c.0 k c.1 (ap (λ x. f x k) same ∙ there))

-- ---- one state more

class_stands : (g : Graph) (f : Family) (p i s : ℕ) → f p i ≡ true → IsClass g f p i s → StandsFor g f p i s
class_stands g f p i s here c = MatchBool-at_true (StandsFor g f p i s) (s ≡ i) here c

class_from : (g : Graph) (f : Family) (p i s : ℕ) (b : Bool) → b ≡ true → StandsFor g f p i s → MatchBool b (StandsFor g f p i s) (s ≡ i)
class_from g f p i s true e t = t
class_from g f p i s false e t = absurd (cc)

module _ (g : Graph) (f : Family) (p i : ℕ) (s t : ClassRow) (bounded : (j : ℕ) → f p j ≡ true → j < states g p) (state : i < states g p) (here : f p i ≡ true)
    (none : (k : ℕ) → k < length s.found.items → SameIn g f p i (get_or s.found.items k 0) → ⊥)
    (standing : t.standing.items ≡ s.standing.items) (pushed : t.found.items ≡ s.found.items ++ i ∷ []) (c : IsClassing g f p (i + 1) s) where
  own_class : StandsFor g f p i i
  own_class = record {
    same = same-refl g f p i here;
    greatest = λ j e. elim (cases_lt i j) [
      | inr low ↦ low
      | inl above ↦
          let known = bounded j e.second in
          let at = c.found j (omega arith) known e.second in
          let top = class_stands g f p j (get_or s.standing.items j 0) e.second (c.done j (omega arith) known) in
          absurd (none at.0 at.1 (subst (SameIn g f p i) (sym at.2) (same-trans g f p i j (get_or s.standing.items j 0) e top.same)))
    ];
  }

  own_standing : get_or t.standing.items i 0 ≡ i
  own_standing = ap (λ xs. get_or xs i 0) standing ∙ c.rest i (omega arith) state

  long : length t.found.items ≡ length s.found.items + 1
  long = ap length pushed ∙ length-append s.found.items (i ∷ [])

  found_below : (k : ℕ) → k < length s.found.items → get_or t.found.items k 0 ≡ get_or s.found.items k 0
  found_below k below = ap (λ xs. get_or xs k 0) pushed ∙ get_or-append s.found.items (i ∷ []) 0 k below

  found_last : (k : ℕ) → k ≡ length s.found.items → get_or t.found.items k 0 ≡ i
  found_last k at = ap (λ xs. get_or xs k 0) pushed ∙ ap (λ n. get_or (s.found.items ++ i ∷ []) n 0) at ∙ get_or-append_seam s.found.items i [] 0

  pub class_more : IsClassing g f p i t
  class_more = record {
    wide = ap length standing ∙ c.wide;
    rest = λ k below known. ap (λ xs. get_or xs k 0) standing ∙ c.rest k (omega arith) known;
    done = λ k from known. elim (cases_eq k i) [
      | inl e ↦ subst (λ n. IsClass g f p n (get_or t.standing.items n 0)) (sym e) (subst (IsClass g f p i) (sym own_standing) (class_from g f p i i (f p i) here own_class))
      | inr apart ↦ subst (λ xs. IsClass g f p k (get_or xs k 0)) (sym standing) (c.done k (omega arith) known)
    ];
    own = λ k below. elim (cases_lt k (length s.found.items)) [
      | inl low ↦ subst (λ x. StandsFor g f p x x) (sym (found_below k low)) (c.own k low)
      | inr high ↦ subst (λ x. StandsFor g f p x x) (sym (found_last k (omega (arith, below, long, high)))) own_class
    ];
    found = λ k from known there. elim (cases_eq k i) [
      | inl e ↦ (length s.found.items, omega (arith, long), found_last (length s.found.items) refl ∙ sym (ap (λ n. get_or t.standing.items n 0) e ∙ own_standing))
      | inr apart ↦
          let at = c.found k (omega arith) known there in
          (at.0, omega (arith, at.1, long), found_below at.0 at.1 ∙ at.2 ∙ ap (λ xs. get_or xs k 0) (sym standing))
    ];
  }

-- ---- all packages

pub standing_from : (g : Graph) (d : Rows) (rows : List (List ℕ)) → IsFor g d → length rows ≡ packages g →
    ((q : ℕ) → q < packages g → AreClassesOf g (has d) q (get_or rows q [])) → AreStanding g (has d) (standing_in rows)
standing_from g d rows made each all = record {
  stands = λ p i here.
      let known = known_in g d p i made here in
      let c = all p known.0 in
      subst (StandsFor g (has d) p i) (sym (read p i known.0 known.1)) (class_stands g (has d) p i _ here (c.at i known.1));
  others = λ p i out.
      elim (cases_lt p (packages g)) [
        | inl known ↦ elim (cases_lt i (states g p)) [
          | inl state ↦ read p i known state ∙ MatchBool-at_false (StandsFor g (has d) p i (get_or (get_or rows p []) i 0)) (get_or (get_or rows p []) i 0 ≡ i) out ((all p known).at i state)
          | inr past ↦ get_or_past (get_or rows p []) i i (omega (arith, past, (all p known).wide))
        ]
        | inr past ↦ ap (λ r. get_or r i i) (get_or_past rows p [] (omega (arith, past, each)))
      ];
}
  where
    read : (p i : ℕ) → p < packages g → i < states g p → standing_in rows p i ≡ get_or (get_or rows p []) i 0
    read p i known state = get_or_default_zero (get_or rows p []) i i (omega (arith, state, (all p known).wide))
