-- How the kept packages and the standing states make the pruned instance.
use Rattle.std.proofs.Common.{◌≡◌, ℕ, ◌+◌, ◌<◌, Bool, true, false, List, [], ◌∷◌, ◌++◌, length, get_or, refl, sym, ◌∙◌, subst, ap, arith, inl, inr, eqb, length-append}
use Rattle.std.proofs.Math.ListN.{get_or-append}
use Rattle.std.proofs.Math.Seq.{get_or-append_seam}
use Rattle.std.proofs.lemmas.Bool.{cases_eq, cases_lt, both_ways, and_parts, and_from, eq-eqb, eqb-true}
use Rattle.std.proofs.lemmas.List.{get_or_past}
use Rattle.std.proofs.lemmas.Map.Keys.{below_from_sorted, sorted_from_strictly_increasing}
use Rattle.version_graph.specs.Graph.{Graph, packages, states, IsListOf}
use Rattle.version_graph.specs.Family.{Family}
use Rattle.version_graph.specs.Domain.{Rows, has, IsFor}
use Rattle.version_graph.specs.Part.{Part, package_of, states_of, state_of, IsPartOf, IsRestrictedTo}
use Rattle.graph_pruning.specs.Pruned.{AreStanding}
use Rattle.graph_pruning.specs.Marked.{marked, standing_in, does_stand}
use Rattle.graph_pruning.specs.Parting.{IsPartBelow}
use Rattle.graph_pruning.specs.Reduced.{IsStanding, IsReducedTo}
use Rattle.graph_pruning.proofs.PruneLemmas.{standing_itself}
use Rattle.graph_pruning.proofs.ReachLemmas.{known_in, listed_at}

-- a package more that isn't kept
pub part_same : (f : Family) (kept : ℕ → Bool) (standing : ℕ → ℕ → ℕ) (n : ℕ) (m : Part) → kept n ≡ false → IsPartBelow f kept standing n m → IsPartBelow f kept standing (n + 1) m
part_same f kept standing n m out b = record {
  known = λ k below. let low = b.known k below in omega arith;
  rising = b.rising;
  sound = b.sound;
  whole = λ p below here. elim (cases_eq p n) [
    | inl e ↦ absurd (both_ways _ out (ap kept (sym e) ∙ here))
    | inr apart ↦ b.whole p (omega (arith, below, apart)) here
  ];
  states = b.states;
}

-- a package more that is kept
pub part_more : (f : Family) (kept : ℕ → Bool) (standing : ℕ → ℕ → ℕ) (n : ℕ) (m new : Part) (xs : List ℕ) → kept n ≡ true → IsListOf (does_stand f standing n) xs →
    new ≡ m ++ (n, xs) ∷ [] → IsPartBelow f kept standing n m → IsPartBelow f kept standing (n + 1) new
part_more f kept standing n m new xs here list e b = record {
  known = λ k below. elim (cases_lt k (length m)) [
    | inl low ↦ let at = b.known k low in omega (arith, old k low, at)
    | inr high ↦ omega (arith, last_package k (omega (arith, long, below, high)))
  ];
  rising = λ p q less below. elim (cases_lt q (length m)) [
    | inl low ↦ let up = b.rising p q less low in omega (arith, up, old p (omega (arith, less, low)), old q low)
    | inr high ↦
        let at : q ≡ length m = omega (arith, long, below, high) in
        let first : p < length m = omega (arith, less, at) in
        let up = b.known p first in
        omega (arith, up, old p first, last_package q at)
  ];
  sound = λ k below. elim (cases_lt k (length m)) [
    | inl low ↦ ap kept (old k low) ∙ b.sound k low
    | inr high ↦ ap kept (last_package k (omega (arith, long, below, high))) ∙ here
  ];
  whole = λ p below there. elim (cases_eq p n) [
    | inl same ↦ (length m, omega (arith, long), last_package (length m) refl ∙ sym same)
    | inr apart ↦ let at = b.whole p (omega (arith, below, apart)) there in (at.0, omega (arith, long, at.1), old at.0 at.1 ∙ at.2)
  ];
  states = λ k below. elim (cases_lt k (length m)) [
    | inl low ↦
        let same : get_or new k (0, []) ≡ get_or m k (0, []) = ap (λ zs. get_or zs k (0, [])) e ∙ get_or-append m ((n, xs) ∷ []) (0, []) k low in
        subst (λ (x : ℕ × List ℕ). IsListOf (does_stand f standing x.0) x.1) (sym same) (b.states k low)
    | inr high ↦ subst (λ (x : ℕ × List ℕ). IsListOf (does_stand f standing x.0) x.1) (sym (last_at k (omega (arith, long, below, high)))) list
  ];
}
  where
    long : length new ≡ length m + 1
    long = ap length e ∙ length-append m ((n, xs) ∷ [])

    old : (k : ℕ) → k < length m → package_of new k ≡ package_of m k
    old k low = ap (λ (x : ℕ × List ℕ). x.0) (ap (λ zs. get_or zs k (0, [])) e ∙ get_or-append m ((n, xs) ∷ []) (0, []) k low)

    last_at : (k : ℕ) → k ≡ length m → get_or new k (0, []) ≡ (n, xs)
    last_at k at = ap (λ zs. get_or zs k (0, [])) e ∙ ap (λ i. get_or (m ++ (n, xs) ∷ []) i (0, [])) at ∙ get_or-append_seam m (n, xs) [] (0, [])

    last_package : (k : ℕ) → k ≡ length m → package_of new k ≡ n
    last_package k at = ap (λ (x : ℕ × List ℕ). x.0) (last_at k at)

pub marked_below : (marks : List Bool) (p : ℕ) → marked marks p ≡ true → p < length marks
marked_below marks p e = elim (cases_lt p (length marks)) [ inl below ↦ below | inr past ↦ absurd (both_ways _ (get_or_past marks p false past) e) ]

stands_from : (f : Family) (standing : ℕ → ℕ → ℕ) (p i : ℕ) → does_stand f standing p i ≡ true → IsStanding f standing p i
stands_from f standing p i e = let parts = and_parts (f p i) (eqb (standing p i) i) e in record { inside = parts.0; itself = eqb-true _ _ parts.1 }

does_stand_from : (f : Family) (standing : ℕ → ℕ → ℕ) (p i : ℕ) → IsStanding f standing p i → does_stand f standing p i ≡ true
does_stand_from f standing p i s = and_from (f p i) (eqb (standing p i) i) s.inside (eq-eqb _ _ s.itself)

pub part_from : (g : Graph) (d : Rows) (kept : List Bool) (rows : List (List ℕ)) (m : Part) → IsFor g d → AreStanding g (has d) (standing_in rows) →
    ((p : ℕ) → marked kept p ≡ true → (i : ℕ) × (has d p i ≡ true)) → IsPartBelow (has d) (marked kept) (standing_in rows) (packages g) m → IsPartOf g m
part_from g d kept rows m made classes filled b = record {
  known = b.known;
  rising = b.rising;
  some = λ p below.
      let home = package_of m p in
      let first = filled home (b.sound p below) in
      let own = standing_itself g (has d) (standing_in rows) home first.0 classes first.1 in
      let at = listed_at (does_stand (has d) (standing_in rows) home) (states_of m p) (standing_in rows home first.0) (b.states p below) (does_stand_from _ _ home _ own) in
      omega (arith, at.1);
  ordered = λ p below. (b.states p below).rising;
  there = λ p i below state. (known_in g d (package_of m p) (state_of m p i) made (stands_from (has d) (standing_in rows) _ _ ((b.states p below).sound i state)).inside).1;
}

pub reduced_from : (g : Graph) (d : Rows) (kept : List Bool) (rows : List (List ℕ)) (m : Part) (h : Graph) → length kept ≡ packages g →
    IsPartBelow (has d) (marked kept) (standing_in rows) (packages g) m → IsRestrictedTo g m h → IsReducedTo g (has d) (marked kept) (standing_in rows) h m
reduced_from g d kept rows m h marks b r = record {
  each = sym r.each;
  wide = λ p known. sym (r.wide p (inside p known));
  rising = λ p q less known. b.rising p q less (inside q known);
  sound = λ p known. b.sound p (inside p known);
  whole = λ p here. let at = b.whole p (omega (arith, marked_below kept p here, marks)) here in (at.0, omega (arith, at.1, r.each), at.2);
  states_rising = λ p i j known less state.
      below_from_sorted (states_of m p) i j 0 (sorted_from_strictly_increasing (states_of m p) (b.states p (inside p known)).rising) less (within p j known state);
  states_sound = λ p i known state. stands_from (has d) (standing_in rows) _ _ ((b.states p (inside p known)).sound i (within p i known state));
  states_whole = λ p i known own.
      let at = listed_at (does_stand (has d) (standing_in rows) (package_of m p)) (states_of m p) i (b.states p (inside p known)) (does_stand_from _ _ _ i own) in
      (at.0, omega (arith, at.1, r.wide p (inside p known)), at.2);
  barred = λ p i known state. r.barred p i (inside p known) (within p i known state);
  forbidden = λ p i q j first one second two apart. r.forbidden p i q j (inside p first) (within p i first one) (inside q second) (within q j second two) apart;
}
  where
    inside : (p : ℕ) → p < packages h → p < length m
    inside p known = omega (arith, known, r.each)

    within : (p i : ℕ) → p < packages h → i < states h p → i < length (states_of m p)
    within p i known state = omega (arith, state, r.wide p (inside p known))
