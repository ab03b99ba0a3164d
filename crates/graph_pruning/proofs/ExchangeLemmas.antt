-- How a solution may be changed.
use Rattle.std.proofs.Common.{◌≡◌, ◌≢◌, ℕ, ◌<◌, true, false, List, [], get_or, set, refl, sym, ◌∙◌, subst, ap, arith, inl, inr, eqb}
use Rattle.std.proofs.lemmas.Bool.{cases_eq, cases_Bool, both_ways, and_from, or_right, eq-eqb}
use Rattle.std.proofs.lemmas.List.{get_or-set_same, get_or-set_other, length-set}
use Rattle.version_graph.specs.Graph.{Graph, packages, last, is_offered, is_forbidden, IsGraph, IsPlain, IsSolution}
use Rattle.version_graph.specs.Family.{IsFilled, SolutionIsClosed}
use Rattle.graph_pruning.specs.Pruned.{Pruning, left, SameIn, IsPruningOf}
use Rattle.graph_pruning.specs.Exchange.{AreAbsent, SolvesWithAbsent}
use Rattle.graph_pruning.proofs.SpreadLemmas.{forbidden-flip}
use Rattle.graph_pruning.proofs.PruneLemmas.{closed_offered, same-sym, same-trans, left_kept, left_closed, left_solves, absent_left}
use Rattle.graph_pruning.proofs.ReduceLemmas.{choose_below}

module _ (closed : SolutionIsClosed) (g : Graph) (pr : Pruning) (k : IsPruningOf g pr) (xs : List ℕ) (s : IsSolution g xs) where
  state_closed : (p : ℕ) → p < packages g → pr.closed p (get_or xs p 0) ≡ true
  state_closed p known = k.closure.whole p (get_or xs p 0) (closed g [] xs s (λ q _. refl) p known)

  -- the state of a package where what isn't kept is absent
  abbrev IsTrimmed : ℕ → ℕ → Type 0
  IsTrimmed p y = (pr.kept p ≡ true → y ≡ get_or xs p 0) × (pr.kept p ≡ false → y ≡ last g p)

  trimmed : (p : ℕ) → (y : ℕ) × IsTrimmed p y
  trimmed p =
      elim (cases_Bool (pr.kept p)) [
        | inl kept ↦ (get_or xs p 0, (λ _. refl, λ out. absurd (both_ways _ out kept)))
        | inr out ↦ (last g p, (λ kept. absurd (both_ways _ out kept), λ _. refl))
      ]

  pub unkept_absent : IsGraph g → IsPlain g → (ys : List ℕ) × SolvesWithAbsent g pr ys
  unkept_absent graph plain =
      let filled : IsFilled g pr.closed = record { some = λ p known. (get_or xs p 0, state_closed p known) } in
      let c = choose_below IsTrimmed (packages g) (λ p known. trimmed p) in
      let ys = c.0 in
      let inside : (p : ℕ) → p < packages g → left g pr p (get_or ys p 0) ≡ true = λ p known.
      elim (cases_Bool (pr.kept p)) [
        | inl kept ↦ ap (left g pr p) ((c.2 p known).0 kept) ∙ left_kept g pr p (get_or xs p 0) kept (state_closed p known)
        | inr out ↦ ap (left g pr p) ((c.2 p known).1 out) ∙ absent_left g pr graph plain k filled p known out
      ] in (
        ys,
        record {
          solves = left_solves g pr graph plain k filled ys inside (λ p q first second apart one two.
              ap (λ x. is_forbidden g p x q (get_or ys q 0)) ((c.2 p first).0 one) ∙ ap (is_forbidden g p (get_or xs p 0) q) ((c.2 q second).0 two) ∙ s.allowed p q first second apart) c.1;
          absent = record { absent = λ p known out. (c.2 p known).1 out };
        },
      )

  module _ (a : AreAbsent g pr xs) (p i : ℕ) (known : p < packages g) (kept : pr.kept p ≡ true) (e : pr.standing p i ≡ pr.standing p (get_or xs p 0)) where
    state_left : (q : ℕ) → q < packages g → left g pr q (get_or xs q 0) ≡ true
    state_left q here =
        elim (cases_Bool (pr.kept q)) [
          | inl held ↦ left_kept g pr q (get_or xs q 0) held (state_closed q here)
          | inr out ↦ and_from (pr.closed q (get_or xs q 0)) _ (state_closed q here) (or_right (pr.kept q) (eqb (get_or xs q 0) (last g q)) (eq-eqb _ _ (a.absent q here out)))
        ]

    same_state : SameIn g (left g pr) p (get_or xs p 0) i
    same_state =
        let top = (k.classes.stands p (get_or xs p 0) (state_left p known)).same in
        elim (cases_Bool (left g pr p i)) [
          | inl here ↦
              let own = (k.classes.stands p i here).same in
              same-trans g (left g pr) p (get_or xs p 0) (pr.standing p (get_or xs p 0)) i top
              (same-sym g (left g pr) p i (pr.standing p (get_or xs p 0)) (subst (SameIn g (left g pr) p i) e own))
          | inr out ↦ absurd (both_ways _ out (ap (left g pr p) (sym (k.classes.others p i out) ∙ e) ∙ top.second))
        ]

    abbrev ys : List ℕ
    ys = set xs p i

    at_p : get_or ys p 0 ≡ i
    at_p = get_or-set_same xs p i 0 (omega (arith, known, s.each))

    at_other : (q : ℕ) → q ≢ p → get_or ys q 0 ≡ get_or xs q 0
    at_other q apart = get_or-set_other xs p q i 0 apart

    here_allowed : (q : ℕ) → q < packages g → q ≢ p → is_forbidden g p (get_or ys p 0) q (get_or ys q 0) ≡ false
    here_allowed q there apart =
        ap (λ x. is_forbidden g p x q (get_or ys q 0)) at_p
        ∙ ap (is_forbidden g p i q) (at_other q apart)
        ∙ sym (same_state.alike q (get_or xs q 0) apart (state_left q there))
        ∙ s.allowed p q known there (λ same. apart (sym same))

    exchanged_allowed : (c q : ℕ) → c < packages g → q < packages g → c ≢ q → is_forbidden g c (get_or ys c 0) q (get_or ys q 0) ≡ false
    exchanged_allowed c q first second apart =
        elim (cases_eq c p) [
          | inl one ↦ ap (λ x. is_forbidden g x (get_or ys x 0) q (get_or ys q 0)) one ∙ here_allowed q second (λ same. apart (one ∙ sym same))
          | inr other ↦ elim (cases_eq q p) [
            | inl two ↦
                forbidden-flip g c (get_or ys c 0) q (get_or ys q 0) apart
                ∙ ap (λ x. is_forbidden g x (get_or ys x 0) c (get_or ys c 0)) two
                ∙ here_allowed c first other
            | inr neither ↦
                ap (λ x. is_forbidden g c x q (get_or ys q 0)) (at_other c other)
                ∙ ap (is_forbidden g c (get_or xs c 0) q) (at_other q neither)
                ∙ s.allowed c q first second apart
          ]
        ]

    pub exchanged : SolvesWithAbsent g pr (set xs p i)
    exchanged = record {
      solves = record {
        each = length-set xs p i ∙ s.each;
        offered = λ q here. elim (cases_eq q p) [
          | inl same ↦
              ap (λ x. is_offered g x (get_or ys x 0)) same ∙ ap (is_offered g p) at_p
              ∙ closed_offered g pr.closed p i k.closure (left_closed g pr p i same_state.second)
          | inr apart ↦ ap (is_offered g q) (at_other q apart) ∙ s.offered q here
        ];
        allowed = exchanged_allowed;
      };
      absent = record {
        absent = λ q here out. elim (cases_eq q p) [
          | inl same ↦ absurd (both_ways _ out (ap pr.kept same ∙ kept))
          | inr apart ↦ at_other q apart ∙ a.absent q here out
        ];
      };
    }
