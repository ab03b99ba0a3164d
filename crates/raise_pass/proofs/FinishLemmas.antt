-- Finishing: steps one after another, one result, and solutions that stay solutions.
use Rattle.std.proofs.Common.{◌≡◌, ◌≢◌, ℕ, ◌-◌, ◌<◌, Bool, true, false, cond, List, [], ◌∷◌, ◌++◌, length, get_or, set, refl, sym, ◌∙◌, ap, subst, arith, inl, inr, MatchBool}
use Rattle.std.proofs.lemmas.Bool.{cases_eq, cases_Bool}
use Rattle.std.proofs.lemmas.List.{get_or-set_same, get_or-set_other, length-set, ext_get_or}
use Rattle.version_graph.specs.Graph.{Graph, packages, last, is_offered, is_forbidden, IsGraph, IsPlain, IsSolution}
use Rattle.raise_pass.specs.Finishing.{IsTrimmed, CanRaise, Trims, Raises, Step, trims, raises, Steps, end_of, IsFinished, Finishes}
use Rattle.raise_pass.specs.Laws.{OneFinish, FinishKeepsSolution}
use Rattle.raise_pass.specs.Scratch.{Leads}
use Rattle.raise_pass.specs.Changed.{below_last, IsNextRaise, WasTrimmed}
use Rattle.raise_pass.proofs.StuckLemmas.{forbidden-flip}
use Rattle.raise_pass.proofs.TrimLemmas.{cut-solves, sum-lt}

-- ---- one step after others

steps-more : (g : Graph) (xs : List ℕ) (between : List (List ℕ)) (ys : List ℕ) → Steps g xs between → Step g (end_of xs between) ys → Steps g xs (between ++ ys ∷ [])
steps-more g xs [] ys s t = (t, tt)
steps-more g xs (z ∷ zs) ys s t = (s.0, steps-more g z zs ys s.1 t)

ends-more : (xs : List ℕ) (between : List (List ℕ)) (ys : List ℕ) → end_of xs (between ++ ys ∷ []) ≡ ys
ends-more xs [] ys = refl
ends-more xs (z ∷ zs) ys = ends-more z zs ys

pub leads-none : (g : Graph) (xs : List ℕ) → Leads g xs xs
leads-none g xs = record { between = []; steps = tt; ends = refl }

pub leads-step : (g : Graph) (xs ys zs : List ℕ) → Leads g xs ys → Step g ys zs → Leads g xs zs
leads-step g xs ys zs l s = record {
  between = l.between ++ zs ∷ [];
  steps = steps-more g xs l.between zs l.steps (subst (λ e. Step g e zs) (sym l.ends) s);
  ends = ends-more xs l.between zs;
}

pub finish-from : (g : Graph) (xs ys : List ℕ) → Leads g xs ys → IsTrimmed g ys → ((p j : ℕ) → CanRaise g ys p j → ⊥) → Finishes g xs ys
finish-from g xs ys l t none = record { between = l.between; steps = l.steps; ends = l.ends; finished = record { trimmed = t; highest = none } }

-- ---- one result

trims-length : (g : Graph) (old new : List ℕ) → Trims g old new → length new ≡ length old
trims-length g old new t = t.each

same-trims : (g : Graph) (old one other : List ℕ) → length old ≡ packages g → Trims g old one → Trims g old other → one ≡ other
same-trims g old one other each t u =
    let same : (p : ℕ) → t.set p ≡ u.set p = λ p. elim (cases_Bool (t.set p)) [
      | inl is ↦ is ∙ sym ((t.reached.sound p is).in_each u.set u.reached.spreads)
      | inr out ↦ elim (cases_Bool (u.set p)) [
        | inl is ↦ (let both = (u.reached.sound p is).in_each t.set t.reached.spreads in absurd (cc))
        | inr not_too ↦ out ∙ sym not_too
      ]
    ] in
    let a = t.each in
    let b = u.each in
    ext_get_or 0 one other (a ∙ sym b) (λ p inside.
    let known : p < packages g = omega (arith, inside, a, each) in
    t.result p known ∙ ap (λ v. cond v (get_or old p 0) (last g p)) (same p) ∙ sym (u.result p known))

same-raises : (g : Graph) (old one other : List ℕ) → Raises g old one → Raises g old other → one ≡ other
same-raises g old one other r s =
    let low = r.least s.place s.state s.can in
    let high = s.least r.place r.state r.can in
    let place : r.place ≡ s.place = omega (arith, low, high) in
    let up = s.greatest r.state (subst (λ p. CanRaise g old p r.state) place r.can) in
    let down = r.greatest s.state (subst (λ p. CanRaise g old p s.state) (sym place) s.can) in
    let state : r.state ≡ s.state = omega (arith, up, down) in
    r.result ∙ ap (λ p. set old p r.state) place ∙ ap (set old s.place) state ∙ sym s.result

same-step : (g : Graph) (old one other : List ℕ) → length old ≡ packages g → Step g old one → Step g old other → one ≡ other
same-step g old one other each (trims t) (trims u) = same-trims g old one other each t u
same-step g old one other each (trims t) (raises u) = absurd (t.due u.trimmed)
same-step g old one other each (raises t) (trims u) = absurd (u.due t.trimmed)
same-step g old one other each (raises t) (raises u) = same-raises g old one other t u

step-length : (g : Graph) (old new : List ℕ) → Step g old new → length new ≡ length old
step-length g old new (trims t) = t.each
step-length g old new (raises r) = ap length r.result ∙ length-set old r.place r.state

no-step : (g : Graph) (old new : List ℕ) → IsFinished g old → Step g old new → ⊥
no-step g old new f (trims t) = t.due f.trimmed
no-step g old new f (raises r) = f.highest r.place r.state r.can

same-end : (g : Graph) (xs : List ℕ) (one other : List (List ℕ)) → length xs ≡ packages g → Steps g xs one → Steps g xs other →
    IsFinished g (end_of xs one) → IsFinished g (end_of xs other) → end_of xs one ≡ end_of xs other
same-end g xs [] [] each s t e f = refl
same-end g xs [] (z ∷ zs) each s t e f = absurd (no-step g xs z e t.0)
same-end g xs (y ∷ ys) [] each s t e f = absurd (no-step g xs y f s.0)
same-end g xs (y ∷ ys) (z ∷ zs) each s t e f =
    let same : y ≡ z = same-step g xs y z each s.0 t.0 in
    let long : length z ≡ packages g = step-length g xs z t.0 ∙ each in
    ap (λ v. end_of v ys) same ∙ same-end g z ys zs long (subst (λ v. Steps g v ys) same s.1) t.1 (subst (λ v. IsFinished g (end_of v ys)) same e) f

pub one-finish : OneFinish
one-finish g old one other each f h =
    sym f.ends ∙ same-end g old f.between h.between each f.steps h.steps (subst (IsFinished g) (sym f.ends) f.finished) (subst (IsFinished g) (sym h.ends) h.finished) ∙ h.ends

-- ---- solutions stay solutions

pub raise-solves : (g : Graph) (old new : List ℕ) (p j : ℕ) → IsSolution g old → CanRaise g old p j → new ≡ set old p j → IsSolution g new
raise-solves g old new p j s can e =
    let here : get_or new p 0 ≡ j = ap (λ xs. get_or xs p 0) e ∙ get_or-set_same old p j 0 (let k = can.known in let l = s.each in omega (arith, k, l)) in
    let other : (q : ℕ) → q ≢ p → get_or new q 0 ≡ get_or old q 0 = λ q ne. ap (λ xs. get_or xs q 0) e ∙ get_or-set_other old p q j 0 ne in
    let put : (a b x y : ℕ) → get_or new a 0 ≡ x → get_or new b 0 ≡ y → is_forbidden g a x b y ≡ false → is_forbidden g a (get_or new a 0) b (get_or new b 0) ≡ false =
    λ a b x y m n f. ap (λ v. is_forbidden g a v b (get_or new b 0)) m ∙ ap (λ v. is_forbidden g a x b v) n ∙ f in
    record {
      each = ap length e ∙ length-set old p j ∙ s.each;
      offered = λ q known. elim (cases_eq q p) [
        | inl same ↦ subst (λ v. is_offered g v (get_or new v 0) ≡ true) (sym same) (ap (is_offered g p) here ∙ can.offered)
        | inr ne ↦ ap (is_offered g q) (other q ne) ∙ s.offered q known
      ];
      allowed = λ a b ka kb apart. elim (cases_eq a p) [
        | inl same ↦
            let nb : b ≢ p = λ t. apart (same ∙ sym t) in
            subst (λ v. is_forbidden g v (get_or new v 0) b (get_or new b 0) ≡ false) (sym same) (put p b _ _ here (other b nb) (can.allowed b kb nb))
        | inr ne ↦ elim (cases_eq b p) [
          | inl same ↦
              subst (λ v. is_forbidden g a (get_or new a 0) v (get_or new v 0) ≡ false) (sym same)
              (put a p _ _ (other a ne) here (forbidden-flip g a (get_or old a 0) p j ne ∙ can.allowed a ka ne))
          | inr nb ↦ put a b _ _ (other a ne) (other b nb) (s.allowed a b ka kb apart)
        ]
      ];
    }

step-solves : (g : Graph) (old new : List ℕ) → IsGraph g → IsPlain g → IsSolution g old → Step g old new → IsSolution g new
step-solves g old new graph plain s (trims t) = cut-solves g old new t.set graph plain s (record { reached = t.reached; each = t.each; result = t.result })
step-solves g old new graph plain s (raises r) = raise-solves g old new r.place r.state s r.can r.result

steps-solve : (g : Graph) (xs : List ℕ) (between : List (List ℕ)) → IsGraph g → IsPlain g → IsSolution g xs → Steps g xs between → IsSolution g (end_of xs between)
steps-solve g xs [] graph plain s t = s
steps-solve g xs (y ∷ ys) graph plain s t = steps-solve g y ys graph plain (step-solves g xs y graph plain s t.0) t.1

pub finish-solves : FinishKeepsSolution
finish-solves g old new graph plain s f = subst (IsSolution g) f.ends (steps-solve g old f.between graph plain s f.steps)

-- ---- raising

-- a raised package is nearer to its last state
pub raise-below : (g : Graph) (old new : List ℕ) (p j : ℕ) → length old ≡ packages g → CanRaise g old p j → new ≡ set old p j → below_last g new < below_last g old
raise-below g old new p j each can e =
    let known = can.known in
    let here : get_or new p 0 ≡ j = ap (λ xs. get_or xs p 0) e ∙ get_or-set_same old p j 0 (omega (arith, known, each)) in
    let up = can.greater in
    let top = can.present in
    let less : (last g p - get_or new p 0) < (last g p - get_or old p 0) = omega (arith, here, up, top) in
    sum-lt (λ q. last g q - get_or new q 0) (λ q. last g q - get_or old q 0) (packages g) p
    (λ q kq. elim (cases_eq q p) [
      | inl same ↦ (let fewer = subst (λ v. (last g v - get_or new v 0) < (last g v - get_or old v 0)) (sym same) less in omega (arith, fewer))
      | inr ne ↦ (let other : get_or new q 0 ≡ get_or old q 0 = ap (λ xs. get_or xs q 0) e ∙ get_or-set_other old p q j 0 ne in omega (arith, other))
    ])
    known less

pub next-raises : (g : Graph) (old new : List ℕ) (p j : ℕ) → IsTrimmed g old → IsNextRaise g old p j → new ≡ set old p j → Raises g old new
next-raises g old new p j t n e = record { trimmed = t; place = p; state = j; can = n.can; least = n.least; greatest = n.greatest; result = e }

-- trimming is a step, or changes nothing
pub trim-leads : (g : Graph) (xs ys zs : List ℕ) (flag : Bool) → Leads g xs ys → MatchBool flag (Trims g ys zs) (WasTrimmed g ys zs) → Leads g xs zs
trim-leads g xs ys zs true l t = leads-step g xs ys zs l (trims t)
trim-leads g xs ys zs false l w = subst (Leads g xs) (sym w.same) l
