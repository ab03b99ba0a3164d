-- What cutting domains leaves.
use Rattle.std.proofs.Common.{◌≡◌, ℕ, ◌+◌, ◌<◌, ◌≤◌, Bool, true, false, not, ◌&&◌, ◌||◌, List, length, take, refl, sym, ◌∙◌, subst, ap, arith, inl, inr, ◌⊎◌, eqb, ltb, [], MatchBool}
use Rattle.std.proofs.lemmas.Bool.{cases_eq, cases_lt, cases_Bool, both_ways, eq-eqb, ne_eqb, lt-ltb, le-ltb}
use Rattle.std.proofs.lemmas.List.{length-take, take-take}
use Rattle.version_graph.specs.Graph.{Graph, packages, states, last, is_offered}
use Rattle.version_graph.specs.Family.{Family, InClosure, IsClosureOf, IsFilled, HasEmpty, narrowed, under}
use Rattle.version_graph.specs.Domain.{Rows, has}
use Rattle.version_graph.specs.Noted.{History, Holds}
use Rattle.version_graph.specs.Part.{Part}
use Rattle.graph_pruning.specs.Pruned.{left, AreStanding}
use Rattle.graph_pruning.specs.Marked.{marked, pruning_of}
use Rattle.graph_pruning.specs.Reduced.{IsReducedTo}
use Rattle.graph_pruning.proofs.PruneLemmas.{left_kept}
use Rattle.graph_pruning.proofs.PartingLemmas.{marked_below}
use Rattle.graph_pruning.proofs.SpreadLemmas.{held-known}

and-true : (b : Bool) → b ≡ (b && true)
and-true true = refl
and-true false = refl

and-false : (b : Bool) → (b && false) ≡ false
and-false true = refl
and-false false = refl

or-true : (b : Bool) → (b || true) ≡ true
or-true true = refl
or-true false = refl

-- a package whose states are crossed off one after another has none
pub all_crossed : (g : Graph) (d : Rows) (t : History) (p q k : ℕ) → Holds g d t → (has d q k && not (eqb q p && ltb k (states g p))) ≡ (has d q k && not (eqb q p))
all_crossed g d t p q k h =
    elim (cases_Bool (has d q k)) [
      | inr out ↦ ap (λ b. b && not (eqb q p && ltb k (states g p))) out ∙ sym (ap (λ b. b && not (eqb q p)) out)
      | inl here ↦ elim (cases_eq q p) [
        | inl same ↦
            let below = (held-known g d t q k h here).1 in
            ap (λ b. has d q k && not (eqb q p && b)) (lt-ltb k (states g p) (subst (λ x. k < states g x) same below)) ∙ ap (λ b. has d q k && not (b && true)) (eq-eqb q p same)
            ∙ sym (ap (λ b. has d q k && not b) (eq-eqb q p same))
        | inr apart ↦ ap (λ b. has d q k && not (b && ltb k (states g p))) (ne_eqb q p apart) ∙ sym (ap (λ b. has d q k && not b) (ne_eqb q p apart))
      ]
    ]

-- a domain that lacks the state is cut to nothing
pub crossed_narrows : (f : Family) (p i q j : ℕ) → f p i ≡ false → (f q j && not (eqb q p)) ≡ narrowed f p i q j
crossed_narrows f p i q j lacks =
    elim (cases_eq q p) [
      | inr apart ↦ ap (λ b. f q j && not b) (ne_eqb q p apart) ∙ sym (ap (λ b. f q j && (not b || eqb j i)) (ne_eqb q p apart))
      | inl same ↦ ap (λ b. f q j && not b) (eq-eqb q p same) ∙ and-false (f q j) ∙ sym (ap (λ b. f q j && (not b || eqb j i)) (eq-eqb q p same) ∙ at same (cases_eq j i))
    ]
  where
    at : q ≡ p → (j ≡ i) ⊎ (j ≡ i → ⊥) → (f q j && eqb j i) ≡ false
    at same (inl e) = ap (λ b. b && eqb j i) (ap (λ x. f x j) same ∙ ap (f p) e ∙ lacks)
    at same (inr n) = ap (λ b. f q j && b) (ne_eqb j i n) ∙ and-false (f q j)

-- one package more that is emptied
pub emptied_step : (a : Bool) (q p : ℕ) → ((a && not (ltb q p)) && not (eqb q p)) ≡ (a && not (ltb q (p + 1)))
emptied_step false q p = refl
emptied_step true q p =
    elim (cases_eq q p) [
      | inl same ↦
          ap (λ b. not (ltb q p) && not b) (eq-eqb q p same) ∙ and-false (not (ltb q p)) ∙ sym (ap not (lt-ltb q (p + 1) (omega arith)))
      | inr apart ↦ ap (λ b. not (ltb q p) && not b) (ne_eqb q p apart) ∙ sym (and-true (not (ltb q p))) ∙ elim (cases_lt q p) [
        | inl low ↦ ap not (lt-ltb q p low) ∙ sym (ap not (lt-ltb q (p + 1) (omega arith)))
        | inr high ↦ ap not (le-ltb q p high) ∙ sym (ap not (le-ltb q (p + 1) (omega arith)))
      ]
    ]

pub all_emptied : (g : Graph) (d : Rows) (t : History) (p i : ℕ) → Holds g d t → (has d p i && not (ltb p (packages g))) ≡ false
all_emptied g d t p i h =
    elim (cases_Bool (has d p i)) [
      | inr out ↦ ap (λ b. b && not (ltb p (packages g))) out
      | inl here ↦ ap (λ b. has d p i && not b) (lt-ltb p (packages g) (held-known g d t p i h here).0) ∙ and-false (has d p i)
    ]

-- whether a state is left where a package is cut, if it isn't kept
abbrev pub stays : Graph → List Bool → ℕ → ℕ → Bool
stays g kept q i = marked kept q || eqb i (last g q)

pub kept_stays : (g : Graph) (kept : List Bool) (f : Family) (q i p : ℕ) → marked kept p ≡ true → f q i ≡ (f q i && (not (eqb q p) || stays g kept p i))
kept_stays g kept f q i p here =
    and-true (f q i) ∙ sym (ap (λ b. f q i && (not (eqb q p) || (b || eqb i (last g p)))) here ∙ ap (λ b. f q i && b) (or-true (not (eqb q p))))

pub unkept_stays : (g : Graph) (kept : List Bool) (f : Family) (q i p : ℕ) → marked kept p ≡ false → narrowed f p (last g p) q i ≡ (f q i && (not (eqb q p) || stays g kept p i))
unkept_stays g kept f q i p out = sym (ap (λ b. f q i && (not (eqb q p) || (b || eqb i (last g p)))) out)

pub unkept_step : (g : Graph) (kept : List Bool) (a : Bool) (q i p : ℕ) →
    ((a && (not (ltb q p) || stays g kept q i)) && (not (eqb q p) || stays g kept p i)) ≡ (a && (not (ltb q (p + 1)) || stays g kept q i))
unkept_step g kept false q i p = refl
unkept_step g kept true q i p =
    elim (cases_eq q p) [
      | inl same ↦
          ap (λ b. (not b || stays g kept q i) && (not (eqb q p) || stays g kept p i)) (le-ltb q p (omega arith))
          ∙ ap (λ b. true && (not b || stays g kept p i)) (eq-eqb q p same)
          ∙ ap (λ x. stays g kept x i) (sym same)
          ∙ sym (ap (λ b. not b || stays g kept q i) (lt-ltb q (p + 1) (omega arith)))
      | inr apart ↦
          ap (λ b. (not (ltb q p) || stays g kept q i) && (not b || stays g kept p i)) (ne_eqb q p apart)
          ∙ sym (and-true (not (ltb q p) || stays g kept q i))
          ∙ elim (cases_lt q p) [
            | inl low ↦ ap (λ b. not b || stays g kept q i) (lt-ltb q p low) ∙ sym (ap (λ b. not b || stays g kept q i) (lt-ltb q (p + 1) (omega arith)))
            | inr high ↦ ap (λ b. not b || stays g kept q i) (le-ltb q p high) ∙ sym (ap (λ b. not b || stays g kept q i) (le-ltb q (p + 1) (omega arith)))
          ]
    ]

pub all_cut : (g : Graph) (kept : List Bool) (d : Rows) (t : History) (p i : ℕ) → Holds g d t → (has d p i && (not (ltb p (packages g)) || stays g kept p i)) ≡ (has d p i && stays g kept p i)
all_cut g kept d t p i h =
    elim (cases_Bool (has d p i)) [
      | inr out ↦ ap (λ b. b && (not (ltb p (packages g)) || stays g kept p i)) out ∙ sym (ap (λ b. b && stays g kept p i) out)
      | inl here ↦ ap (λ b. has d p i && (not b || stays g kept p i)) (lt-ltb p (packages g) (held-known g d t p i h here).0)
    ]

-- what is noted first stays first
pub earlier_first : (a b c : List (ℕ × ℕ)) → take (length a) b ≡ a → take (length b) c ≡ b → take (length a) c ≡ a
earlier_first a b c h k =
    let long : length (take (length a) b) ≡ length a = ap length h in
    let less : length a ≤ length b = omega (arith, long, length-take (length a) b) in
    sym (take-take (length a) (length b) c less) ∙ ap (take (length a)) k ∙ h

-- ---- the whole pruning

-- nothing is the closure of domains whose closure has an empty domain
pub nothing_closed : (g : Graph) (f s : Family) → ((p i : ℕ) → InClosure g f p i → ⊥) → ((p i : ℕ) → s p i ≡ false) → IsClosureOf g f s
nothing_closed g f s nowhere none = record {
  sound = λ p i here. absurd (both_ways _ (none p i) here);
  whole = λ p i c. absurd (nowhere p i c);
}

full_under : (g : Graph) (f : Family) → ((p i : ℕ) → f p i ≡ is_offered g p i) → f ≡ under g []
full_under g f full = λ x p i. each p i x
  where
    each : (p i : ℕ) → f p i ≡ under g [] p i
    each p i = full p i ∙ and-true (is_offered g p i)

pub closure_under : (g : Graph) (f s : Family) → ((p i : ℕ) → f p i ≡ is_offered g p i) → IsClosureOf g f s → IsClosureOf g (under g []) s
closure_under g f s full c = subst (λ d. IsClosureOf g d s) (full_under g f full) c

pub empty_under : (g : Graph) (f : Family) → ((p i : ℕ) → f p i ≡ is_offered g p i) → HasEmpty g f → HasEmpty g (under g [])
empty_under g f full e = subst (HasEmpty g) (full_under g f full) e

pub standing_where : (g : Graph) (f s : Family) (standing : ℕ → ℕ → ℕ) → ((p i : ℕ) → f p i ≡ s p i) → AreStanding g f standing → AreStanding g s standing
standing_where g f s standing same c = subst (λ d. AreStanding g d standing) (λ x p i. same p i x) c

pub open_or_not : (g : Graph) (f s : Family) (b : Bool) → ((p i : ℕ) → f p i ≡ is_offered g p i) → MatchBool b (IsFilled g s) (HasEmpty g f) → MatchBool b (IsFilled g s) (HasEmpty g (under g []))
open_or_not g f s true full m = m
open_or_not g f s false full m = empty_under g f full m

pub standing_back : (g : Graph) (f s : Family) (standing : ℕ → ℕ → ℕ) → ((p i : ℕ) → f p i ≡ s p i) → AreStanding g s standing → AreStanding g f standing
standing_back g f s standing same c = subst (λ d. AreStanding g d standing) (λ x p i. sym (same p i) x) c

pub reduced_where : (g : Graph) (f s : Family) (kept : ℕ → Bool) (standing : ℕ → ℕ → ℕ) (h : Graph) (b : Part) → ((p i : ℕ) → f p i ≡ s p i) → IsReducedTo g f kept standing h b → IsReducedTo g s kept standing h b
reduced_where g f s kept standing h b same r = subst (λ d. IsReducedTo g d kept standing h b) (λ x p i. same p i x) r

pub pruned_filled : (g : Graph) (closed : Family) (b : Bool) → b ≡ true → MatchBool b (IsFilled g closed) (HasEmpty g (under g [])) → IsFilled g closed
pruned_filled g closed true e m = m
pruned_filled g closed false e m = absurd (cc)

-- a kept package has a state in the pruned domains
pub pruned_some : (g : Graph) (f closed : Family) (kept : List Bool) (rows : List (List ℕ)) → length kept ≡ packages g → ((p i : ℕ) → f p i ≡ left g (pruning_of closed kept rows) p i) →
    IsFilled g closed → (p : ℕ) → marked kept p ≡ true → (i : ℕ) × (f p i ≡ true)
pruned_some g f closed kept rows each same filled p here =
    let s = filled.some p (omega (arith, each, marked_below kept p here)) in
    (s.0, same p s.0 ∙ left_kept g (pruning_of closed kept rows) p s.0 here s.1)
