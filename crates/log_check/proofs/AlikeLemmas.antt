-- The verdict on a log is that of all instances that stand for the book and the demand, since these are alike.
use Rattle.std.proofs.Common.{◌≡◌, ℕ, ◌<◌, Bool, true, false, List, length, Result, Ok, Err, IfOk, refl, sym, ◌∙◌, subst, arith}
use Rattle.std.specs.Prelude.{MatchBool, ◌↔◌}
use Rattle.offer_terms.specs.Booked.{Packed, package_at}
use Rattle.offer_terms.specs.Demanded.{Wanted}
use Rattle.version_graph.specs.Graph.{Graph, packages, states}
use Rattle.refutation_log.specs.declared.node.Node.{Node}
use Rattle.book_graph.specs.StandsFor.{StandsFor, state_count}
use Rattle.resolve_core.specs.Resolved.{IsVerdict}
use Rattle.alike_refutations.specs.Alike.{IsLike, RefutedAlike}
use Rattle.log_check.specs.LogDue.{Certifies}

same_truth : {P : Type 0} (a b : Bool) → (a ≡ true) ↔ P → (b ≡ true) ↔ P → a ≡ b
same_truth true true one other = refl
same_truth true false one other = sym (other.1 (one.0 refl))
same_truth false true one other = one.1 (other.0 refl)
same_truth false false one other = refl

module _ (book : List Packed) (w : Wanted) (g h : Graph) (one : StandsFor book w g) (other : StandsFor book w h) where
  place_in : (p : ℕ) → p < packages g → p < length book
  place_in p known = subst (λ n. p < n) one.each known

  state_in : (p i : ℕ) → p < packages g → i < states g p → i < state_count (package_at book p)
  state_in p i known here = subst (λ n. i < n) (one.wide p (place_in p known)) here

  alike : IsLike g h
  alike = record {
    each = other.each ∙ sym one.each;
    wide = λ p known. other.wide p (place_in p known) ∙ sym (one.wide p (place_in p known));
    filled = λ p known. let count = one.wide p (place_in p known) in omega (arith, count);
    barred = λ p i known here. same_truth _ _ (other.barred p i (place_in p known) (state_in p i known here)) (one.barred p i (place_in p known) (state_in p i known here));
    forbidden = λ p i q j known here q_known there apart.
        same_truth _ _
        (other.forbidden p i q j (place_in p known) (state_in p i known here) (place_in q q_known) (state_in q j q_known there) apart)
        (one.forbidden p i q j (place_in p known) (state_in p i known here) (place_in q q_known) (state_in q j q_known there) apart);
  }

apart : false ≡ true → ⊥
apart same = cc

verdict : RefutedAlike → (book : List Packed) (w : Wanted) (log : List Node) (accepts : Bool) → IsVerdict book w log accepts
    → MatchBool accepts (Certifies book w log) (Certifies book w log → ⊥)
verdict law book w log true it = record { graph = it.graph; stands = it.stands; refutes = it.exact.0 refl }
verdict law book w log false it = λ certified.
    apart (it.exact.1 (law certified.graph it.graph log (alike book w certified.graph it.graph certified.stands it.stands) certified.refutes))

pub verdict_told : {E : Type 0} → RefutedAlike → (book : List Packed) (w : Wanted) (log : List Node) (answer : Result Bool E) → IfOk answer (IsVerdict book w log)
    → IfOk answer (λ is. MatchBool is (Certifies book w log) (Certifies book w log → ⊥))
verdict_told law book w log (Ok accepts) it = verdict law book w log accepts it
verdict_told law book w log (Err fault) it = tt
