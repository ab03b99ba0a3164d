-- Prunings of instances that are alike.
use Rattle.std.proofs.Common.{◌≡◌, ℕ, Bool, true, ◌&&◌, ◌||◌, ◌==◌, [], sym, ◌∙◌, ap, inl, inr}
use Rattle.std.proofs.lemmas.Bool.{and_parts, cases_Bool}
use Rattle.version_graph.specs.Graph.{Graph, last, is_offered}
use Rattle.version_graph.specs.Family.{Family, IsClosureOf, IsFilled, agrees, under}
use Rattle.graph_pruning.specs.Pruned.{Pruning, left, Spreads, AreReached, AreKept, SameIn, AreStanding, IsPruningOf}
use Rattle.alike_refutations.specs.Alike.{IsLike}
use Rattle.alike_refutations.proofs.Closed.{offered_known, like_back, package_over, last_same, offered_over, root_over, need_over, closure_over}

-- a family of offered states
pub record AreOffered (g : Graph) (f : Family) : Type 0 where
  pub at : (p i : ℕ) → f p i ≡ true → is_offered g p i ≡ true

closed_offered : (g : Graph) (f : Family) → IsClosureOf g (under g []) f → AreOffered g f
closed_offered g f c = record { at = λ p i here. let k = c.sound p i here in (and_parts (is_offered g p i) (agrees [] p i) (k.within.at p i k.here)).0 }

module _ (g h : Graph) (l : IsLike g h) where
  closing_over : (f : Family) → IsClosureOf g (under g []) f → IsClosureOf h (under h []) f
  closing_over f c = record {
    sound = λ p i here. closure_over g h l [] p i (c.sound p i here);
    whole = λ p i k. c.whole p i (closure_over h g (like_back g h l) [] p i k);
  }

  spreads_over : (f : Family) → AreOffered g f → (set : ℕ → Bool) → Spreads g f set → Spreads h f set
  spreads_over f o set s = record {
    roots = λ p e. s.roots p (root_over h g (like_back g h l) p e);
    needs = λ p i q inside here e.
        let k = offered_known h p i (offered_over g h l p i (o.at p i here)) in
        s.needs p i q inside here (need_over h g (like_back g h l) p i q k.0 k.1 e);
  }

kept_over : (g h : Graph) → IsLike g h → (f : Family) → AreOffered g f → (set : ℕ → Bool) → AreKept g f set → AreKept h f set
kept_over g h l f o set a = record { reached = reached; none = λ p known e q. a.none p (package_over h g back p known) e q }
  where
    back : IsLike h g
    back = like_back g h l

    reached : IsFilled h f → AreReached h f set
    reached filled =
        let r = a.reached (record { some = λ p known. filled.some p (package_over g h l p known) }) in
        record {
          spreads = spreads_over g h l f o set r.spreads;
          least = λ other s p here. r.least other (spreads_over h g back f (record { at = λ q i there. offered_over g h l q i (o.at q i there) }) other s) p here;
        }

-- what is left is the same
left_same : (g h : Graph) → IsLike g h → (pr : Pruning) → AreOffered g pr.closed → (p i : ℕ) → left h pr p i ≡ left g pr p i
left_same g h l pr o p i =
    elim (cases_Bool (pr.closed p i)) [
      | inl here ↦ ap (λ n. pr.closed p i && (pr.kept p || (i == n))) (last_same g h l p (offered_known g p i (o.at p i here)).0)
      | inr none ↦ ap (λ b. b && (pr.kept p || (i == last h p))) none ∙ sym (ap (λ b. b && (pr.kept p || (i == last g p))) none)
    ]

left_offered : (g : Graph) (pr : Pruning) → AreOffered g pr.closed → AreOffered g (left g pr)
left_offered g pr o = record { at = λ p i here. o.at p i (and_parts (pr.closed p i) (pr.kept p || (i == last g p)) here).0 }

module _ (g h : Graph) (l : IsLike g h) (pr : Pruning) (o : AreOffered g pr.closed) where
  same_over : (p i j : ℕ) → SameIn g (left g pr) p i j → SameIn h (left h pr) p i j
  same_over p i j s =
      let first = offered_known g p i ((left_offered g pr o).at p i s.first) in
      let second = offered_known g p j ((left_offered g pr o).at p j s.second) in
      record {
        first = left_same g h l pr o p i ∙ s.first;
        second = left_same g h l pr o p j ∙ s.second;
        alike = λ q k apart here.
            let there : left g pr q k ≡ true = sym (left_same g h l pr o q k) ∙ here in
            let third = offered_known g q k ((left_offered g pr o).at q k there) in
            l.forbidden p i q k first.0 first.1 third.0 third.1 (λ same. apart (sym same))
            ∙ s.alike q k apart there ∙ sym (l.forbidden p j q k first.0 second.1 third.0 third.1 (λ same. apart (sym same)));
      }

standing_over : (g h : Graph) → IsLike g h → (pr : Pruning) → AreOffered g pr.closed → AreStanding g (left g pr) pr.standing → AreStanding h (left h pr) pr.standing
standing_over g h l pr o a = record {
  stands = λ p i here.
      let s = a.stands p i (sym (left_same g h l pr o p i) ∙ here) in
      record {
        same = same_over g h l pr o p i (pr.standing p i) s.same;
        greatest = λ j same. s.greatest j (same_over h g (like_back g h l) pr (record { at = λ q k there. offered_over g h l q k (o.at q k there) }) p i j same);
      };
  others = λ p i e. a.others p i (sym (left_same g h l pr o p i) ∙ e);
}

-- the pruning of the one is that of the other
pub pruning_over : (g h : Graph) → IsLike g h → (pr : Pruning) → IsPruningOf g pr → IsPruningOf h pr
pruning_over g h l pr prunes =
    let o = closed_offered g pr.closed prunes.closure in
    record {
      closure = closing_over g h l pr.closed prunes.closure;
      reached = kept_over g h l pr.closed o pr.kept prunes.reached;
      classes = standing_over g h l pr o prunes.classes;
    }
