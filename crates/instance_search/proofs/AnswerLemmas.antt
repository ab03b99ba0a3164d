-- What is true of an answer.
use Rattle.std.proofs.Common.{◌≡◌, ℕ, false, List, [], ◌∷◌, length, take, None, refl, sym, ◌∙◌, ap, subst}
use Rattle.std.proofs.lemmas.Bool.{both_ways}
use Rattle.pkg_world.specs.Listing.{Listing}
use Rattle.version_graph.specs.Graph.{Graph, IsGraph}
use Rattle.version_graph.specs.Part.{Part}
use Rattle.version_graph.specs.Family.{HasEmpty, EmptyIsEverywhere, under}
use Rattle.graph_pruning.specs.Pruned.{Pruning, IsPruningOf}
use Rattle.graph_pruning.specs.Reduced.{IsReduction, PruningKeepsSolutions, ReducedIsWhole, whole_of}
use Rattle.refutation_log.specs.declared.node.Node.{Node}
use Rattle.refutation_log.specs.Tree.{Tree, leaf, preorder}
use Rattle.refutation_log.specs.Refutes.{IsRefutation, RefutationIsSound}
use Rattle.refutation_log.specs.Renumbered.{renumbered, RenumberedRefutes}
use Rattle.raise_pass.specs.Laws.{FinishKeepsSolution}
use Rattle.decimation_repair.specs.Levels.{Levels}
use Rattle.decimation_repair.specs.Choice.{BeliefChoice}
use Rattle.decimation_repair.specs.Sought.{Sought}
use Rattle.decimation_repair.specs.Walk.{Ends, Spends}
use Rattle.decimation_repair.specs.Laws.{FoundIsSolution, EndRefutes}
use Rattle.instance_search.specs.Searched.{IsWalked, Searches, at_once, by_walk}
use Rattle.instance_search.specs.Rated.{AreRated}
use Rattle.instance_search.specs.Laws.{FoundIsFinished, EmptyRefutes, SpentIsFull}
use Rattle.instance_search.specs.declared.answer.Answer.TheVariants.{Empty, Spent}
use Rattle.instance_search.proofs.FrontLemmas.{front_written, written_whole, written_length}

-- ---- found

pub found_finished : FoundIsSolution → PruningKeepsSolutions → FinishKeepsSolution → FoundIsFinished
found_finished solves keeps finish g budget states count (at_once d) = absurd d.ends
found_finished solves keeps finish g budget states count (by_walk w) =
    let e = w.ends in
    let f = e.finished in
    let r = w.reduction in
    let s = (keeps g w.pruning w.pruned w.back r).widened e.chosen f.widened (solves w.weights w.pruned budget e.chosen e.nodes e.finds) f.is_widened in
    (finish g f.widened states.items r.graph r.plain s f.finishes, f.finishes.finished)

-- ---- empty

-- where the closure has an empty domain, nothing is left and no package is kept
abbrev nothing_left : Pruning
nothing_left = record { closed = λ p i. false; kept = λ p. false; standing = λ p i. i }

prunes_nothing : EmptyIsEverywhere → (g : Graph) → HasEmpty g (under g []) → IsPruningOf g nothing_left
prunes_nothing everywhere g e = record {
  closure = record {
    sound = λ p i here. absurd (both_ways false refl here);
    whole = λ p i k. absurd (everywhere g (under g []) e p i k);
  };
  reached = record {
    reached = λ f. absurd (both_ways false refl (f.some e.place e.known).1);
    none = λ p known none q. refl;
  };
  classes = record {
    stands = λ p i here. absurd (both_ways false refl here);
    others = λ p i away. refl;
  };
}

refuted : EndRefutes → ReducedIsWhole → RenumberedRefutes → EmptyIsEverywhere → (g : Graph) (budget : ℕ) (log : Listing Node) → Searches g budget (Empty log) → IsRefutation g log.items
refuted ends whole moves everywhere g budget log (at_once d) = record {
  pruning = nothing_left;
  prunes = prunes_nothing everywhere g d.empty;
  tree = leaf;
  listed = d.ends.1;
  refutes = d.empty;
}
refuted ends whole moves everywhere g budget log (by_walk w) =
    let h = w.pruned in
    let b = w.back in
    let r = w.reduction in
    let u = whole g w.pruning h b r in
    let e = w.ends in
    let t = ends w.weights h (whole_of h) u budget e.nodes e.ends in
    record {
      pruning = w.pruning;
      prunes = r.pruning;
      tree = renumbered b t.tree;
      listed = written_whole b e.nodes log.items t.tree e.written t.listed;
      refutes = moves g w.pruning h b r (whole_of h) u t.tree t.refutes;
    }

pub empty_refuted : EndRefutes → ReducedIsWhole → RenumberedRefutes → RefutationIsSound → EmptyIsEverywhere → EmptyRefutes
empty_refuted ends whole moves sound everywhere g budget log graph plain s =
    let r = refuted ends whole moves everywhere g budget log s in
    (r, sound g log.items graph plain r)

-- ---- spent

pub spent_full : SpentIsFull
spent_full g budget log (at_once d) = ap length d.ends.1 ∙ sym d.ends.0
spent_full g budget log (by_walk w) = let e = w.ends in written_length w.back e.nodes log.items e.written ∙ e.spends.spent

-- ---- what the search of the pruned instance says

pub carried : (P : Graph → List (List Levels) → ℕ → Type 0) (s : Sought) (h : Graph) (f : List (List Levels)) (budget : ℕ) → s.instance ≡ h → s.fields ≡ f → s.budget ≡ budget →
    P s.instance s.fields s.budget → P h f budget
carried P s h f budget a b c x = subst (λ z. P z f budget) a (subst (λ z. P s.instance z budget) b (subst (P s.instance s.fields) c x))

module _ (g : Graph) (pr : Pruning) (h : Graph) (b : Part) (f : List (List Levels)) (budget : ℕ) (sound : IsGraph h) (r : IsReduction g pr h b) (rates : AreRated g h b f) (nodes : List Node)
    (log : Listing Node) (front : (t : Tree) (k : ℕ) → nodes ≡ take k (preorder None t) → log.items ≡ take k (preorder None (renumbered b t))) where
  pub ends_walked : Ends h (BeliefChoice f) budget nodes → IsWalked g budget (Empty log)
  ends_walked e = record {
    «pruning» = pr;
    pruned = h;
    back = b;
    weights = f;
    sound = sound;
    reduction = r;
    rated = rates;
    ends = record { nodes = nodes; ends = e; written = front_written b h (BeliefChoice f) nodes log.items [] e.walks front };
  }

  pub spends_walked : Spends h (BeliefChoice f) budget nodes → IsWalked g budget (Spent log)
  spends_walked e = record {
    «pruning» = pr;
    pruned = h;
    back = b;
    weights = f;
    sound = sound;
    reduction = r;
    rated = rates;
    ends = record { nodes = nodes; spends = e; written = front_written b h (BeliefChoice f) nodes log.items (e.task ∷ e.rest) e.walks front };
  }
