-- What the whole list of nodes is, from what its first tree is.
use Rattle.std.proofs.Common.{◌≡◌, ◌↔◌, ℕ, ◌<◌, Bool, true, false, not, ◌==◌, IsTrue, is_some, List, [], ◌∷◌, ◌++◌, Option, Some, None, length, sym, ap, refl, ◌∙◌, subst, append-nil, arith}
use Rattle.std.proofs.lemmas.Bool.{eqb-true, eq-eqb}
use Rattle.refutation_log.specs.declared.node.Node.{Node}
use Rattle.version_graph.specs.Graph.{Graph, packages}
use Rattle.version_graph.specs.Family.{Family, under, IsBelow}
use Rattle.graph_pruning.specs.Pruned.{Pruning, IsPruningOf, SamePruning, OnePruning}
use Rattle.refutation_log.specs.Tree.{Tree, leaf, branch, preorder}
use Rattle.refutation_log.specs.Refutes.{IsRefutation, Refutes}
use Rattle.refutation_log.specs.Within.{RefutesIn, is_shut}
use Rattle.refutation_log.specs.Found.{TreeAt}
use Rattle.refutation_log.proofs.Below.{refutes_below, in_domains, from_domains}
use Rattle.refutation_log.proofs.Unique.{same_tree}
use Rattle.refutation_log.proofs.Steps.{first_state}

nothing_left : (rest : List Node) → length rest ≡ 0 → rest ≡ []
nothing_left [] e = refl
nothing_left (n ∷ ns) e = absurd (omega arith)

pub whole_when_found : (g : Graph) (st : ℕ → ℕ → ℕ) (d : Family) (ch : ℕ → Bool) (nodes rest : List Node) (r : Bool) → TreeAt g st d ch nodes rest → r ≡ (length rest == 0) → IsTrue r ↔ TreeAt g st d ch nodes []
whole_when_found g st d ch nodes rest r t is = (
  (λ e. subst (TreeAt g st d ch nodes) (nothing_left rest (eqb-true _ _ (sym is ∙ e))) t),
  (λ whole. let same = same_tree t.state whole.state t.tree whole.tree rest [] (sym t.listed ∙ whole.listed) in
      is ∙ eq-eqb _ _ (ap length same.rest)),
)

pub no_refutation_of_nothing : (g : Graph) (nodes : List Node) → length nodes ≡ 0 → IsRefutation g nodes → ⊥
no_refutation_of_nothing g nodes e r = go r.tree (ap length r.listed)
  where
    go : (t : Tree) → length nodes ≡ length (preorder None t) → ⊥
    go leaf h = absurd (omega (arith, h, e))
    go (branch p cs) h = absurd (omega (arith, h, e))

no_state : (o : Option ℕ) → is_some o ≡ false → o ≡ None
no_state None e = refl
no_state (Some s) e = absurd (cc)

listed_whole : (t : Tree) (nodes : List Node) (s : Option ℕ) → nodes ≡ preorder s t ++ [] → nodes ≡ preorder s t
listed_whole t nodes s e = e ∙ append-nil (preorder s t)

pub no_refutation_with_state : (g : Graph) (node : Node) (nodes rest : List Node) → nodes ≡ node ∷ rest → is_some node.state ≡ true → IsRefutation g nodes → ⊥
no_refutation_with_state g node nodes rest e some r =
    let state = first_state node rest [] None r.tree (sym e ∙ r.listed ∙ sym (append-nil (preorder None r.tree))) in
    let none : is_some node.state ≡ false = ap is_some state in
    absurd (cc)

-- two prunings that agree are one
one_record : (a b : Pruning) → SamePruning a b → a ≡ b
one_record a b s = λ x. record { closed = λ p i. s.domains p i x; kept = λ p. s.packages p x; standing = λ p i. s.classes p i x }

-- one whole tree that refutes within the domains of the empty prefix, where branches may be on the kept packages
pub whole_is_refutation : OnePruning → (g : Graph) (pr : Pruning) (st : ℕ → ℕ → ℕ) (d : Family) (ch : ℕ → Bool) (node : Node) (nodes rest : List Node) →
    IsPruningOf g pr → pr.standing ≡ st → ((p : ℕ) → p < packages g → ch p ≡ not (pr.kept p)) → nodes ≡ node ∷ rest → is_some node.state ≡ false →
    IsBelow g d (under g []) → IsBelow g (under g []) d → TreeAt g st d ch nodes [] ↔ IsRefutation g nodes
whole_is_refutation law g pr st d ch node nodes rest prunes classes free e none inner outer = (
  (λ t.
      let state : t.state ≡ None = sym (first_state node rest [] t.state t.tree (sym e ∙ t.listed)) ∙ no_state _ none in
      let refutes = refutes_below g st (under g []) d ch (is_shut pr []) outer (record { free = λ q known h. sym (free q known) ∙ h }) t.tree t.refutes in
      record {
        pruning = pr;
        prunes = prunes;
        tree = t.tree;
        refutes = from_domains g pr [] t.tree (subst (λ s. RefutesIn g s (under g []) (is_shut pr []) t.tree) (sym classes) refutes);
        listed = listed_whole t.tree nodes t.state t.listed ∙ ap (λ s. preorder s t.tree) state;
      }),
  (λ r.
      let same : r.pruning ≡ pr = one_record r.pruning pr (law g r.pruning pr r.prunes prunes) in
      let refutes = in_domains g pr [] r.tree (subst (λ a. Refutes g a [] r.tree) same r.refutes) in
      let within = subst (λ s. RefutesIn g s (under g []) (is_shut pr []) r.tree) classes refutes in
      record {
        state = None;
        tree = r.tree;
        listed = r.listed ∙ sym (append-nil (preorder None r.tree));
        refutes = refutes_below g st d (under g []) (is_shut pr []) ch inner (record { free = λ q known h. free q known ∙ h }) r.tree within;
      }),
)
