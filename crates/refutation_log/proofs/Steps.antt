-- What one node says of the tree, or of the children, that the nodes begin with.
use Rattle.std.proofs.Common.{◌≡◌, ℕ, ◌+◌, ◌<◌, ◌≤◌, Bool, true, false, not, ◌&&◌, ◌||◌, ◌==◌, List, [], ◌∷◌, ◌++◌, Option, Some, None, sym, ap, refl, ◌∙◌, append_assoc, subst, arith}
use Rattle.std.proofs.lemmas.Bool.{both_ways}
use Rattle.refutation_log.specs.declared.node.Node.{Node}
use Rattle.refutation_log.specs.declared.node.NodeKind.TheVariants.{Leaf, Branch}
use Rattle.version_graph.specs.Graph.{Graph, states}
use Rattle.version_graph.specs.Family.{Family, InClosure, HasEmpty, narrowed}
use Rattle.refutation_log.specs.Tree.{Tree, Children, leaf, branch, done, child, count_of, has_standing, preorder, preorders}
use Rattle.refutation_log.specs.Within.{RefutesIn, EachRefutesIn, choose}
use Rattle.refutation_log.specs.Found.{TreeAt, NoTreeAt, ChildrenAt, NoChildrenAt, ChildrenTake, BranchAt, NoBranchAt}
use Rattle.refutation_log.proofs.Unique.{same_tree, same_children, same_parts}

module _ (g : Graph) (st : ℕ → ℕ → ℕ) (d : Family) (ch : ℕ → Bool) where
  -- a tree has a node
  pub no_tree_at_end : NoTreeAt g st d ch []
  no_tree_at_end = record { none = λ rest found. at_end found.state found.tree rest found.listed }
    where
      at_end : (s : Option ℕ) (t : Tree) (rest : List Node) → [] ≡ preorder s t ++ rest → ⊥
      at_end s leaf rest e = absurd (cc)
      at_end s (branch p cs) rest e = absurd (cc)

  pub leaf_found : (node : Node) (rest : List Node) → node.kind ≡ Leaf → HasEmpty g d → TreeAt g st d ch (node ∷ rest) rest
  leaf_found node rest k e = record {
    state = node.state;
    tree = leaf;
    refutes = e;
    listed = λ x. record { state = node.state; kind = k x } ∷ rest;
  }

  -- what a tree that begins with a leaf's node is
  tree_of_leaf : (node : Node) (rest after : List Node) → node.kind ≡ Leaf → (s : Option ℕ) (t : Tree) → node ∷ rest ≡ preorder s t ++ after → t ≡ leaf
  tree_of_leaf node rest after k s leaf e = refl
  tree_of_leaf node rest after k s (branch p cs) e = let h = (same_parts _ _ _ _ e).kind in absurd (cc)

  pub leaf_refused : (node : Node) (rest : List Node) → node.kind ≡ Leaf → (HasEmpty g d → ⊥) → NoTreeAt g st d ch (node ∷ rest)
  leaf_refused node rest k h = record {
    none = λ after found.
        h (subst (RefutesIn g st d ch) (tree_of_leaf node rest after k found.state found.tree found.listed) found.refutes);
  }

module _ (g : Graph) (st : ℕ → ℕ → ℕ) (d : Family) (ch : ℕ → Bool) where
  pub branch_found : (node : Node) (rest after : List Node) (p n : ℕ) → node.kind ≡ Branch p n → BranchAt g st d ch p n rest after → TreeAt g st d ch (node ∷ rest) after
  branch_found node rest after p n k b =
      let c = b.found in
      let kind : node.kind ≡ Branch p (count_of c.children) = k ∙ ap (Branch p) (sym c.count) in
      record {
        state = node.state;
        tree = branch p c.children;
        refutes = (b.known, b.free, b.covered, c.refute);
        listed = λ x. record { state = node.state; kind = kind x } ∷ c.listed x;
      }

  branch_parts : (node : Node) (rest after : List Node) (p n : ℕ) → node.kind ≡ Branch p n → (s : Option ℕ) (t : Tree) → node ∷ rest ≡ preorder s t ++ after → RefutesIn g st d ch t → BranchAt g st d ch p n rest after
  branch_parts node rest after p n k s leaf e r = let h = (same_parts _ _ _ _ e).kind in absurd (cc)
  branch_parts node rest after p n k s (branch q cs) e r =
      let parts = same_parts _ _ _ _ e in
      let h = parts.kind in
      let qp : q ≡ p = cc in
      let count : count_of cs ≡ n = cc in
      subst (λ a. BranchAt g st d ch a n rest after) qp (record {
        known = r.0;
        free = r.1;
        covered = r.2;
        found = record { children = cs; count = count; listed = parts.rest; refute = r.3 };
      })

  pub branch_refused : (node : Node) (rest : List Node) (p n : ℕ) → node.kind ≡ Branch p n → NoBranchAt g st d ch p n rest → NoTreeAt g st d ch (node ∷ rest)
  branch_refused node rest p n k h = record {
    none = λ after found.
        h.none after (branch_parts node rest after p n k found.state found.tree found.listed found.refutes);
  }

  -- children that leave out a state of the closed domain make no such branch
  pub uncovered : (p n i : ℕ) (nodes rest : List Node) (found : ChildrenAt g st d (choose ch p) p n nodes rest) → InClosure g d p i → has_standing found.children (st p) (st p i) ≡ false → NoBranchAt g st d ch p n nodes
  uncovered p n i nodes rest found k missing = record {
    none = λ after b.
        let same = same_children found.children b.found.children rest after (found.count ∙ sym b.found.count) (sym found.listed ∙ b.found.listed) in
        let covered = b.covered.covers i k in
        both_ways _ missing (ap (λ cs. has_standing cs (st p) (st p i)) same.children ∙ covered);
  }

-- the state of the first node of a tree
pub first_state : (node : Node) (rest after : List Node) (s : Option ℕ) (t : Tree) → node ∷ rest ≡ preorder s t ++ after → node.state ≡ s
first_state node rest after s leaf e = (same_parts _ _ _ _ e).state
first_state node rest after s (branch p cs) e = (same_parts _ _ _ _ e).state

-- the first of the children, and the others
record FirstChild (g : Graph) (st : ℕ → ℕ → ℕ) (d : Family) (ch : ℕ → Bool) (p n : ℕ) (node : Node) (nodes rest : List Node) : Type 0 where
  i : ℕ
  state : node.state ≡ Some i
  known : i < states g p
  between : List Node
  tree : TreeAt g st (narrowed d p i) ch (node ∷ nodes) between
  others : ChildrenAt g st d ch p n between rest

module _ (g : Graph) (st : ℕ → ℕ → ℕ) (d : Family) (ch : ℕ → Bool) (p n : ℕ) where
  pub none_left : (nodes : List Node) (missing : ℕ → Bool) → ChildrenTake g st d ch p 0 nodes nodes missing missing
  none_left nodes missing = record {
    found = record { children = done; count = refl; listed = refl; refute = tt };
    left_is = λ i. sym (and-true (missing i));
  }
    where
      and-true : (b : Bool) → b && not false ≡ b
      and-true true = refl
      and-true false = refl

  first_child : (node : Node) (nodes rest : List Node) (cs : Children) → count_of cs ≡ n + 1 → node ∷ nodes ≡ preorders cs ++ rest → EachRefutesIn g st d ch p cs → FirstChild g st d ch p n node nodes rest
  first_child node nodes rest done c e r = absurd (omega arith)
  first_child node nodes rest (child i t cs) c e r =
      let listed : node ∷ nodes ≡ preorder (Some i) t ++ (preorders cs ++ rest) = e ∙ append_assoc (preorder (Some i) t) (preorders cs) rest in
      record {
        i = i;
        state = first_state node nodes (preorders cs ++ rest) (Some i) t listed;
        known = r.0;
        between = preorders cs ++ rest;
        tree = record { state = Some i; tree = t; listed = listed; refutes = r.1 };
        others = record { children = cs; count = omega arith; listed = refl; refute = r.2 };
      }

  pub no_child_at_end : NoChildrenAt g st d ch p (n + 1) []
  no_child_at_end = record { none = λ rest found. at_end rest found.children found.count found.listed }
    where
      at_end : (rest : List Node) (cs : Children) → count_of cs ≡ n + 1 → [] ≡ preorders cs ++ rest → ⊥
      at_end rest done c e = absurd (omega arith)
      at_end rest (child i leaf cs) c e = absurd (cc)
      at_end rest (child i (branch q ds) cs) c e = absurd (cc)

  first_of_found : (node : Node) (nodes rest : List Node) → ChildrenAt g st d ch p (n + 1) (node ∷ nodes) rest → FirstChild g st d ch p n node nodes rest
  first_of_found node nodes rest found = first_child node nodes rest found.children found.count found.listed found.refute

  pub no_child_without_state : (node : Node) (nodes : List Node) → node.state ≡ None → NoChildrenAt g st d ch p (n + 1) (node ∷ nodes)
  no_child_without_state node nodes s = record {
    none = λ rest found.
        let first = first_of_found node nodes rest found in
        let state = first.state in
        absurd (cc);
  }

  pub no_child_past_states : (node : Node) (nodes : List Node) (i : ℕ) → node.state ≡ Some i → states g p ≤ i → NoChildrenAt g st d ch p (n + 1) (node ∷ nodes)
  no_child_past_states node nodes i s past = record {
    none = λ rest found.
        let first = first_of_found node nodes rest found in
        let state = first.state in
        let same : first.i ≡ i = cc in
        let known = first.known in
        absurd (omega arith);
  }

  pub no_child_that_refutes : (node : Node) (nodes : List Node) (i : ℕ) → node.state ≡ Some i → NoTreeAt g st (narrowed d p i) ch (node ∷ nodes) → NoChildrenAt g st d ch p (n + 1) (node ∷ nodes)
  no_child_that_refutes node nodes i s no_tree = record {
    none = λ rest found.
        let first = first_of_found node nodes rest found in
        let state = first.state in
        let same : first.i ≡ i = cc in
        no_tree.none first.between (subst (λ a. TreeAt g st (narrowed d p a) ch (node ∷ nodes) first.between) same first.tree);
  }

  pub no_child_after : (node : Node) (nodes after : List Node) (i : ℕ) → TreeAt g st (narrowed d p i) ch (node ∷ nodes) after → NoChildrenAt g st d ch p n after → NoChildrenAt g st d ch p (n + 1) (node ∷ nodes)
  no_child_after node nodes after i tree no_others = record {
    none = λ rest found.
        let first = first_of_found node nodes rest found in
        let same = same_tree tree.state first.tree.state tree.tree first.tree.tree after first.between (sym tree.listed ∙ first.tree.listed) in
        no_others.none rest (subst (λ between. ChildrenAt g st d ch p n between rest) (sym same.rest) first.others);
  }

  pub child_found : (node : Node) (nodes after rest : List Node) (i : ℕ) (before between left : ℕ → Bool) → node.state ≡ Some i → i < states g p → TreeAt g st (narrowed d p i) ch (node ∷ nodes) after → ((j : ℕ) → between j ≡ before j && not (st p i == j)) → ChildrenTake g st d ch p n after rest between left → ChildrenTake g st d ch p (n + 1) (node ∷ nodes) rest before left
  child_found node nodes after rest i before between left s known tree takes others =
      let c = others.found in
      let state : tree.state ≡ Some i = sym (first_state node nodes after tree.state tree.tree tree.listed) ∙ s in
      let first : node ∷ nodes ≡ preorder (Some i) tree.tree ++ after = tree.listed ∙ ap (λ o. preorder o tree.tree ++ after) state in
      record {
        found = record {
          children = child i tree.tree c.children;
          count = ap (λ m. m + 1) c.count;
          listed = first ∙ ap (λ l. preorder (Some i) tree.tree ++ l) c.listed ∙ sym (append_assoc (preorder (Some i) tree.tree) (preorders c.children) rest);
          refute = (known, tree.refutes, c.refute);
        };
        left_is = λ j. others.left_is j ∙ ap (λ b. b && not (has_standing c.children (st p) j)) (takes j) ∙ both_taken (before j) (st p i == j) (has_standing c.children (st p) j);
      }
    where
      both_taken : (a b c : Bool) → a && not b && not c ≡ a && not (b || c)
      both_taken true true c = refl
      both_taken true false c = refl
      both_taken false true c = refl
      both_taken false false c = refl
