-- What a step of the check finds, from what the steps below it found.
use Rattle.std.proofs.Common.{◌≡◌, ℕ, ◌+◌, ◌<◌, ◌≤◌, Bool, true, false, not, ◌&&◌, ◌||◌, ◌==◌, List, [], ◌∷◌, ◌++◌, Option, Some, None, MatchOption, length, length-append, get_or, set, slice_index_or, sym, ap, refl, ◌∙◌, subst, arith}
use Rattle.std.proofs.lemmas.Bool.{both_ways, and_from, eqb-true, eqb-false, eq-eqb, ne_eqb}
use Rattle.std.proofs.lemmas.List.{get_or-set_same, get_or-set_other, set-get_or}
use Rattle.std.proofs.Math.Seq.{set-set}
use Rattle.refutation_log.specs.declared.node.Node.{Node}
use Rattle.refutation_log.specs.declared.node.NodeKind.TheVariants.{Branch}
use Rattle.version_graph.specs.Graph.{Graph, packages, is_state}
use Rattle.version_graph.specs.Family.{Family, InClosure, narrowed, IsBelow}
use Rattle.refutation_log.specs.Tree.{preorder}
use Rattle.refutation_log.specs.Within.{choose}
use Rattle.refutation_log.specs.Found.{TreeAt, NoTreeAt, NoChildrenAt, ChildrenTake, BranchAt, NoBranchAt}
use Rattle.refutation_log.proofs.Below.{refutes_within}
use Rattle.refutation_log.proofs.Steps.{branch_found, branch_refused, no_tree_at_end, no_child_at_end, uncovered}

pub tree_within : (g : Graph) (st : ℕ → ℕ → ℕ) (inner outer : Family) (ch : ℕ → Bool) (nodes rest : List Node) → IsBelow g inner outer → TreeAt g st outer ch nodes rest → TreeAt g st inner ch nodes rest
tree_within g st inner outer ch nodes rest b t = record {
  state = t.state;
  tree = t.tree;
  listed = t.listed;
  refutes = refutes_within g st inner outer ch b t.tree t.refutes;
}

pub no_tree_within : (g : Graph) (st : ℕ → ℕ → ℕ) (inner outer : Family) (ch : ℕ → Bool) (nodes : List Node) → IsBelow g outer inner → NoTreeAt g st outer ch nodes → NoTreeAt g st inner ch nodes
no_tree_within g st inner outer ch nodes b n = record { none = λ rest t. n.none rest (tree_within g st outer inner ch nodes rest b t) }

pub no_tree_without_node : (g : Graph) (st : ℕ → ℕ → ℕ) (d : Family) (ch : ℕ → Bool) (nodes : List Node) → length nodes ≡ 0 → NoTreeAt g st d ch nodes
no_tree_without_node g st d ch [] e = no_tree_at_end g st d ch
no_tree_without_node g st d ch (n ∷ ns) e = absurd (omega arith)

pub tree_of_branch : {X : Type 0} (now : X → List Node) (g : Graph) (st : ℕ → ℕ → ℕ) (d : Family) (ch : ℕ → Bool) (node : Node) (nodes rest : List Node) (p n : ℕ) (o : Option X) → nodes ≡ node ∷ rest → node.kind ≡ Branch p n → MatchOption o (NoBranchAt g st d ch p n rest) (λ x. BranchAt g st d ch p n rest (now x)) → MatchOption o (NoTreeAt g st d ch nodes) (λ x. TreeAt g st d ch nodes (now x))
tree_of_branch now g st d ch node nodes rest p n None e k none = rw e (branch_refused g st d ch node rest p n k none)
tree_of_branch now g st d ch node nodes rest p n (Some x) e k b = rw e (branch_found g st d ch node rest (now x) p n k b)

-- what was found within smaller closed domains
pub found_within : {X : Type 0} (now : X → List Node) (g : Graph) (st : ℕ → ℕ → ℕ) (outer inner : Family) (ch : ℕ → Bool) (nodes : List Node) (o : Option X) → IsBelow g inner outer → IsBelow g outer inner → MatchOption o (NoTreeAt g st inner ch nodes) (λ x. TreeAt g st inner ch nodes (now x)) → MatchOption o (NoTreeAt g st outer ch nodes) (λ x. TreeAt g st outer ch nodes (now x))
found_within now g st outer inner ch nodes None b a none = no_tree_within g st outer inner ch nodes b none
found_within now g st outer inner ch nodes (Some x) b a t = tree_within g st outer inner ch nodes (now x) a t

pub no_child_without_node : (g : Graph) (st : ℕ → ℕ → ℕ) (d : Family) (ch : ℕ → Bool) (p n : ℕ) (nodes : List Node) → length nodes ≡ 0 → NoChildrenAt g st d ch p (n + 1) nodes
no_child_without_node g st d ch p n [] e = no_child_at_end g st d ch p n
no_child_without_node g st d ch p n (x ∷ xs) e = absurd (omega arith)

-- ---- marks

-- the same domains, marks and nodes under other names
pub tree_same : (g : Graph) (st : ℕ → ℕ → ℕ) (d e : Family) (ch dh : ℕ → Bool) (p i : ℕ) (nodes others rest : List Node) → d ≡ e → ch ≡ dh → nodes ≡ others → TreeAt g st (narrowed d p i) ch nodes rest → TreeAt g st (narrowed e p i) dh others rest
tree_same g st d e ch dh p i nodes others rest de cd same t =
    subst (λ f. TreeAt g st (narrowed f p i) dh others rest) de (subst (λ h. TreeAt g st (narrowed d p i) h others rest) cd (subst (λ ns. TreeAt g st (narrowed d p i) ch ns rest) same t))

pub no_tree_same : (g : Graph) (st : ℕ → ℕ → ℕ) (d e : Family) (ch dh : ℕ → Bool) (p i : ℕ) (nodes others : List Node) → d ≡ e → ch ≡ dh → nodes ≡ others → NoTreeAt g st (narrowed d p i) ch nodes → NoTreeAt g st (narrowed e p i) dh others
no_tree_same g st d e ch dh p i nodes others de cd same n = record {
  none = λ rest t.
      n.none rest (tree_same g st e d dh ch p i others nodes rest (sym de) (sym cd) (sym same) t);
}

pub tree_shorter : (g : Graph) (st : ℕ → ℕ → ℕ) (d : Family) (ch : ℕ → Bool) (nodes rest : List Node) → TreeAt g st d ch nodes rest → length rest ≤ length nodes
tree_shorter g st d ch nodes rest t =
    let e : length nodes ≡ length (preorder t.state t.tree ++ rest) = ap length t.listed in
    omega (arith, e, length-append (preorder t.state t.tree) rest)

-- ---- states that no child has yet

-- crossing off a state of a chosen package leaves the other packages whole
pub still_whole : (ch : ℕ → Bool) (before after : Family) (p i : ℕ) → ch p ≡ true → ((q j : ℕ) → after q j ≡ before q j && not (is_state q j p i)) → (q j : ℕ) → ch q ≡ false → before q j ≡ true → after q j ≡ true
still_whole ch before after p i chosen off q j free there = off q j ∙ go (q == p) refl
  where
    go : (b : Bool) → q == p ≡ b → before q j && not (b && j == i) ≡ true
    go true same = let at : q ≡ p = eqb-true _ _ same in absurd (both_ways _ free (rw at chosen))
    go false apart = and_from _ _ there refl

pub crossed_off : (before : Family) (p i j : ℕ) → before p j && not (is_state p j p i) ≡ before p j && not (i == j)
crossed_off before p i j = ap (λ b. before p j && not b) (rw (eq-eqb p p refl) (turned (j == i) refl))
  where
    turned : (b : Bool) → j == i ≡ b → true && b ≡ i == j
    turned true e = sym (eq-eqb _ _ (sym (eqb-true _ _ e)))
    turned false e = sym (ne_eqb _ _ (λ same. eqb-false _ _ e (sym same)))

-- marking one package more
pub marks_set : (xs : List Bool) (p : ℕ) → p < length xs → (λ q. slice_index_or (set xs p true) q false) ≡ choose (λ q. slice_index_or xs q false) p
marks_set xs p lt = λ x q. each q x
  where
    or-false' : (b : Bool) → b ≡ b || false
    or-false' true = refl
    or-false' false = refl

    or-true' : (b : Bool) → true ≡ b || true
    or-true' true = refl
    or-true' false = refl

    go : (q : ℕ) (b : Bool) → p == q ≡ b → get_or (set xs p true) q false ≡ get_or xs q false || b
    go q true same = let at : p ≡ q = eqb-true _ _ same in
        subst (λ k. get_or (set xs p true) k false ≡ get_or xs k false || true) at (get_or-set_same xs p true false lt ∙ or-true' _)
    go q false apart = get_or-set_other xs p q true false (λ e. eqb-false _ _ apart (sym e)) ∙ or-false' _

    each : (q : ℕ) → slice_index_or (set xs p true) q false ≡ choose (λ q. slice_index_or xs q false) p q
    each q = go q (p == q) refl

-- a mark that was taken back
pub marks_back : (xs ys : List Bool) (p : ℕ) → slice_index_or xs p false ≡ false → ys ≡ set xs p true → set ys p false ≡ xs
marks_back xs ys p free e =
    ap (λ zs. set zs p false) e ∙ set-set xs p true false ∙ ap (set xs p) (sym free) ∙ set-get_or xs p false

-- ---- branches

taken_last : (a b : Bool) → a ≡ true → false ≡ a && not b → b ≡ true
taken_last true true h e = refl
taken_last true false h e = e
taken_last false b h e = absurd (cc)

left_over : (a b : Bool) → true ≡ a && not b → b ≡ false
left_over true true e = e
left_over true false e = refl
left_over false b e = absurd (cc)

module _ (g : Graph) (st : ℕ → ℕ → ℕ) (d : Family) (ch : ℕ → Bool) (p n : ℕ) (nodes : List Node) where
  pub no_branch : NoChildrenAt g st d (choose ch p) p n nodes → NoBranchAt g st d ch p n nodes
  no_branch none = record { none = λ rest b. none.none rest b.found }

  pub whole_branch : (rest : List Node) (before after : ℕ → Bool) → p < packages g → ch p ≡ false → ((i : ℕ) → InClosure g d p i → before (st p i) ≡ true) → ((i : ℕ) → InClosure g d p i → after (st p i) ≡ false) → ChildrenTake g st d (choose ch p) p n nodes rest before after → BranchAt g st d ch p n nodes rest
  whole_branch rest before after known free full taken c = record {
    known = known;
    free = free;
    found = c.found;
    covered = record { covers = λ i k. taken_last (before (st p i)) _ (full i k) (sym (taken i k) ∙ c.left_is (st p i)) };
  }

  pub part_of_branch : (rest : List Node) (before after : ℕ → Bool) (i : ℕ) → InClosure g d p i → after (st p i) ≡ true → ChildrenTake g st d (choose ch p) p n nodes rest before after → NoBranchAt g st d ch p n nodes
  part_of_branch rest before after i k missing c =
      uncovered g st d ch p n i nodes rest c.found k (left_over (before (st p i)) _ (sym missing ∙ c.left_is (st p i)))

  -- what the children found, where they cover the closed domain
  pub branch_when_covered : {X : Type 0} (now : X → List Node) (before after : ℕ → Bool) (o : Option X) → p < packages g → ch p ≡ false → ((i : ℕ) → InClosure g d p i → before (st p i) ≡ true) → ((i : ℕ) → InClosure g d p i → after (st p i) ≡ false) → MatchOption o (NoChildrenAt g st d (choose ch p) p n nodes) (λ x. ChildrenTake g st d (choose ch p) p n nodes (now x) before after) → MatchOption o (NoBranchAt g st d ch p n nodes) (λ x. BranchAt g st d ch p n nodes (now x))
  branch_when_covered now before after None known free full taken none = no_branch none
  branch_when_covered now before after (Some x) known free full taken c = whole_branch (now x) before after known free full taken c

  pub branch_when_uncovered : {X : Type 0} (now : X → List Node) (before after : ℕ → Bool) (o : Option X) (i : ℕ) → InClosure g d p i → after (st p i) ≡ true → MatchOption o (NoChildrenAt g st d (choose ch p) p n nodes) (λ x. ChildrenTake g st d (choose ch p) p n nodes (now x) before after) → NoBranchAt g st d ch p n nodes
  branch_when_uncovered now before after None i k missing none = no_branch none
  branch_when_uncovered now before after (Some x) i k missing c = part_of_branch (now x) before after i k missing c
