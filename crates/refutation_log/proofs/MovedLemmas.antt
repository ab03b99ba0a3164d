-- Renumbering the list of a tree is listing the renumbered tree.
use Rattle.std.proofs.Common.{◌≡◌, ℕ, zero, suc, ◌+◌, ◌-◌, ◌<◌, ◌≤◌, Option, Some, None, List, [], ◌∷◌, ◌++◌, length, take, drop, get_or, cond, reverse, refl, sym, ◌∙◌, ap, arith}
use Rattle.std.proofs.lemmas.List.{append_assoc, append-nil, reverse-append}
use Rattle.std.proofs.lemmas.Bool.{lt-ltb, le-ltb}
use Rattle.std.proofs.Math.Seq.{drop-cons, drop-length}
use Rattle.version_graph.specs.Part.{Part, package_of, state_of}
use Rattle.refutation_log.specs.declared.node.Node.{Node}
use Rattle.refutation_log.specs.declared.node.NodeKind.TheVariants.{Leaf, Branch}
use Rattle.refutation_log.specs.Tree.{Tree, Children, leaf, branch, done, child, count_of, preorder, preorders}
use Rattle.refutation_log.specs.Renumbered.{renumbered, renumbered_each}
use Rattle.refutation_log.specs.Moved.{Waiting, open_at, opened, top_of, take_child, moved_state, moved_kind, moved_node, moved_nodes}

count_same : (b : Part) (p : ℕ) (cs : Children) → count_of (renumbered_each b p cs) ≡ count_of cs
count_same b p done = refl
count_same b p (child i t cs) = ap (λ n. n + 1) (count_same b p cs)

mutual
  pub moved_tree : (b : Part) (t : Tree) (s : Option ℕ) (st : Waiting) (rest : List Node) →
      moved_nodes b st (preorder s t ++ rest) ≡ preorder (moved_state b (top_of st) s) (renumbered b t) ++ moved_nodes b (take_child st) rest
  moved_tree b leaf s st rest = refl
  moved_tree b (branch p cs) s st rest =
      let head : ℕ → Node = λ n. record { state = moved_state b (top_of st) s; kind = Branch (package_of b p) n } in
      ap (λ xs. head (count_of cs) ∷ xs) (moved_children b p cs (take_child st) rest)
      ∙ ap (λ n. head n ∷ (preorders (renumbered_each b p cs) ++ moved_nodes b (take_child st) rest)) (sym (count_same b p cs))

  moved_children : (b : Part) (p : ℕ) (cs : Children) (st : Waiting) (rest : List Node) →
      moved_nodes b (open_at p (count_of cs) st) (preorders cs ++ rest) ≡ preorders (renumbered_each b p cs) ++ moved_nodes b st rest
  moved_children b p done st rest = refl
  moved_children b p (child i t cs) st rest =
      let n = count_of cs in
      let more : open_at p (n + 1) st ≡ (p, n + 1) ∷ st = ap (λ b. cond b ((p, n + 1) ∷ st) st) (lt-ltb 0 (n + 1) (omega arith)) in
      let less : (n + 1) - 1 ≡ n = omega arith in
      ap (λ w. moved_nodes b w ((preorder (Some i) t ++ preorders cs) ++ rest)) more
      ∙ ap (moved_nodes b ((p, n + 1) ∷ st)) (append_assoc (preorder (Some i) t) (preorders cs) rest)
      ∙ moved_tree b t (Some i) ((p, n + 1) ∷ st) (preorders cs ++ rest)
      ∙ ap (λ k. preorder (Some (state_of b p i)) (renumbered b t) ++ moved_nodes b (open_at p k st) (preorders cs ++ rest)) less
      ∙ ap (λ xs. preorder (Some (state_of b p i)) (renumbered b t) ++ xs) (moved_children b p cs st rest)
      ∙ sym (append_assoc (preorder (Some (state_of b p i)) (renumbered b t)) (preorders (renumbered_each b p cs)) (moved_nodes b st rest))

pub moved_whole : (b : Part) (nodes : List Node) (t : Tree) → nodes ≡ preorder None t → moved_nodes b [] nodes ≡ preorder None (renumbered b t)
moved_whole b nodes t e =
    ap (moved_nodes b []) (e ∙ sym (append-nil (preorder None t))) ∙ moved_tree b t None [] [] ∙ append-nil (preorder None (renumbered b t))

-- the front of a list is renumbered as the list is
moved_take : (b : Part) (k : ℕ) (st : Waiting) (nodes : List Node) → moved_nodes b st (take k nodes) ≡ take k (moved_nodes b st nodes)
moved_take b zero st nodes = refl
moved_take b (suc k) st [] = refl
moved_take b (suc k) st (x ∷ xs) = ap (λ l. moved_node b st x ∷ l) (moved_take b k (opened x.kind (take_child st)) xs)

pub moved_front : (b : Part) (nodes : List Node) (t : Tree) (k : ℕ) → nodes ≡ take k (preorder None t) → moved_nodes b [] nodes ≡ take k (preorder None (renumbered b t))
moved_front b nodes t k e = ap (moved_nodes b []) e ∙ moved_take b k [] (preorder None t) ∙ ap (take k) (moved_whole b (preorder None t) t refl)

-- one more node
pub moved_more : (b : Part) (all out new : List Node) (st more : Waiting) (k : ℕ) (x : Node) → new ≡ out ++ moved_node b st x ∷ [] → more ≡ opened x.kind (take_child st) →
    k < length all → x ≡ get_or all k x → out ++ moved_nodes b st (drop k all) ≡ moved_nodes b [] all → new ++ moved_nodes b more (drop (k + 1) all) ≡ moved_nodes b [] all
moved_more b all out new st more k x one next h e is =
    let y : Node = moved_node b st x in
    let after : suc k ≡ k + 1 = omega arith in
    (λ n. one n ++ moved_nodes b (next n) (drop (k + 1) all))
    ∙ append_assoc out (y ∷ []) (moved_nodes b (opened x.kind (take_child st)) (drop (k + 1) all))
    ∙ ap (λ n. out ++ moved_nodes b st (x ∷ drop n all)) (sym after)
    ∙ ap (λ v. out ++ moved_nodes b st (v ∷ drop (suc k) all)) e
    ∙ ap (λ xs. out ++ moved_nodes b st xs) (sym (drop-cons all k x h))
    ∙ is

-- no node
pub moved_start : (b : Part) (all out : List Node) (open_list : Waiting) → out ≡ [] → open_list ≡ [] → out ++ moved_nodes b (reverse open_list) (drop 0 all) ≡ moved_nodes b [] all
moved_start b all out open_list e f = λ n. e n ++ moved_nodes b (reverse (f n)) (drop 0 all)

-- all nodes
pub moved_end : (b : Part) (all out : List Node) (st : Waiting) (k : ℕ) → out ++ moved_nodes b st (drop k all) ≡ moved_nodes b [] all → k ≡ length all → out ≡ moved_nodes b [] all
moved_end b all out st k is e =
    sym (append-nil out) ∙ ap (λ xs. out ++ moved_nodes b st xs) (sym (drop-length all)) ∙ ap (λ n. out ++ moved_nodes b st (drop n all)) (sym e) ∙ is

-- ---- branches that wait, the innermost of which stands last

turned : (old : Waiting) (c : ℕ × ℕ) → reverse (old ++ c ∷ []) ≡ c ∷ reverse old
turned old c = reverse-append old (c ∷ [])

pub waits_more : (p n : ℕ) (old new : Waiting) → new ≡ old ++ (p, n) ∷ [] → 0 < n → reverse new ≡ open_at p n (reverse old)
waits_more p n old new e some =
    ap reverse e ∙ turned old (p, n) ∙ sym (ap (λ b. cond b ((p, n) ∷ reverse old) (reverse old)) (lt-ltb 0 n some))

pub waits_none : (p n : ℕ) (old : Waiting) → n ≤ 0 → reverse old ≡ open_at p n (reverse old)
waits_none p n old none = sym (ap (λ b. cond b ((p, n) ∷ reverse old) (reverse old)) (le-ltb 0 n none))

pub child_taken : (old mid new : Waiting) (c : ℕ × ℕ) → old ≡ mid ++ c ∷ [] → reverse new ≡ open_at c.0 (c.1 - 1) (reverse mid) → reverse new ≡ take_child (reverse old)
child_taken old mid new c e is = is ∙ sym (ap take_child (ap reverse e ∙ turned mid c))

pub top_taken : (old mid : Waiting) (c : ℕ × ℕ) → old ≡ mid ++ c ∷ [] → Some c.0 ≡ top_of (reverse old)
top_taken old mid c e = sym (ap top_of (ap reverse e ∙ turned mid c))

pub none_left : (old : Waiting) → length old ≡ 0 → old ≡ []
none_left [] e = refl
none_left (c ∷ cs) e = absurd (omega (arith, e))
