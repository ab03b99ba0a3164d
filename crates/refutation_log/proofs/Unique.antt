-- A list of nodes begins with at most one tree.
use Rattle.std.proofs.Common.{◌≡◌, ℕ, List, ◌∷◌, ◌++◌, Option, Some, sym, ap, refl, ◌∙◌, append_assoc, arith}
use Rattle.refutation_log.specs.declared.node.Node.{Node}
use Rattle.refutation_log.specs.Tree.{Tree, Children, leaf, branch, done, child, count_of, preorder, preorders}

pub record SameTree (s o : Option ℕ) (t u : Tree) (r q : List Node) : Type 0 where
  pub state : s ≡ o
  pub tree : t ≡ u
  pub rest : r ≡ q

pub record SameChildren (cs ds : Children) (r q : List Node) : Type 0 where
  pub children : cs ≡ ds
  pub rest : r ≡ q

-- equal lists have equal first nodes and equal rests
pub record SameParts (a b : Node) (r s : List Node) : Type 0 where
  pub state : a.state ≡ b.state
  pub kind : a.kind ≡ b.kind
  pub rest : r ≡ s

pub same_parts : (a b : Node) (r s : List Node) → a ∷ r ≡ b ∷ s → SameParts a b r s
same_parts a b r s e =
    let first : a ≡ b = cc in
    record { state = ap (λ (n : Node). n.state) first; kind = ap (λ (n : Node). n.kind) first; rest = cc }

mutual
  pub same_tree : (s o : Option ℕ) (t u : Tree) (r q : List Node) → preorder s t ++ r ≡ preorder o u ++ q → SameTree s o t u r q
  same_tree s o leaf leaf r q e =
      let parts = same_parts _ _ _ _ e in record { state = parts.state; tree = refl; rest = parts.rest }
  same_tree s o leaf (branch p cs) r q e = let k = (same_parts _ _ _ _ e).kind in absurd (cc)
  same_tree s o (branch p cs) leaf r q e = let k = (same_parts _ _ _ _ e).kind in absurd (cc)
  same_tree s o (branch p cs) (branch b ds) r q e =
      let parts = same_parts _ _ _ _ e in
      let k = parts.kind in
      let same = same_children cs ds r q (cc) parts.rest in
      let pb : p ≡ b = cc in
      let cd = same.children in
      record { state = parts.state; tree = cc; rest = same.rest }

  pub same_children : (cs ds : Children) (r q : List Node) → count_of cs ≡ count_of ds → preorders cs ++ r ≡ preorders ds ++ q → SameChildren cs ds r q
  same_children done done r q n e = record { children = refl; rest = e }
  same_children done (child j u ds) r q n e = absurd (omega arith)
  same_children (child i t cs) done r q n e = absurd (omega arith)
  same_children (child i t cs) (child j u ds) r q n e =
      let first = same_tree (Some i) (Some j) t u (preorders cs ++ r) (preorders ds ++ q) (sym (append_assoc (preorder (Some i) t) (preorders cs) r) ∙ e ∙ append_assoc (preorder (Some j) u) (preorders ds) q) in
      let same = same_children cs ds r q (omega arith) first.rest in
      let ij = first.state in
      let tu = first.tree in
      let cd = same.children in
      record { children = cc; rest = same.rest }
