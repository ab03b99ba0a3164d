-- The nodes of a walk, wherever it is cut, are the front of a tree's list.
use Rattle.std.proofs.Common.{◌≡◌, ℕ, suc, List, [], ◌∷◌, ◌++◌, length, take, refl, sym, ◌∙◌, ap, subst, arith, Some, None}
use Rattle.std.proofs.Math.Seq.{take-append_seam}
use Rattle.std.proofs.lemmas.List.{append_assoc, append-nil}
use Rattle.version_graph.specs.Graph.{Graph}
use Rattle.version_graph.specs.Part.{Part}
use Rattle.refutation_log.specs.Tree.{Tree, Children, leaf, branch, done, child, count_of, preorder, preorders}
use Rattle.refutation_log.specs.Refutes.{Prefix}
use Rattle.refutation_log.specs.Renumbered.{renumbered}
use Rattle.refutation_log.specs.Moved.{Waiting, opened, take_child, moved_nodes}
use Rattle.refutation_log.specs.declared.node.Node.{Node}
use Rattle.refutation_log.specs.declared.node.NodeKind.TheVariants.{Branch}
use Rattle.refutation_log.proofs.MovedLemmas.{moved_front, moved_whole}
use Rattle.decimation_repair.specs.Walk.{Task, Choice, root, behind, Visits, dead, open_at, Walks}
use Rattle.instance_search.specs.Written.{IsWritten}

-- a forest: for each task a tree, one after another in pre-order
abbrev Grown : List Task → List Node → Type 0
Grown [] nodes = nodes ≡ []
Grown (t ∷ ts) nodes = (w : Tree) × (more : List Node) × (nodes ≡ preorder t.state w ++ more) × Grown ts more

-- the trees of the first tasks become the children of a branch
record Grafted (order : List ℕ) (us : List Task) (nodes : List Node) : Type 0 where
  children : Children
  more : List Node
  listed : nodes ≡ preorders children ++ more
  count : count_of children ≡ length order
  rest : Grown us more

graft : (prefix : Prefix) (p : ℕ) (order : List ℕ) (us : List Task) (nodes : List Node) → Grown (behind prefix p order ++ us) nodes → Grafted order us nodes
graft prefix p [] us nodes f = record { children = done; more = nodes; listed = refl; count = refl; rest = f }
graft prefix p (i ∷ is) us nodes (w, more, listed, f) =
    let r = graft prefix p is us more f in
    record {
      children = child i w r.children;
      more = r.more;
      listed = listed ∙ ap (λ l. preorder (Some i) w ++ l) r.listed ∙ sym (append_assoc (preorder (Some i) w) (preorders r.children) r.more);
      count = (let c = r.count in omega (arith, c));
      rest = r.rest;
    }

grow-step : (g : Graph) (choose : Choice) (t : Task) (x : Node) (cs us : List Task) (xs : List Node) → Visits g choose t x cs → Grown (cs ++ us) xs → Grown (t ∷ us) (x ∷ xs)
grow-step g choose t x cs us xs (dead v) f = (leaf, xs, ap (λ n. n ∷ xs) v.node_is, subst (λ z. Grown (z ++ us) xs) v.children_are f)
grow-step g choose t x cs us xs (open_at v) f =
    let r = graft t.prefix v.place v.order us xs (subst (λ z. Grown (z ++ us) xs) v.children_are f) in
    let node : x ≡ record { state = t.state; kind = Branch v.place (count_of r.children) } =
    v.node_is ∙ ap (λ n. record { state = t.state; kind = Branch v.place n }) (sym r.count) in (
      branch v.place r.children,
      r.more,
      ap (λ n. n ∷ xs) node ∙ ap (λ l. record { state = t.state; kind = Branch v.place (count_of r.children) } ∷ l) r.listed,
      r.rest,
    )

-- a leaf for each task that is left
abbrev leaves : List Task → List Node
leaves [] = []
leaves (t ∷ ts) = preorder t.state leaf ++ leaves ts

grown-leaves : (ts : List Task) → Grown ts (leaves ts)
grown-leaves [] = refl
grown-leaves (t ∷ ts) = (leaf, leaves ts, refl, grown-leaves ts)

grow : (g : Graph) (choose : Choice) (nodes : List Node) (ts left : List Task) → Walks g choose ts nodes left → Grown ts (nodes ++ leaves left)
grow g choose [] ts left e = subst (λ z. Grown z (leaves left)) (sym e) (grown-leaves left)
grow g choose (x ∷ xs) ts left (t, us, cs, e, v, w) =
    subst (λ z. Grown z (x ∷ (xs ++ leaves left))) (sym e) (grow-step g choose t x cs us (xs ++ leaves left) v (grow g choose xs (cs ++ us) left w))

pub walk_front : (g : Graph) (choose : Choice) (nodes : List Node) (left : List Task) → Walks g choose (root ∷ []) nodes left → (t : Tree) × (nodes ≡ take (length nodes) (preorder None t))
walk_front g choose nodes left w =
    let f = grow g choose nodes (root ∷ []) left w in (
      f.0,
      sym (take-append_seam nodes (leaves left))
          ∙ ap (take (length nodes)) (f.2 ∙ ap (λ l. preorder None f.0 ++ l) f.3 ∙ append-nil (preorder None f.0)),
    )

-- ---- what is written

-- nodes of a walk are written where each front of a tree is
pub front_written : (b : Part) (g : Graph) (choose : Choice) (nodes log : List Node) (left : List Task) → Walks g choose (root ∷ []) nodes left →
    ((t : Tree) (k : ℕ) → nodes ≡ take k (preorder None t) → log ≡ take k (preorder None (renumbered b t))) → IsWritten b nodes log
front_written b g choose nodes log left w f =
    let t = walk_front g choose nodes left w in
    record { tree = t.0; count = length nodes; walked = t.1; written = f t.0 (length nodes) t.1 }

pub written_moved : (b : Part) (nodes log : List Node) → IsWritten b nodes log → log ≡ moved_nodes b [] nodes
written_moved b nodes log w = w.written ∙ sym (moved_front b nodes w.tree w.count w.walked)

-- the log of a whole tree
pub written_whole : (b : Part) (nodes log : List Node) (t : Tree) → IsWritten b nodes log → nodes ≡ preorder None t → log ≡ preorder None (renumbered b t)
written_whole b nodes log t w e = written_moved b nodes log w ∙ moved_whole b nodes t e

moved-length : (b : Part) (st : Waiting) (nodes : List Node) → length (moved_nodes b st nodes) ≡ length nodes
moved-length b st [] = refl
moved-length b st (x ∷ xs) = ap suc (moved-length b (opened x.kind (take_child st)) xs)

pub written_length : (b : Part) (nodes log : List Node) → IsWritten b nodes log → length log ≡ length nodes
written_length b nodes log w = ap length (written_moved b nodes log w) ∙ moved-length b [] nodes
