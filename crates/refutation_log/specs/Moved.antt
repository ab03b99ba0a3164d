-- How a list of nodes is renumbered in one pass. The branches that wait for a child are kept, the innermost first, each as
-- its package and how many of its children are still to come.
use Rattle.std.specs.Prelude.{ℕ, ◌-◌, nat_lt, if◌then◌else◌, List, [], ◌∷◌, Option, Some, None}
use Rattle.version_graph.specs.Part.{Part, package_of, state_of}
use Rattle.refutation_log.specs.declared.node.Node.{Node}
use Rattle.refutation_log.specs.declared.node.NodeKind.{NodeKind}
use Rattle.refutation_log.specs.declared.node.NodeKind.TheVariants.{Leaf, Branch}

abbrev pub Waiting : Type 0
Waiting = List (ℕ × ℕ)

-- waits for n children of a branch on p
abbrev pub open_at : ℕ → ℕ → Waiting → Waiting
open_at p n st = if nat_lt 0 n then (p, n) ∷ st else st

-- waits for the children of the node
abbrev pub opened : NodeKind → Waiting → Waiting
opened Leaf st = st
opened (Branch p n) st = open_at p n st

-- the package of the innermost branch
abbrev pub top_of : Waiting → Option ℕ
top_of [] = None
top_of (c ∷ st) = Some c.0

-- a child of the innermost branch comes
abbrev pub take_child : Waiting → Waiting
take_child [] = []
take_child (c ∷ st) = open_at c.0 (c.1 - 1) st

-- the state of a child of a branch on that package by its number before
abbrev pub moved_state : Part → Option ℕ → Option ℕ → Option ℕ
moved_state b None s = s
moved_state b (Some p) None = None
moved_state b (Some p) (Some i) = Some (state_of b p i)

-- the kind of a node by the number of its package before
abbrev pub moved_kind : Part → NodeKind → NodeKind
moved_kind b Leaf = Leaf
moved_kind b (Branch p n) = Branch (package_of b p) n

-- the node by the numbers before, where these branches wait
abbrev pub moved_node : Part → Waiting → Node → Node
moved_node b st x = record { state = moved_state b (top_of st) x.state; kind = moved_kind b x.kind }

-- the nodes by the numbers before
abbrev pub moved_nodes : Part → Waiting → List Node → List Node
moved_nodes b st [] = []
moved_nodes b st (x ∷ xs) = moved_node b st x ∷ moved_nodes b (opened x.kind (take_child st)) xs
