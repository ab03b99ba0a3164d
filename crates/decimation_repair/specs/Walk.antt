-- The walk of an instance: which prefixes of choices are visited, in which order, and how it ends. A relation without a
-- stack or an undoing: a task is a prefix still to be visited. What is chosen at a prefix is a parameter. (own rule)
use Rattle.std.specs.Prelude.{◌≡◌, ℕ, ◌<◌, ◌≤◌, List, [], ◌∷◌, ◌++◌, length, slice_index, map, Contains, Option, Some, None}
use Rattle.version_graph.specs.Graph.{Graph, packages}
use Rattle.version_graph.specs.Family.{InClosure, HasEmpty, under}
use Rattle.refutation_log.specs.Refutes.{Prefix}
use Rattle.refutation_log.specs.declared.node.Node.{Node}
use Rattle.refutation_log.specs.declared.node.NodeKind.TheVariants.{Leaf, Branch}

-- a prefix still to be visited, and the state by which it is entered
pub record Task : Type 0 where
  pub prefix : Prefix
  pub state : Option ℕ

-- what may be chosen at a prefix: a package, and its states in the order in which they are tried
abbrev pub Choice : Type 1
Choice = Graph → Prefix → ℕ → List ℕ → Type 0

-- the first task: nothing is chosen
abbrev pub root : Task
root = record { prefix = []; state = None }

-- the tasks behind a branch on p: a choice for each state, in order
abbrev pub behind : Prefix → ℕ → List ℕ → List Task
behind prefix p order = map (λ i. record { prefix = prefix ++ (p, i) ∷ []; state = Some i }) order

-- the task is a dead end: the closure under its prefix has an empty domain
pub record IsDead (g : Graph) (task : Task) (node : Node) (children : List Task) : Type 0 where
  pub empty : HasEmpty g (under g task.prefix)
  pub node_is : node ≡ record { state = task.state; kind = Leaf }
  pub children_are : children ≡ []

-- the task branches: no domain is empty, and a package is chosen with the order of its states
pub record Branches (g : Graph) (choose : Choice) (task : Task) (node : Node) (children : List Task) : Type 0 where
  pub filled : HasEmpty g (under g task.prefix) → ⊥
  pub place : ℕ
  pub order : List ℕ
  pub chosen : choose g task.prefix place order
  pub node_is : node ≡ record { state = task.state; kind = Branch place (length order) }
  pub children_are : children ≡ behind task.prefix place order

-- what visiting a task gives: its node, and the tasks behind it
pub data Visits (g : Graph) (choose : Choice) (task : Task) (node : Node) (children : List Task) : Type 0 where
  dead : IsDead g task node children → Visits g choose task node children
  open_at : Branches g choose task node children → Visits g choose task node children

-- visiting tasks gives these nodes, and leaves those tasks: the children of a task come before what was to follow it
abbrev pub Walks : Graph → Choice → List Task → List Node → List Task → Type 0
Walks g choose tasks [] left = tasks ≡ left
Walks g choose tasks (x ∷ xs) left = (t : Task) × (us : List Task) × (children : List Task) ×
    (tasks ≡ t ∷ us) × Visits g choose t x children × Walks g choose (children ++ us) xs left

-- each closed domain under the prefix is the one state that the list has
pub record IsSolved (g : Graph) (prefix : Prefix) (chosen : List ℕ) : Type 0 where
  pub each : length chosen ≡ packages g
  pub here : (p : ℕ) → p < packages g → InClosure g (under g prefix) p (slice_index chosen p)
  pub alone : (p i : ℕ) → InClosure g (under g prefix) p i → i ≡ slice_index chosen p

-- the walk comes to a prefix that decides every package, with no more nodes than the budget
pub record Finds (g : Graph) (choose : Choice) (budget : ℕ) (chosen : List ℕ) (nodes : List Node) : Type 0 where
  pub task : Task
  pub rest : List Task
  pub walks : Walks g choose (root ∷ []) nodes (task ∷ rest)
  pub solved : IsSolved g task.prefix chosen
  pub within : length nodes ≤ budget

-- the walk ends without a solution, with no more nodes than the budget
pub record Ends (g : Graph) (choose : Choice) (budget : ℕ) (nodes : List Node) : Type 0 where
  pub walks : Walks g choose (root ∷ []) nodes []
  pub within : length nodes ≤ budget

-- one more node would pass the budget, and there are exactly as many as it allows
pub record Spends (g : Graph) (choose : Choice) (budget : ℕ) (nodes : List Node) : Type 0 where
  pub task : Task
  pub rest : List Task
  pub walks : Walks g choose (root ∷ []) nodes (task ∷ rest)
  pub next : Node
  pub children : List Task
  pub visits : Visits g choose task next children
  pub spent : length nodes ≡ budget

-- what is asked of a choice: it names a package with two or more closed states, each of which stands in the order once,
-- and it is the one that may be made there
pub record IsChoice (choose : Choice) : Type 0 where
  pub known : (g : Graph) (prefix : Prefix) (p : ℕ) (order : List ℕ) → choose g prefix p order → p < packages g
  pub closed : (g : Graph) (prefix : Prefix) (p : ℕ) (order : List ℕ) → choose g prefix p order → (i : ℕ) → Contains order i → InClosure g (under g prefix) p i
  pub whole : (g : Graph) (prefix : Prefix) (p : ℕ) (order : List ℕ) → choose g prefix p order → (i : ℕ) → InClosure g (under g prefix) p i → Contains order i
  pub once : (g : Graph) (prefix : Prefix) (p : ℕ) (order : List ℕ) → choose g prefix p order → (j k : ℕ) → j < length order → k < length order →
      slice_index order j ≡ slice_index order k → j ≡ k
  pub several : (g : Graph) (prefix : Prefix) (p : ℕ) (order : List ℕ) → choose g prefix p order → 2 ≤ length order
  pub one_package : (g : Graph) (prefix : Prefix) (p q : ℕ) (xs ys : List ℕ) → choose g prefix p xs → choose g prefix q ys → p ≡ q
  pub one_order : (g : Graph) (prefix : Prefix) (p : ℕ) (xs ys : List ℕ) → choose g prefix p xs → choose g prefix p ys → xs ≡ ys
