-- What is found at the front of a list of nodes.
use Rattle.std.specs.Prelude.{◌≡◌, ℕ, ◌<◌, Bool, true, false, not, ◌&&◌, List, ◌++◌, Option}
use Rattle.refutation_log.specs.declared.node.Node.{Node}
use Rattle.version_graph.specs.Graph.{Graph, packages}
use Rattle.version_graph.specs.Family.{Family, HasEmpty, InClosure}
use Rattle.refutation_log.specs.Tree.{Tree, Children, count_of, has_standing, preorder, preorders}
use Rattle.refutation_log.specs.Within.{RefutesIn, EachRefutesIn, IsCoveredIn, choose}

-- the nodes begin with a whole tree that refutes, and the rest follows
pub record TreeAt (g : Graph) (st : ℕ → ℕ → ℕ) (domains : Family) (shut : ℕ → Bool) (nodes rest : List Node) : Type 0 where
  pub state : Option ℕ
  pub tree : Tree
  pub listed : nodes ≡ preorder state tree ++ rest
  pub refutes : RefutesIn g st domains shut tree

-- the nodes begin with no such tree
pub record NoTreeAt (g : Graph) (st : ℕ → ℕ → ℕ) (domains : Family) (shut : ℕ → Bool) (nodes : List Node) : Type 0 where
  pub none : (rest : List Node) → TreeAt g st domains shut nodes rest → ⊥

-- the nodes begin with n children of a branch on p, each of which refutes, and the rest follows
pub record ChildrenAt (g : Graph) (st : ℕ → ℕ → ℕ) (domains : Family) (shut : ℕ → Bool) (p n : ℕ) (nodes rest : List Node) : Type 0 where
  pub children : Children
  pub count : count_of children ≡ n
  pub listed : nodes ≡ preorders children ++ rest
  pub refute : EachRefutesIn g st domains shut p children

pub record NoChildrenAt (g : Graph) (st : ℕ → ℕ → ℕ) (domains : Family) (shut : ℕ → Bool) (p n : ℕ) (nodes : List Node) : Type 0 where
  pub none : (rest : List Node) → ChildrenAt g st domains shut p n nodes rest → ⊥

-- such children, which take what stands for their states from what was missing
pub record ChildrenTake (g : Graph) (st : ℕ → ℕ → ℕ) (domains : Family) (shut : ℕ → Bool) (p n : ℕ) (nodes rest : List Node) (missing left : ℕ → Bool) : Type 0 where
  pub found : ChildrenAt g st domains shut p n nodes rest
  pub left_is : (i : ℕ) → left i ≡ missing i && not (has_standing found.children (st p) i)

-- the nodes begin with the children of a branch on p that refutes, and the rest follows
pub record BranchAt (g : Graph) (st : ℕ → ℕ → ℕ) (domains : Family) (shut : ℕ → Bool) (p n : ℕ) (nodes rest : List Node) : Type 0 where
  pub known : p < packages g
  pub free : shut p ≡ false
  pub found : ChildrenAt g st domains (choose shut p) p n nodes rest
  pub covered : IsCoveredIn g st domains p found.children

pub record NoBranchAt (g : Graph) (st : ℕ → ℕ → ℕ) (domains : Family) (shut : ℕ → Bool) (p n : ℕ) (nodes : List Node) : Type 0 where
  pub none : (rest : List Node) → BranchAt g st domains shut p n nodes rest → ⊥

-- the domains are closed, and none is empty
pub record IsClosed (g : Graph) (domains : Family) : Type 0 where
  pub sound : (p i : ℕ) → domains p i ≡ true → InClosure g domains p i
  pub filled : HasEmpty g domains → ⊥

-- the domains are closed and filled, or else their closure has an empty domain
abbrev pub IsSettledAs : Graph → Family → Bool → Type 0
IsSettledAs g domains true = IsClosed g domains
IsSettledAs g domains false = HasEmpty g domains
