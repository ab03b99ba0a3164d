-- A tree of choices, and the list of its nodes in pre-order.
use Rattle.std.specs.Prelude.{ℕ, ◌+◌, Bool, false, ◌||◌, ◌==◌, List, [], ◌∷◌, ◌++◌, Option, Some}
use Rattle.refutation_log.specs.declared.node.Node.{Node}
use Rattle.refutation_log.specs.declared.node.NodeKind.TheVariants.{Leaf, Branch}

-- a leaf, or a branch on a package with its children
mutual
  pub data Tree : Type 0 where
    leaf : Tree
    branch : ℕ → Children → Tree

  -- the children in order: the state chosen, and the tree below it
  pub data Children : Type 0 where
    done : Children
    child : ℕ → Tree → Children → Children

-- how many children there are
abbrev pub count_of : Children → ℕ
count_of done = 0
count_of (child i t cs) = count_of cs + 1

-- whether s stands for some child's state
abbrev pub has_standing : Children → (ℕ → ℕ) → ℕ → Bool
has_standing done standing s = false
has_standing (child j t cs) standing s = (standing j == s) || has_standing cs standing s

-- the nodes in pre-order: each node before its children, and these in order
abbrev mutual
  pub preorder : Option ℕ → Tree → List Node
  preorder s leaf = record { state = s; kind = Leaf } ∷ []
  preorder s (branch p cs) = record { state = s; kind = Branch p (count_of cs) } ∷ preorders cs

  pub preorders : Children → List Node
  preorders done = []
  preorders (child i t cs) = preorder (Some i) t ++ preorders cs
