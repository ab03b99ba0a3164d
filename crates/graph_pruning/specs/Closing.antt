-- What closing the domains answers. (own rule: the closure is a condition, see the crate of instances)
use Rattle.std.specs.Prelude.{◌≡◌, ℕ, true, length}
use Rattle.version_graph.specs.Graph.{Graph}
use Rattle.version_graph.specs.Family.{Family, IsFilled, IsClosureOf, HasEmpty}
use Rattle.version_graph.specs.Noted.{History, is_settled_at}
use Rattle.graph_pruning.specs.declared.closing.Closed.{Closed}
use Rattle.graph_pruning.specs.declared.closing.Closed.TheVariants.{Stable, Empty}

-- the domains are the closure of the old ones, and none is empty
pub record IsClosedFrom (g : Graph) (old new : Family) : Type 0 where
  pub closure : IsClosureOf g old new
  pub filled : IsFilled g new

-- the closure of the old domains has an empty one, the least of which is that of package 0
pub record IsEmptied (g : Graph) (old : Family) (least : ℕ) : Type 0 where
  pub empty : HasEmpty g old
  pub least_is : least ≡ 0

-- stable exactly where no domain of the closure is empty
abbrev pub ClosesTo : Graph → Family → Family → Closed → Type 0
ClosesTo g old new Stable = IsClosedFrom g old new
ClosesTo g old new (Empty p) = IsEmptied g old p

-- where the answer is stable, the trail says so of its present length
abbrev pub SaysSettled : Closed → History → Type 0
SaysSettled Stable t = is_settled_at t (length t.notes) ≡ true
SaysSettled (Empty p) t = Unit {0}
