-- Refutation within domains: what is asked of a tree where the prefix is known only by the domains that it leaves
-- and by the packages on which no branch may be: those that it chooses, and those that aren't kept.
use Rattle.std.specs.Prelude.{◌≡◌, ℕ, ◌<◌, Bool, true, false, not, ◌||◌, ◌==◌}
use Rattle.version_graph.specs.Graph.{Graph, packages, states}
use Rattle.version_graph.specs.Family.{Family, HasEmpty, InClosure, narrowed}
use Rattle.graph_pruning.specs.Pruned.{Pruning}
use Rattle.refutation_log.specs.Refutes.{Prefix, is_chosen}
use Rattle.refutation_log.specs.Tree.{Tree, Children, leaf, branch, done, child, has_standing}

-- those packages and p
abbrev pub choose : (ℕ → Bool) → ℕ → ℕ → Bool
choose shut p q = shut q || (p == q)

-- whether no branch may be on the package under the prefix
abbrev pub is_shut : Pruning → Prefix → ℕ → Bool
is_shut pr prefix q = is_chosen prefix q || not (pr.kept q)

-- each state of the closed domain of p is equal to a child's state
pub record IsCoveredIn (g : Graph) (st : ℕ → ℕ → ℕ) (domains : Family) (p : ℕ) (cs : Children) : Type 0 where
  pub covers : (i : ℕ) → InClosure g domains p i → has_standing cs (st p) (st p i) ≡ true

abbrev mutual
  pub RefutesIn : Graph → (ℕ → ℕ → ℕ) → Family → (ℕ → Bool) → Tree → Type 0
  RefutesIn g st domains shut leaf = HasEmpty g domains
  RefutesIn g st domains shut (branch p cs) =
      (p < packages g) × (shut p ≡ false) × IsCoveredIn g st domains p cs × EachRefutesIn g st domains (choose shut p) p cs

  pub EachRefutesIn : Graph → (ℕ → ℕ → ℕ) → Family → (ℕ → Bool) → ℕ → Children → Type 0
  EachRefutesIn g st domains shut p done = Unit {0}
  EachRefutesIn g st domains shut p (child i t cs) =
      (i < states g p) × RefutesIn g st (narrowed domains p i) shut t × EachRefutesIn g st domains shut p cs
