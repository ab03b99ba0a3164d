-- What is true of the answer.
use Rattle.std.specs.Prelude.{◌≡◌, ℕ, ◌<◌, length}
use Rattle.pkg_world.specs.Listing.{Listing}
use Rattle.version_graph.specs.Graph.{Graph, IsGraph, IsPlain, IsSolution}
use Rattle.raise_pass.specs.Finishing.{IsFinished}
use Rattle.refutation_log.specs.declared.node.Node.{Node}
use Rattle.refutation_log.specs.Refutes.{IsRefutation, HasNoSolution}
use Rattle.decimation_repair.specs.Bound.{most_nodes}
use Rattle.instance_search.specs.Searched.{Searches}
use Rattle.instance_search.specs.declared.answer.Answer.{Answer}
use Rattle.instance_search.specs.declared.answer.Answer.TheVariants.{Found, Empty, Spent}

-- what is found is a solution in which nothing is unneeded and nothing can be raised alone
abbrev pub FoundIsFinished : Type 0
FoundIsFinished = (g : Graph) (budget : ℕ) (states : Listing ℕ) (count : ℕ) → Searches g budget (Found states count) → IsSolution g states.items × IsFinished g states.items

-- where the answer is that there is no solution, the log refutes the instance, and there is none
abbrev pub EmptyRefutes : Type 0
EmptyRefutes = (g : Graph) (budget : ℕ) (log : Listing Node) → IsGraph g → IsPlain g → Searches g budget (Empty log) → IsRefutation g log.items × HasNoSolution g

-- the log of a spent budget has as many nodes as it allows
abbrev pub SpentIsFull : Type 0
SpentIsFull = (g : Graph) (budget : ℕ) (log : Listing Node) → Searches g budget (Spent log) → length log.items ≡ budget

-- a budget that is as great as the product over packages of one more than their states isn't spent
abbrev pub ProductSuffices : Type 0
ProductSuffices = (g : Graph) (budget : ℕ) (log : Listing Node) → Searches g budget (Spent log) → budget < most_nodes g

-- the answers tell the same
abbrev pub TellSame : Answer → Answer → Type 0
TellSame (Found one count) (Found other number) = (one.items ≡ other.items) × (count ≡ number)
TellSame (Empty one) (Empty other) = one.items ≡ other.items
TellSame (Spent one) (Spent other) = one.items ≡ other.items
TellSame one other = ⊥

-- an instance has one answer within a budget
abbrev pub AnswerIsOne : Type 0
AnswerIsOne = (g : Graph) (budget : ℕ) (one other : Answer) → Searches g budget one → Searches g budget other → TellSame one other
