-- What the demand is resolved to over a book: the instance that stands for both is searched within the budget, and a solution
-- is told as the selection that it chooses. (own rule, after Pkg's resolver)
use Rattle.std.specs.Prelude.{◌≡◌, ◌↔◌, ℕ, Bool, true, List}
use Rattle.pkg_world.specs.Listing.{Listing}
use Rattle.offer_terms.specs.Booked.{Packed}
use Rattle.offer_terms.specs.Demanded.{Wanted}
use Rattle.version_graph.specs.Graph.{Graph, IsGraph}
use Rattle.version_graph.specs.declared.fault.GraphFault.{GraphFault}
use Rattle.version_graph.specs.declared.fault.GraphFault.TheVariants as limits
use Rattle.refutation_log.specs.declared.node.Node.{Node}
use Rattle.refutation_log.specs.Refutes.{IsRefutation}
use Rattle.instance_search.specs.Searched.{Searches}
use Rattle.instance_search.specs.declared.answer.Answer.{Answer}
use Rattle.instance_search.specs.declared.answer.Answer.TheVariants.{Found, Empty, Spent}
use Rattle.book_graph.specs.StandsFor.{StandsFor}
use Rattle.book_graph.specs.Chosen.{IsSelectionOf}
use Rattle.book_graph.specs.Limits.{IsPast, Fits}
use Rattle.resolve_core.specs.declared.resolved.Resolved.{Resolved}
use Rattle.resolve_core.specs.declared.fault.ResolveFault.{ResolveFault}
use Rattle.resolve_core.specs.declared.fault.ResolveFault.TheVariants.{Unsatisfiable, GaveUp, Limit, Memory}

-- the search of an instance that stands for the book and the demand answers so
pub record IsAnswer (book : List Packed) (w : Wanted) (budget : ℕ) (answer : Answer) : Type 0 where
  pub graph : Graph
  pub sound : IsGraph graph
  pub stands : StandsFor book w graph
  pub fits : Fits book w
  pub searches : Searches graph budget answer

-- a finished solution is found after so many nodes, and this is its selection
pub record IsResolved (book : List Packed) (w : Wanted) (budget : ℕ) (resolved : Resolved) : Type 0 where
  pub states : Listing ℕ
  pub answer : IsAnswer book w budget (Found states resolved.nodes)
  pub selected : IsSelectionOf book states.items resolved.selection.items

-- there is no solution, the budget is spent before one is found, or a limit is passed
abbrev pub IsRefused : List Packed → Wanted → ℕ → ResolveFault → Type 0
IsRefused book w budget (Unsatisfiable log) = IsAnswer book w budget (Empty log)
IsRefused book w budget (GaveUp log) = IsAnswer book w budget (Spent log)
IsRefused book w budget (Limit kind count) = IsPast book w (limits.Limit kind count)
IsRefused book w budget Memory = Unit {0}

-- whether the log refutes an instance that stands for the book and the demand
pub record IsVerdict (book : List Packed) (w : Wanted) (log : List Node) (accepts : Bool) : Type 0 where
  pub graph : Graph
  pub stands : StandsFor book w graph
  pub exact : (accepts ≡ true) ↔ IsRefutation graph log

-- the refusal of an instance as a refusal of resolving
abbrev pub SameLimit : GraphFault → ResolveFault → Type 0
SameLimit (limits.Limit kind count) fault = fault ≡ Limit kind count
SameLimit limits.Memory fault = fault ≡ Memory
