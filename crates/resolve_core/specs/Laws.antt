-- What is true of the answers.
use Rattle.std.specs.Prelude.{◌≡◌, ℕ, ◌+◌, ◌<◌, List, length}
use Rattle.pkg_world.specs.Listing.{Listing}
use Rattle.jl_versions.specs.declared.version.Version.{Version}
use Rattle.offer_terms.specs.Offered.{Id, Selected}
use Rattle.offer_terms.specs.Booked.{Packed, package_at, book_offers}
use Rattle.offer_terms.specs.Demanded.{Wanted}
use Rattle.offer_terms.specs.Feasible.{IsFeasible, IsValid, CanRaise}
use Rattle.version_graph.specs.Graph.{Graph, IsGraph}
use Rattle.refutation_log.specs.declared.node.Node.{Node}
use Rattle.refutation_log.specs.Refutes.{IsRefutation}
use Rattle.decimation_repair.specs.Bound.{product_below}
use Rattle.book_graph.specs.StandsFor.{StandsFor, IsBook, Covers, state_count}
use Rattle.resolve_core.specs.Resolved.{IsResolved, IsRefused}
use Rattle.resolve_core.specs.declared.resolved.Resolved.{Resolved}
use Rattle.resolve_core.specs.declared.fault.ResolveFault.TheVariants.{Unsatisfiable, GaveUp}

-- no selection is feasible over what the book offers
abbrev pub NoneFeasible : List Packed → Wanted → Type 0
NoneFeasible book w = (s : Selected) → IsFeasible (book_offers book) w s → ⊥

-- the selection is valid over what the book offers, and no package of it can be raised alone
abbrev pub ResolvedIsBest : Type 0
ResolvedIsBest = (book : List Packed) (w : Wanted) (budget : ℕ) (resolved : Resolved) → IsBook book → Covers book w → IsResolved book w budget resolved →
    IsValid (book_offers book) w resolved.selection.items × ((u : Id) (v : Version) → CanRaise (book_offers book) w resolved.selection.items u v → ⊥)

-- the log refutes an instance that stands for the book and the demand
pub record IsCertificate (book : List Packed) (w : Wanted) (log : List Node) : Type 0 where
  pub graph : Graph
  pub sound : IsGraph graph
  pub stands : StandsFor book w graph
  pub refutes : IsRefutation graph log

-- where the demand is told to be unsatisfiable, no selection is feasible, and the log is a certificate
abbrev pub UnsatisfiableIsNone : Type 0
UnsatisfiableIsNone = (book : List Packed) (w : Wanted) (budget : ℕ) (log : Listing Node) → IsBook book → IsRefused book w budget (Unsatisfiable log) →
    NoneFeasible book w × IsCertificate book w log.items

-- a certificate leaves no feasible selection, whoever made it
abbrev pub CertificateIsSound : Type 0
CertificateIsSound = (book : List Packed) (w : Wanted) (log : List Node) → IsBook book → IsCertificate book w log → NoneFeasible book w

-- the product over packages of one more than their states
abbrev pub most_nodes : List Packed → ℕ
most_nodes book = product_below (λ p. state_count (package_at book p) + 1) (length book)

-- where the search gives up, the log has as many nodes as the budget, and this is below that product
abbrev pub GivenUpIsSpent : Type 0
GivenUpIsSpent = (book : List Packed) (w : Wanted) (budget : ℕ) (log : Listing Node) → IsRefused book w budget (GaveUp log) →
    (length log.items ≡ budget) × (budget < most_nodes book)
