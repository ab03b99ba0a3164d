-- The messages between neighbours: what each package hears from each of its neighbours about each of its states.
-- (own rule, after Pkg's resolver)
use Rattle.std.specs.Prelude.{◌≡◌, ℕ, ◌<◌, List, [], ◌∷◌, length, slice_index_or, ◌==◌, if◌then◌else◌}
use Rattle.version_graph.specs.Graph.{Graph, packages, are_neighbours, IsListOf}

pub record Post (W : Type 0) : Type 0 where
  -- how many states each package has
  pub sizes : List ℕ
  -- for each package its neighbours, rising
  pub senders : List (List ℕ)
  -- for each package and each of its neighbours in this order, the message to each state of the package
  pub said : List (List (List W))

-- the neighbours of p
abbrev pub senders_of : {W : Type 0} → Post W → ℕ → List ℕ
senders_of m p = slice_index_or m.senders p []

-- the messages to p, by its neighbours
abbrev pub said_to : {W : Type 0} → Post W → ℕ → List (List W)
said_to m p = slice_index_or m.said p []

-- the message to q from its neighbour in the place k, at the state j of q
abbrev pub message : {W : Type 0} → W → Post W → ℕ → ℕ → ℕ → W
message none m q k j = slice_index_or (slice_index_or (said_to m q) k []) j none

-- the messages are those between the neighbours of the instance, one from each to each state
pub record IsPostFor {W : Type 0} (g : Graph) (m : Post W) : Type 0 where
  pub sizes : m.sizes ≡ g.sizes
  pub listed : (p : ℕ) → p < packages g → IsListOf (are_neighbours g p) (senders_of m p)
  pub answered : (p : ℕ) → p < packages g → length (said_to m p) ≡ length (senders_of m p)

-- every message is zero
pub record IsSilent {W : Type 0} (none : W) (m : Post W) : Type 0 where
  pub zero : (q k j : ℕ) → message none m q k j ≡ none

-- the same packages and neighbours
pub record SameSenders {W : Type 0} (m n : Post W) : Type 0 where
  pub sizes : n.sizes ≡ m.sizes
  pub senders : n.senders ≡ m.senders

-- the messages in these rows at the state i, added up
abbrev pub heard : {W : Type 0} → W → (W → W → W) → ℕ → List (List W) → W
heard none plus i [] = none
heard none plus i (row ∷ rows) = plus (slice_index_or row i none) (heard none plus i rows)

-- the messages of these senders at the state i but that of q, added up
abbrev pub heard_but : {W : Type 0} → W → (W → W → W) → ℕ → ℕ → List ℕ → List (List W) → W
heard_but none plus q i [] rows = none
heard_but none plus q i (r ∷ rs) [] = none
heard_but none plus q i (r ∷ rs) (row ∷ rows) =
    if r == q then heard_but none plus q i rs rows else plus (slice_index_or row i none) (heard_but none plus q i rs rows)
