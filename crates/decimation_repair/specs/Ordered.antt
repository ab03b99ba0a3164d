-- The orders in which the states of packages are tried.
use Rattle.std.specs.Prelude.{◌≡◌, ℕ, ◌<◌, ◌≤◌, List, length, map, slice_index, vec_capacity}
use Rattle.std.specs.declared.vec.Vec.{Vec}
use Rattle.version_graph.specs.Graph.{Graph, packages, states}

pub record Ordered : Type 0 where
  -- for each package its states in the order in which they are tried, where it is chosen
  pub rows : List (List ℕ)
  -- for each package how many there is room for
  pub room : List ℕ

abbrev pub rooms_of : {Z : Type 0} → List (Vec ℕ Z) → List ℕ
rooms_of vs = map (λ v. vec_capacity v) vs

-- there is room for the states of each package
pub record HasRoomFor (g : Graph) (o : Ordered) : Type 0 where
  pub rows : length o.rows ≡ packages g
  pub rooms : length o.room ≡ packages g
  pub room : (p : ℕ) → p < packages g → states g p ≤ slice_index o.room p

-- there is no less room than before
pub record KeepsRoom (old new : Ordered) : Type 0 where
  pub rooms : length new.room ≡ length old.room
  pub room : (p : ℕ) → slice_index old.room p ≤ slice_index new.room p
