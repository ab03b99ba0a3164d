-- What one step of closing does, and what is done of it. (own rule)
use Rattle.std.specs.Prelude.{◌≡◌, ◌≢◌, ℕ, ◌<◌, ◌≤◌, Bool, true, false, List, length, take, drop, ◌==◌}
use Rattle.std.specs.List.{list_any}
use Rattle.version_graph.specs.Graph.{Graph, packages}
use Rattle.version_graph.specs.Family.{Family, IsWithin, IsStable, Meets}
use Rattle.version_graph.specs.Noted.{History, SaysAlike}

-- the new family is within the old one, and each stable family within the old one is within it
pub record Shrinks (g : Graph) (old new : Family) : Type 0 where
  pub within : IsWithin new old
  pub kept : (s : Family) → IsStable g s → IsWithin s old → IsWithin s new

-- the new notes begin with the old ones, and of their lengths the same are said to be settled
pub record Extends (old new : History) : Type 0 where
  pub longer : length old.notes ≤ length new.notes
  pub earlier : take (length old.notes) new.notes ≡ old.notes
  pub alike : SaysAlike old new (length old.notes)

-- the domain of q isn't empty, and each state of another package has an allowed partner in it
pub record IsClear (g : Graph) (f : Family) (q : ℕ) : Type 0 where
  pub some : (i : ℕ) × (f q i ≡ true)
  pub meets : (p i : ℕ) → f p i ≡ true → q ≢ p → Meets g f p i q

-- whether a package is noted from a place on
unfoldable pub is_pending : List (ℕ × ℕ) → ℕ → ℕ → Bool
is_pending notes from q = list_any (λ n. n.0 == q) (drop from notes)

-- each package below the bound that isn't noted from this place on is clear
pub record AreClear (g : Graph) (f : Family) (notes : List (ℕ × ℕ)) (from bound : ℕ) : Type 0 where
  pub clear : (q : ℕ) → q < packages g → q < bound → is_pending notes from q ≡ false → IsClear g f q
