-- The weight that each state has by itself: a newer offer of a root weighs more at the first level, a newer offer of
-- another package at the second; and what is absent weighs as the newest offer of a package that is no root, and a little
-- more. (own rule, after Pkg's resolver)
use Rattle.std.specs.Prelude.{◌≡◌, ℕ, ◌<◌, ◌-◌, pos, Bool, nat_lt, if◌then◌else◌, List}
use Rattle.version_graph.specs.Graph.{Graph, packages, states, last, is_root}
use Rattle.version_graph.specs.Part.{Part, package_of, state_of}
use Rattle.maxsum_messages.specs.Field.{field, AreFieldsFor}
use Rattle.decimation_repair.specs.Levels.{Levels, zero_levels}

-- the weight with these levels
abbrev pub levels : ℕ → ℕ → ℕ → Levels
levels a b c = record { 0 = record { 0 = pos a }; 1 = record { 0 = record { 0 = pos b }; 1 = record { 0 = pos c } } }

-- the weight of the state i of a package with n offers, whose absent state comes after these
abbrev pub rated : Bool → ℕ → ℕ → Levels
rated is_root n i = if nat_lt i n then (if is_root then levels i 0 0 else levels 0 i 0) else levels 0 (n - 1) 1

-- the weight of a state of an instance
abbrev pub rated_in : Graph → ℕ → ℕ → Levels
rated_in g p i = rated (is_root g p) (last g p) i

-- the first n states of the package p of the pruned instance have the weights that they have by their numbers before
pub record AreRatedAt (g h : Graph) (b : Part) (f : List (List Levels)) (p n : ℕ) : Type 0 where
  pub at : (i : ℕ) → i < n → i < states h p → field zero_levels f p i ≡ rated_in g (package_of b p) (state_of b p i)

-- each state of the pruned instance has the weight that it has by its number before
pub record AreRated (g h : Graph) (b : Part) (f : List (List Levels)) : Type 0 where
  pub shape : AreFieldsFor h f
  pub each : (p i : ℕ) → p < packages h → i < states h p → field zero_levels f p i ≡ rated_in g (package_of b p) (state_of b p i)
