-- The classes of states that pruning makes: of each kept package, in the order of their numbers, the states that stand for
-- others, rising, each with all states for which it stands. (own rule: states that allow the same states of every other
-- package make no difference, and the greatest stands for them)
use Rattle.std.specs.Prelude.{◌≡◌, ◌&&◌, ◌==◌, ℕ, ◌<◌, Bool, List, [], map, length, slice_index_or, true}
use Rattle.std.specs.List.{filter, flat_map, range_with_len}
use Rattle.pkg_world.specs.Listing.{Listing}
use Rattle.offer_terms.specs.Booked.{Packed}
use Rattle.offer_terms.specs.Demanded.{Wanted}
use Rattle.version_graph.specs.Graph.{Graph, packages, states}
use Rattle.version_graph.specs.Family.{Family}
use Rattle.version_graph.specs.Domain.{row, has}
use Rattle.graph_pruning.specs.Pruned.{Pruning, left, IsPruningOf}
use Rattle.graph_pruning.specs.Marked.{does_stand, standing_in}
use Rattle.book_graph.specs.StandsFor.{StandsFor}
use Rattle.resolve_core.specs.declared.classing.Class.{Class}

pub record ClassSaid : Type 0 where
  pub number : ℕ
  pub standing : ℕ
  pub members : List ℕ

abbrev pub class_said : Class → ClassSaid
class_said c = record { number = c.package; standing = c.standing; members = c.members.items }

-- the states for which s stands, of the first n states of p
abbrev pub members_of : Family → (ℕ → ℕ → ℕ) → ℕ → ℕ → ℕ → List ℕ
members_of f standing p n s = filter (λ i. f p i && (standing p i == s)) (range_with_len 0 n)

-- the class of s, among n states of p
abbrev pub class_of : Family → (ℕ → ℕ → ℕ) → ℕ → ℕ → ℕ → ClassSaid
class_of f standing p n s = record { number = p; standing = s; members = members_of f standing p n s }

-- the classes of p, which has n states
abbrev pub classes_of : Family → (ℕ → ℕ → ℕ) → ℕ → ℕ → List ClassSaid
classes_of f standing p n = map (class_of f standing p n) (filter (does_stand f standing p) (range_with_len 0 n))

-- the classes of the kept ones among the first n packages
abbrev pub classes_below : Graph → Family → (ℕ → ℕ → ℕ) → (ℕ → Bool) → ℕ → List ClassSaid
classes_below g f standing kept n = flat_map (λ p. classes_of f standing p (states g p)) (filter kept (range_with_len 0 n))

abbrev pub classes_in : Graph → Pruning → List ClassSaid
classes_in g pr = classes_below g (left g pr) pr.standing pr.kept (packages g)

-- the table has the classes of the instance's pruning
pub record AreClassesIn (g : Graph) (table : List Class) : Type 0 where
  pub «pruning» : Pruning
  pub prunes : IsPruningOf g «pruning»
  pub listed : map class_said table ≡ classes_in g «pruning»

-- of an instance that stands for the book and the demand
pub record AreClassesOf (book : List Packed) (w : Wanted) (table : List Class) : Type 0 where
  pub graph : Graph
  pub stands : StandsFor book w graph
  pub classes : AreClassesIn graph table

-- ---- while they are listed

-- the items of the list in that place
abbrev pub items_at : List (Listing ℕ) → ℕ → List ℕ
items_at lists s = slice_index_or (map (λ l. l.items) lists) s []

-- the classes have a place for each of n states of p, and a state that is left stands for others below n
pub record HasStates (d : List (List Bool)) (rows : List (List ℕ)) (p n : ℕ) : Type 0 where
  pub known : p < length d
  pub wide : length (row d p) ≡ n
  pub listed : p < length rows
  pub long : length (slice_index_or rows p []) ≡ n
  pub below : (i : ℕ) → i < n → has d p i ≡ true → standing_in rows p i < n
