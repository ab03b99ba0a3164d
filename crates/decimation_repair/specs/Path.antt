-- Where a walk stands: the choices on the way, each with the length that the trail had before it and with how many of its
-- states were tried, and what is still to be visited. What is chosen at a prefix is a parameter.
use Rattle.std.specs.Prelude.{ℕ, zero, suc, ◌<◌, ◌≤◌, List, [], ◌∷◌, ◌++◌, length, slice_index_or, map, take, drop, Option, Some, None}
use Rattle.version_graph.specs.Graph.{Graph}
use Rattle.version_graph.specs.Family.{Family, HasEmpty, IsFilled, IsClosureOf, LiesBetween, under}
use Rattle.version_graph.specs.Domain.{Rows, has}
use Rattle.version_graph.specs.Noted.{History, Holds, left_by}
use Rattle.refutation_log.specs.Refutes.{Prefix}
use Rattle.refutation_log.specs.declared.node.Node.{Node}
use Rattle.decimation_repair.specs.Walk.{Choice, Task, root, behind, Walks}
use Rattle.decimation_repair.specs.declared.path.Chosen.{Chosen}

abbrev pub nothing : Chosen
nothing = record { «package» = 0; state = 0; tried = 0; mark = 0 }

-- the choice at a depth
abbrev pub chosen_at : List Chosen → ℕ → Chosen
chosen_at path d = slice_index_or path d nothing

-- the choices as package and state
abbrev pub prefix_of : List Chosen → Prefix
prefix_of path = map (λ c. (c.package, c.state)) path

-- the choices that come before a depth
abbrev pub choices_before : List Chosen → ℕ → Prefix
choices_before path d = prefix_of (take d path)

-- the domains before the choice at a depth, by the notes
abbrev pub domains_at : Graph → List Chosen → List (ℕ × ℕ) → ℕ → Family
domains_at g path notes d = left_by g (take (chosen_at path d).mark notes)

-- the order in which the states of the package at a depth are tried
abbrev pub order_at : List (List ℕ) → List Chosen → ℕ → List ℕ
order_at orders path d = slice_index_or orders (chosen_at path d).package []

-- the states still to be tried at a depth
abbrev pub untried : List (List ℕ) → List Chosen → ℕ → List ℕ
untried orders path d = drop (chosen_at path d).tried (order_at orders path d)

-- the tasks still to be visited, those behind the deepest choice first
abbrev pub pending : List (List ℕ) → List Chosen → ℕ → List Task
pending orders path zero = []
pending orders path (suc d) = behind (choices_before path d) (chosen_at path d).package (untried orders path d) ++ pending orders path d

-- the state by which the task is entered that has so many choices
abbrev pub entered : List Chosen → ℕ → Option ℕ
entered path zero = None
entered path (suc d) = Some (chosen_at path d).state

-- the task at which the walk stands
abbrev pub task_of : List Chosen → Task
task_of path = record { prefix = prefix_of path; state = entered path (length path) }

-- a choice was rightly made: the domains before it were closed, and it is the one of that prefix
pub record IsChosenAt (choose : Choice) (g : Graph) (orders : List (List ℕ)) (path : List Chosen) (notes : List (ℕ × ℕ)) (d : ℕ) : Type 0 where
  pub mark : (chosen_at path d).mark ≤ length notes
  pub closed : IsClosureOf g (under g (choices_before path d)) (domains_at g path notes d)
  pub chosen : choose g (choices_before path d) (chosen_at path d).package (order_at orders path d)

-- each choice was rightly made, and marks don't fall
pub record IsPath (choose : Choice) (g : Graph) (orders : List (List ℕ)) (path : List Chosen) (notes : List (ℕ × ℕ)) : Type 0 where
  pub at : (d : ℕ) → d < length path → IsChosenAt choose g orders path notes d
  pub rising : (d e : ℕ) → d < e → e < length path → (chosen_at path d).mark ≤ (chosen_at path e).mark

-- the walk stands at a task: the domains lie between those under its prefix and their closure
pub record Arrived (choose : Choice) (g : Graph) (orders : List (List ℕ)) (path : List Chosen) (d : Rows) (t : History) (nodes : List Node) : Type 0 where
  pub holds : Holds g d t
  pub path_is : IsPath choose g orders path t.notes
  pub between : LiesBetween g (under g (prefix_of path)) (has d)
  pub walks : Walks g choose (root ∷ []) nodes (task_of path ∷ pending orders path (length path))

-- the same, and the domains are closed and filled
pub record Settled (choose : Choice) (g : Graph) (orders : List (List ℕ)) (path : List Chosen) (d : Rows) (t : History) (nodes : List Node) : Type 0 where
  pub holds : Holds g d t
  pub path_is : IsPath choose g orders path t.notes
  pub closed : IsClosureOf g (under g (prefix_of path)) (has d)
  pub filled : IsFilled g (has d)
  pub walks : Walks g choose (root ∷ []) nodes (task_of path ∷ pending orders path (length path))

-- the same at a dead end
pub record Dead (choose : Choice) (g : Graph) (orders : List (List ℕ)) (path : List Chosen) (d : Rows) (t : History) (nodes : List Node) : Type 0 where
  pub holds : Holds g d t
  pub path_is : IsPath choose g orders path t.notes
  pub empty : HasEmpty g (under g (prefix_of path))
  pub walks : Walks g choose (root ∷ []) nodes (task_of path ∷ pending orders path (length path))

-- the walk has left a task
pub record Left (choose : Choice) (g : Graph) (orders : List (List ℕ)) (path : List Chosen) (d : Rows) (t : History) (nodes : List Node) : Type 0 where
  pub holds : Holds g d t
  pub path_is : IsPath choose g orders path t.notes
  pub walks : Walks g choose (root ∷ []) nodes (pending orders path (length path))
