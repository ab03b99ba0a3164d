-- Where a search stands, and how it ends.
use Rattle.std.specs.Prelude.{◌≡◌, ℕ, ◌+◌, ◌≤◌, [], List, length, vec_capacity}
use Rattle.version_graph.specs.Graph.{Graph, packages}
use Rattle.decimation_repair.specs.Walk.{Choice, Finds, Ends, Spends}
use Rattle.decimation_repair.specs.Levels.{Levels}
use Rattle.decimation_repair.specs.Choice.{BeliefChoice}
use Rattle.decimation_repair.specs.Ordered.{HasRoomFor}
use Rattle.decimation_repair.specs.Path.{Arrived, Settled, Dead, Left}
use Rattle.decimation_repair.specs.Advised.{IsAdvice}
use Rattle.decimation_repair.specs.declared.walker.Walker.{Walker}
use Rattle.decimation_repair.specs.declared.search.Outcome.{Outcome}
use Rattle.decimation_repair.specs.declared.search.Outcome.TheVariants.{Found, Empty, Spent}
use Rattle.decimation_repair.specs.declared.walker.Visited.{Visited}
use Rattle.decimation_repair.specs.declared.walker.Visited.TheVariants.{Solved, Full, Logged}

-- the choice of the search
abbrev pub choice_of : Walker → Choice
choice_of s = BeliefChoice s.advice.fields.now

-- there is room for a choice of each package, for a state of each, and for as many nodes as the budget allows
pub record IsReady (g : Graph) (s : Walker) : Type 0 where
  pub path : packages g ≤ vec_capacity s.path
  pub orders : HasRoomFor g s.orders
  pub advice : IsAdvice g s.advice
  pub within : length s.log.items ≤ s.budget
  pub nodes : s.budget ≤ length s.log.items + s.log.spare
  pub blank : s.states.items ≡ []
  pub states : packages g ≤ s.states.spare

-- the search stands at a task
pub record IsAt (s : Walker) : Type 0 where
  pub ready : IsReady s.instance.now s
  pub arrived : Arrived (choice_of s) s.instance.now s.orders.rows s.path.items s.domains s.trail s.log.items

-- the search stands at a task whose domains are closed and filled
pub record IsOpenAt (s : Walker) : Type 0 where
  pub ready : IsReady s.instance.now s
  pub closed : Settled (choice_of s) s.instance.now s.orders.rows s.path.items s.domains s.trail s.log.items

-- the search stands at a dead end
pub record IsDeadAt (s : Walker) : Type 0 where
  pub ready : IsReady s.instance.now s
  pub dead : Dead (choice_of s) s.instance.now s.orders.rows s.path.items s.domains s.trail s.log.items

-- the search has left a task
pub record HasLeft (s : Walker) : Type 0 where
  pub ready : IsReady s.instance.now s
  pub left : Left (choice_of s) s.instance.now s.orders.rows s.path.items s.domains s.trail s.log.items

-- the instance, the fields and the budget are as before
pub record SameSearch (old new : Walker) : Type 0 where
  pub instance : new.instance.now ≡ old.instance.now
  pub fields : new.advice.fields.now ≡ old.advice.fields.now
  pub budget : new.budget ≡ old.budget

-- one node more is logged
pub record LogsOne (old new : Walker) : Type 0 where
  pub left : HasLeft new
  pub more : length new.log.items ≡ length old.log.items + 1

-- what visiting a task gives
abbrev pub GivesVisit : Walker → Walker → Visited → Type 0
GivesVisit old new Solved = Finds old.instance.now (choice_of old) old.budget new.states.items new.log.items
GivesVisit old new Full = Spends old.instance.now (choice_of old) old.budget new.log.items
GivesVisit old new Logged = LogsOne old new

-- the same search with one choice fewer
pub record DropsOne (old new : Walker) : Type 0 where
  pub left : HasLeft new
  pub shorter : length new.path.items + 1 ≡ length old.path.items

-- how the search of an instance ends within a budget
abbrev pub EndsAs : Graph → List (List Levels) → ℕ → Outcome → Type 0
EndsAs g f budget (Found chosen log) = Finds g (BeliefChoice f) budget chosen.items log.items
EndsAs g f budget (Empty log) = Ends g (BeliefChoice f) budget log.items
EndsAs g f budget (Spent log) = Spends g (BeliefChoice f) budget log.items
