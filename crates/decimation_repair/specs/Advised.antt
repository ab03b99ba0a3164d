-- What the search keeps for its choices: messages, with the choices that they are of.
use Rattle.std.specs.Prelude.{◌≡◌, ℕ, ◌<◌, ◌≤◌, true, List, length, vec_capacity}
use Rattle.version_graph.specs.Graph.{Graph, packages}
use Rattle.version_graph.specs.Family.{HasEmpty, under}
use Rattle.version_graph.specs.Noted.{Holds}
use Rattle.version_graph.specs.Domain.{Rows, size_of}
use Rattle.maxsum_messages.specs.Field.{AreFieldsFor}
use Rattle.maxsum_messages.specs.Post.{IsPostFor}
use Rattle.maxsum_messages.specs.Ranking.{IsOrderFor}
use Rattle.decimation_repair.specs.Levels.{Levels}
use Rattle.decimation_repair.specs.Choice.{AreHeard}
use Rattle.decimation_repair.specs.Path.{chosen_at, prefix_of}
use Rattle.decimation_repair.specs.declared.path.Chosen.{Chosen}
use Rattle.decimation_repair.specs.declared.heard.Heard.{Heard}
use Rattle.decimation_repair.specs.declared.advice.Advice.{Advice}

-- the messages are those that are heard at the choices beside them, once they were made
pub record IsHeard (g : Graph) (f : List (List Levels)) (h : Heard) : Type 0 where
  pub made : IsPostFor g h.messages
  pub room : packages g ≤ vec_capacity h.path
  pub heard : h.is_made ≡ true → AreHeard f g (prefix_of h.path.items) h.messages

-- the choices are of packages that there are, no more of them than there are packages, and leave no domain empty
pub record IsOpenPath (g : Graph) (path : List Chosen) : Type 0 where
  pub known : (k : ℕ) → k < length path → (chosen_at path k).package < packages g
  pub short : length path ≤ packages g
  pub filled : HasEmpty g (under g (prefix_of path)) → ⊥

-- what is kept for choices in the instance
pub record IsAdvice (g : Graph) (a : Advice) : Type 0 where
  pub fields : AreFieldsFor g a.fields.now
  pub holds : Holds g a.domains a.trail
  pub recent : IsHeard g a.fields.now a.recent
  pub earlier : IsHeard g a.fields.now a.earlier
  pub room : IsOrderFor g a.order

-- the recent messages are those at these choices
pub record IsTurnedTo (a : Advice) (choices : List Chosen) : Type 0 where
  pub made : a.recent.is_made ≡ true
  pub same : prefix_of a.recent.path.items ≡ prefix_of choices

-- a package has two or more states left
pub record IsWide (g : Graph) (d : Rows) : Type 0 where
  pub place : ℕ
  pub known : place < packages g
  pub wide : 2 ≤ size_of d place
