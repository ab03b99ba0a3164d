-- Instances that are alike: they have the same packages and states, and forbid the same of them. (own rule)
--     IsLike g h     the instance h is like g
use Rattle.std.specs.Prelude.{◌≡◌, ◌≢◌, ℕ, ◌<◌, List}
use Rattle.version_graph.specs.Graph.{Graph, packages, states, is_barred, is_forbidden}
use Rattle.refutation_log.specs.declared.node.Node.{Node}
use Rattle.refutation_log.specs.Refutes.{IsRefutation}

pub record IsLike (g h : Graph) : Type 0 where
  pub each : packages h ≡ packages g
  pub wide : (p : ℕ) → p < packages g → states h p ≡ states g p
  pub filled : (p : ℕ) → p < packages g → 0 < states g p
  pub barred : (p i : ℕ) → p < packages g → i < states g p → is_barred h p i ≡ is_barred g p i
  pub forbidden : (p i q j : ℕ) → p < packages g → i < states g p → q < packages g → j < states g q → p ≢ q → is_forbidden h p i q j ≡ is_forbidden g p i q j

-- a log that refutes an instance refutes each that is like it
abbrev pub RefutedAlike : Type 0
RefutedAlike = (g h : Graph) (log : List Node) → IsLike g h → IsRefutation g log → IsRefutation h log
