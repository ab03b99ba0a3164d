-- What a fixed package says, as plain lists.
use Rattle.std.specs.Prelude.{ℕ, List}
use Rattle.jl_versions.specs.declared.version.Version.{Version}
use Rattle.project_file.specs.Spelled.{Spelled}
use Rattle.manifest_file.specs.declared.origin.Origin.{Origin}

pub record SaidGiven : Type 0 where
  pub name : List ℕ
  pub version : Version
  pub deps : List (List ℕ × List ℕ)
  pub weak : List (List ℕ × List ℕ)
  pub compat : List (List ℕ × Spelled)
  pub origin : Origin
  pub extensions : List (List ℕ × List (List ℕ))
