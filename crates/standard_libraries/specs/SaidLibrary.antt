-- A standard library as plain lists.
use Rattle.std.specs.Prelude.{ℕ, List}
use Rattle.jl_versions.specs.declared.version.Version.{Version}

pub record SaidLibrary : Type 0 where
  pub uuid : List ℕ
  pub name : List ℕ
  pub version : Version
  pub deps : List (List ℕ × List ℕ)
  pub weak : List (List ℕ × List ℕ)
  pub extensions : List (List ℕ × List (List ℕ))
