-- The three maps of an environment (Julia manual, Code Loading): names to identities, packages to what they use, and
-- identities to entry paths. They speak of every name. What is seen from an extension of a package follows from the last two.
use Rattle.std.specs.Prelude.{ℕ, List, Option}
use Rattle.pkg_world.specs.Path.{Path}
use Rattle.pkg_world.specs.Tree.{Files}
use Rattle.env_maps.specs.declared.id.Id.{Id}
use Rattle.env_maps.specs.Contexts.{Uses}
use Rattle.env_maps.specs.Maps.{Env, root_of, graph_of, path_with}
use Rattle.env_maps.specs.Candidates.{Candidate, root_at, graph_at, path_at}

pub record Maps : Type 0 where
  pub roots : List ℕ → Option Id
  pub graph : Id → Option Uses
  pub paths : Id → Option Path

-- the maps of a project, by the identifiers that the standard libraries have
abbrev pub project_maps : Files → (List ℕ → Option (List ℕ)) → Env → Maps
project_maps files library env = record { roots = root_of env; graph = graph_of env; paths = λ id. path_with files (library id.name) env id }

-- the maps of a package folder, by the packages that names have in it
abbrev pub folder_maps : (List ℕ → Option Candidate) → Maps
folder_maps package_of =
    record { roots = λ name. root_at name (package_of name); graph = λ id. graph_at id.uuid (package_of id.name); paths = λ id. path_at id.uuid (package_of id.name) }
