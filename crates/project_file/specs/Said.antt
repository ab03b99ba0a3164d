-- What a project file says, as plain lists (Pkg, Project.toml). Lists go by the bytes of the names.
use Rattle.std.specs.Prelude.{ℕ, List, Option}
use Rattle.toml.specs.Data.{Members}
use Rattle.toml.specs.View.{table_view}
use Rattle.jl_versions.specs.declared.version.Version.{Version}
use Rattle.project_file.specs.Spelled.{Spelled}
use Rattle.project_file.specs.declared.source.Source.{Source}
use Rattle.project_file.specs.declared.project.Project.{Project}

pub record Said : Type 0 where
  pub name : Option (List ℕ)
  pub uuid : Option (List ℕ)
  pub version : Option Version
  pub deps : List (List ℕ × List ℕ)
  pub weakdeps : List (List ℕ × List ℕ)
  pub extensions : List (List ℕ × List (List ℕ))
  pub compat : List (List ℕ × Spelled)
  pub extras : List (List ℕ × List ℕ)
  pub sources : List (List ℕ × Source)
  pub manifest : Option (List ℕ)
  pub rest : Members

-- a project without the spare room of its lists, its rest seen as members
unfoldable pub said : Project → Said
said project =
    record {
      name = project.name;
      uuid = project.uuid;
      version = project.version;
      deps = project.deps.items;
      weakdeps = project.weakdeps.items;
      extensions = project.extensions.items;
      compat = project.compat.items;
      extras = project.extras.items;
      sources = project.sources.items;
      manifest = project.manifest;
      rest = table_view project.rest;
    }
