-- What a fixed package says: by the project file of its folder, or by its stanza where it comes from a repository. Its name is
-- the one that it is fixed by. (Own rules; the files: Pkg, Project.toml and Manifest.toml.)
use Rattle.std.specs.Prelude.{ℕ, List, [], ◌∷◌, unwrap_or}
use Rattle.jl_versions.specs.Triple.{release}
use Rattle.jl_versions.specs.declared.version.Version.{Version}
use Rattle.project_file.specs.Said as project
use Rattle.manifest_file.specs.Saying.{SaidStanza}
use Rattle.manifest_file.specs.declared.origin.Origin.{Origin}
use Rattle.fixed_packages.specs.SaidGiven.{SaidGiven}
use Rattle.fixed_packages.specs.declared.given.GivenParts.{GivenParts}

-- the parts without the room of their lists
abbrev pub said_parts : GivenParts → SaidGiven
said_parts parts = record {
  name = parts.name;
  version = parts.version;
  deps = parts.deps.items;
  weak = parts.weak.items;
  compat = parts.compat.items;
  origin = parts.origin;
  extensions = parts.extensions.items;
}

-- 0.0.0, which a package has that gives no version
abbrev pub zero_version : Version
zero_version = release (0 ∷ 0 ∷ 0 ∷ [])

-- what a project file says
abbrev pub of_project : List ℕ → Origin → project.Said → SaidGiven
of_project name origin said = record {
  name = name;
  version = unwrap_or said.version zero_version;
  deps = said.deps;
  weak = said.weakdeps;
  compat = said.compat;
  origin = origin;
  extensions = said.extensions;
}

-- what the stanza of a repository says; it has no compat
abbrev pub of_stanza : SaidStanza → SaidGiven
of_stanza stanza = record {
  name = stanza.name;
  version = unwrap_or stanza.version zero_version;
  deps = stanza.deps;
  weak = stanza.weakdeps;
  compat = [];
  origin = stanza.origin;
  extensions = stanza.extensions;
}
