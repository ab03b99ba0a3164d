-- Which packages a project and its manifest fix (own rules): first, by name, those for which `sources` has a path and `deps`,
-- `weakdeps` or `extras` an identifier; then, by stanza, those that the manifest has from a path or from a repository.
--     candidates home said manifest     these packages, before any file is read
use Rattle.std.specs.Prelude.{ℕ, List, [], ◌∷◌, ◌++◌, codes, Option, Some, None}
use Rattle.std.specs.List.{flat_map}
use Rattle.pkg_world.specs.Path.{Path, joined, folder_of, path_text}
use Rattle.pkg_world.specs.declared.place.Home.{Home}
use Rattle.package_tables.specs.Row.{value_of}
use Rattle.project_file.specs.Said as project
use Rattle.project_file.specs.declared.source.Source.{Source}
use Rattle.project_file.specs.declared.source.Source.TheVariants as sources
use Rattle.manifest_file.specs.Saying as manifest
use Rattle.manifest_file.specs.Saying.{SaidStanza}
use Rattle.manifest_file.specs.declared.origin.Origin.{Origin}
use Rattle.manifest_file.specs.declared.origin.Origin.TheVariants as origins
use Rattle.fixed_packages.specs.Firsts.{put_pairs}
use Rattle.fixed_packages.specs.Given.{of_stanza}
use Rattle.fixed_packages.specs.declared.basis.Basis.{Basis}
use Rattle.fixed_packages.specs.declared.basis.Basis.TheVariants.{Folder, Escaping, Stated}
use Rattle.fixed_packages.specs.declared.candidate.Candidate.{Candidate}

-- names with identifiers
abbrev pub Ids : Type 0
Ids = List (List ℕ × List ℕ)

-- the identifiers of a project's names: those of `deps`, then of `weakdeps`, then of `extras`; the first of a name counts
abbrev pub ids_of : project.Said → Ids
ids_of said = put_pairs (put_pairs (put_pairs [] said.deps) said.weakdeps) said.extras

abbrev pub id_in : Ids → List ℕ → Option (List ℕ)
id_in ids name = value_of name ids

-- the key of the path that a package has in a table
abbrev pub path_key : List ℕ → List ℕ → List ℕ
path_key table name = table ++ (codes "." ++ (name ++ codes ".path"))

-- a folder that the project names comes from its absolute path; a path that rises above the root is refused
abbrev pub source_basis : Path → List ℕ → Option Path → Basis
source_basis file name None = Escaping file (path_key (codes "sources") name)
source_basis file name (Some path) = Folder path (origins.Path (path_text path))

-- a folder that a stanza names comes from the text that stands there
abbrev pub path_basis : Path → List ℕ → List ℕ → Option Path → Basis
path_basis file name text None = Escaping file (path_key (codes "deps") name)
path_basis file name text (Some path) = Folder path (origins.Path text)

-- a name without an identifier fixes nothing
abbrev pub folder_fixes : Path → List ℕ → List ℕ → Option (List ℕ) → List Candidate
folder_fixes file name text None = []
folder_fixes file name text (Some uuid) = record { name = name; uuid = uuid; basis = source_basis file name (joined (folder_of file) text) } ∷ []

abbrev pub fixes_by : Path → Ids → List ℕ → Source → List Candidate
fixes_by file ids name (sources.Path text) = folder_fixes file name text (id_in ids name)
fixes_by file ids name (sources.Url url rev subdir) = []

-- what a source fixes: one with a path its name's package
abbrev pub source_fixes : Path → Ids → List ℕ × Source → List Candidate
source_fixes file ids source = fixes_by file ids source.0 source.1

-- what a stanza gives its package; one from a registry or from Julia gives nothing
abbrev pub basis_by : Path → SaidStanza → Origin → Option Basis
basis_by file stanza (origins.Path text) = Some (path_basis file stanza.name text (joined (folder_of file) text))
basis_by file stanza (origins.Repo url rev subdir tree) = Some (Stated (of_stanza stanza))
basis_by file stanza (origins.Tree tree) = None
basis_by file stanza origins.Std = None

abbrev pub stanza_basis : Path → SaidStanza → Option Basis
stanza_basis file stanza = basis_by file stanza stanza.origin

abbrev pub with_basis : SaidStanza → Option Basis → List Candidate
with_basis stanza None = []
with_basis stanza (Some basis) = record { name = stanza.name; uuid = stanza.uuid; basis = basis } ∷ []

-- what a stanza fixes
abbrev pub stanza_fixes : Path → SaidStanza → List Candidate
stanza_fixes file stanza = with_basis stanza (stanza_basis file stanza)

-- both kinds, the project's first
abbrev pub candidates : Home → project.Said → manifest.Said → List Candidate
candidates home said found = flat_map (source_fixes home.project (ids_of said)) said.sources ++ flat_map (stanza_fixes home.manifest) found.stanzas
