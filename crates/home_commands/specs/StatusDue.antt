-- What `status` is due to answer: the project's file, then a line for each dependency, or for each stanza, then those of
-- extensions where they are asked for, then the packed registries. (own rule)
use Rattle.std.specs.Prelude.{ℕ, Bool, true, false, List, [], ◌∷◌, ◌++◌, codes, Option, Some, None, if◌then◌else◌, Result, Ok}
use Rattle.std.specs.List.{flat_map}
use Rattle.std.specs.Str.{bytes_eq}
use Rattle.uuid.specs.Text.{hyphenated_text, lower}
use Rattle.pkg_world.specs.Each.{then_ok}
use Rattle.pkg_world.specs.Path.{Path, path_text}
use Rattle.pkg_world.specs.Tree.{Files}
use Rattle.pkg_world.specs.declared.place.Place.{Place}
use Rattle.jl_versions.specs.Printing.{printed}
use Rattle.jl_versions.specs.declared.version.Version.{Version}
use Rattle.manifest_file.specs.Saying.{SaidStanza}
use Rattle.manifest_file.specs.declared.origin.Origin.{Origin}
use Rattle.manifest_file.specs.declared.origin.Origin.TheVariants.{Tree, Path as PathOrigin, Repo, Std}
use Rattle.registry_tables.specs.Registries.{packed}
use Rattle.home_commands.specs.ExtensionLines.{extension_lines}
use Rattle.home_commands.specs.Home.{Both, both_in}
use Rattle.command_answers.specs.declared.status.Status.{Status}

-- a version as it is printed; a stanza may have none
abbrev pub version_text : Option Version → List ℕ
version_text None = codes "-"
version_text (Some version) = printed version

-- from where a package comes
abbrev pub origin_text : Origin → List ℕ
origin_text (Tree tree) = codes "registered"
origin_text (PathOrigin text) = codes "path " ++ text
origin_text (Repo url rev subdir tree) = codes "repo " ++ url
origin_text Std = codes "std"

abbrev pub pin_text : Bool → List ℕ
pin_text true = codes " pinned"
pin_text false = []

-- what a stanza says behind its name and identifier
abbrev pub stanza_text : SaidStanza → List ℕ
stanza_text stanza = version_text stanza.version ++ (codes " " ++ (origin_text stanza.origin ++ pin_text stanza.pinned))

-- `NAME UUID` and the rest of a line
abbrev pub package_line : List ℕ → List ℕ → List ℕ → List ℕ
package_line name uuid rest = name ++ (codes " " ++ (hyphenated_text lower uuid ++ (codes " " ++ (rest ++ 10 ∷ []))))

-- `NAME UUID VERSION ORIGIN`, and whether the version is pinned
abbrev pub stanza_line : SaidStanza → List ℕ
stanza_line stanza = package_line stanza.name stanza.uuid (stanza_text stanza)

-- the first stanza of an identifier
abbrev pub stanza_with : List ℕ → List SaidStanza → Option SaidStanza
stanza_with uuid [] = None
stanza_with uuid (stanza ∷ more) = if bytes_eq stanza.uuid uuid then Some stanza else stanza_with uuid more

abbrev pub found_text : Option SaidStanza → List ℕ
found_text None = codes "- missing"
found_text (Some stanza) = stanza_text stanza

-- a dependency has its own name and what its identifier's stanza says
abbrev pub dep_line : List SaidStanza → List ℕ × List ℕ → List ℕ
dep_line stanzas dep = package_line dep.0 dep.1 (found_text (stanza_with dep.1 stanzas))

abbrev pub project_line : Path → List ℕ
project_line path = codes "project " ++ (path_text path ++ 10 ∷ [])

abbrev pub packed_line : Path → List ℕ
packed_line path = codes "packed " ++ (path_text path ++ 10 ∷ [])

-- the lines of all stanzas, or of the dependencies
abbrev pub package_lines : Bool → Both → List ℕ
package_lines true both = flat_map stanza_line both.stanzas
package_lines false both = flat_map (dep_line both.stanzas) both.deps

abbrev pub status_text : Bool → Bool → Both → List Path → List ℕ
status_text all extensions both paths =
    project_line both.file ++ (package_lines all both ++ (extension_lines extensions both.stanzas ++ flat_map packed_line paths))

abbrev pub status_of : Files → Place → Bool → Bool → Both → Result (List ℕ) Status
status_of files place all extensions both = Ok (status_text all extensions both (packed files place.depots.items))

abbrev pub status_due : Files → Place → Bool → Bool → Result (List ℕ) Status
status_due files place all extensions = then_ok (both_in files place) (status_of files place all extensions)
