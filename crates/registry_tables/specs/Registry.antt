-- What the file of a registry says (Pkg, Registry.toml): the registry's name and identifier, and its packages by their
-- identifiers. Other keys are ignored; the first refusal in key order counts.
use Rattle.std.specs.Prelude.{◌≡◌, ℕ, Bool, if◌then◌else◌, List, [], ◌∷◌, ◌++◌, codes, Some, None, option_map, Result, Ok, MatchResult}
use Rattle.toml.specs.Data.{Data, Members, no_members, member, as_table}
use Rattle.uuid.specs.Text.{parsed}
use Rattle.toml_view.specs.Reading.{text_of, uuid_of, or_shape, chained, mapped, at, need}
use Rattle.toml_view.specs.Causes.{caused}
use Rattle.toml_view.specs.Answers.{Refuses as StopRefuses}
use Rattle.toml_view.specs.declared.refusal.Refusal.{Refusal}
use Rattle.toml_view.specs.declared.refusal.Stop.{Stop}
use Rattle.pkg_world.specs.Path.{Path, joined}
use Rattle.pkg_world.specs.Tree.{Files}
use Rattle.registry_tables.specs.Answers.{Read, then_read, at_file, needed_table, Refuses}
use Rattle.registry_tables.specs.Packages.{is_listed}
use Rattle.registry_tables.specs.Registries.{registry_file}
use Rattle.registry_tables.specs.declared.fault.RegFault.{RegFault}
use Rattle.registry_tables.specs.declared.package_list.Package.{Package}
use Rattle.registry_tables.specs.declared.package_list.Registry.{Registry}

-- a registry, its packages in the order of their keys' bytes
pub record Registered : Type 0 where
  pub folder : Path
  pub name : List ℕ
  pub uuid : List ℕ
  pub packages : List Package

-- an identifier that no earlier key has
abbrev pub unless_earlier : (List ℕ → Bool) → List ℕ → Result (List ℕ) Refusal
unless_earlier is_earlier uuid = or_shape (if is_earlier uuid then None else Some uuid)

-- the identifier that a key spells: a text that the crate `uuid` reads, and the second key of an identifier is refused
abbrev pub key_of : (List ℕ → Bool) → List ℕ → Result (List ℕ) Refusal
key_of is_earlier key = chained (unless_earlier is_earlier) (or_shape (parsed key))

-- a path's text; one that rises above the root, taken from the registry's folder, is refused
abbrev pub path_of_text : Path → List ℕ → Result (List ℕ) Refusal
path_of_text folder text = or_shape (option_map (λ _. text) (joined folder text))

abbrev pub path_of : Path → Data → Result (List ℕ) Refusal
path_of folder value = chained (path_of_text folder) (text_of value)

-- the package of an identifier, from the members at its key
abbrev pub package_of_members : Path → List ℕ → Members → Result Package Refusal
package_of_members folder uuid members =
    chained (λ name. mapped (λ path. record { uuid = uuid; name = name; path = path }) (need (path_of folder) (codes "path") members)) (need text_of (codes "name") members)

-- the package at a key: first the key, then its value
abbrev pub package_of : Path → (List ℕ → Bool) → List ℕ → Data → Result Package Refusal
package_of folder is_earlier key value =
    chained (λ uuid. chained (package_of_members folder uuid) (or_shape (as_table value))) (key_of is_earlier key)

-- the packages of a table, with those of the keys before it
abbrev pub packages_of_members : Path → List Package → Members → Result (List Package) Refusal
packages_of_members folder earlier no_members = Ok []
packages_of_members folder earlier (member key value more) =
    chained (λ found. mapped (λ rest. found ∷ rest) (packages_of_members folder (earlier ++ found ∷ []) more)) (at key (package_of folder (is_listed earlier) key value))

abbrev pub packages_of : Path → Data → Result (List Package) Refusal
packages_of folder value = chained (packages_of_members folder []) (or_shape (as_table value))

-- the packages of a registry's table, which must be there
abbrev pub packages_at : Path → Members → Result (List Package) Refusal
packages_at folder members = need (packages_of folder) (codes "packages") members

-- the registry of a table, in the order of its keys
abbrev pub registry_of : Path → Members → Result Registered Refusal
registry_of folder members =
    chained (λ name.
    chained (λ packages.
    mapped (λ uuid. record { folder = folder; name = name; uuid = uuid; packages = packages })
    (need uuid_of (codes "uuid") members))
    (packages_at folder members))
    (need text_of (codes "name") members)

-- the registry in a folder
abbrev pub registry_in : Files → Path → Read Registered
registry_in files folder = then_read (λ members. at_file (registry_file folder) (caused (registry_of folder members))) (needed_table files (registry_file folder))

-- what a registry that was read stands for
abbrev pub registered : Registry → Registered
registered registry = record { folder = registry.folder; name = registry.name; uuid = registry.uuid; packages = registry.packages }

abbrev pub LoadsRegistry : Read Registered → Result Registry RegFault → Type 0
LoadsRegistry reading answer = MatchResult answer (λ registry. reading ≡ Ok (registered registry)) (Refuses reading)

-- what a stopped reading of a registry's table tells
abbrev pub GivesRegistry : Result Registered Refusal → Result Registry Stop → Type 0
GivesRegistry reading answer = MatchResult answer (λ registry. reading ≡ Ok (registered registry)) (λ stop. StopRefuses stop reading)
