-- A registry's file and a package's table stop at the first refusal in key order: of the refused keys the one whose bytes
-- come first. The laws list the keys in any order; `in_key_order` sorts them by their bytes.
use Rattle.std.specs.Prelude.{◌≡◌, ℕ, List, [], ◌∷◌, codes}
use Rattle.toml.specs.Data.{Members}
use Rattle.toml_view.specs.KeyOrder.{in_key_order, verdict}
use Rattle.toml_view.specs.Reading.{text_of, uuid_of, need}
use Rattle.pkg_world.specs.Path.{Path}
use Rattle.registry_tables.specs.Registry.{registry_of, packages_at, package_of_members, path_of}

abbrev pub RegistryKeyOrder : Type 0
RegistryKeyOrder = (folder : Path) (members : Members) → registry_of folder members ≡ in_key_order (
    verdict (codes "name") (need text_of (codes "name") members)
    ∷ verdict (codes "uuid") (need uuid_of (codes "uuid") members)
    ∷ verdict (codes "packages") (packages_at folder members)
    ∷ []) (registry_of folder members)

abbrev pub PackageKeyOrder : Type 0
PackageKeyOrder = (folder : Path) (uuid : List ℕ) (members : Members) → package_of_members folder uuid members ≡ in_key_order (
    verdict (codes "path") (need (path_of folder) (codes "path") members)
    ∷ verdict (codes "name") (need text_of (codes "name") members)
    ∷ []) (package_of_members folder uuid members)
