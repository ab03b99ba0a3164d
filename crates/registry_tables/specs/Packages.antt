-- The packages that a registry lists, and how they are kept to be found.
use Rattle.std.specs.Prelude.{◌≡◌, ℕ, Bool, List, map}
use Rattle.std.specs.List.{list_any}
use Rattle.std.specs.Map.{values_of}
use Rattle.std.specs.Str.{bytes_eq}
use Rattle.registry_tables.specs.declared.package_list.Package.{Package}

-- whether a package has an identifier
abbrev pub is_listed : List Package → List ℕ → Bool
is_listed packages uuid = list_any (λ it. bytes_eq uuid it.uuid) packages

-- a package at its identifier
abbrev pub with_id : Package → List ℕ × Package
with_id it = (it.uuid, it)

-- each package stands at its own identifier
abbrev pub IsById : List (List ℕ × Package) → Type 0
IsById entries = entries ≡ map with_id (values_of entries)
