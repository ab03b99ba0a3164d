-- What becomes of the fixed packages by `develop` and `free`; they stand in the order of their identifiers. (Own rules.)
--     developed path project           what the folder at the path fixes, by its project file
--     with_fixed given fixed           the packages with this one, in place of another one of its identifier
--     without_fixed id fixed           the packages without the one of this identifier
use Rattle.std.specs.Prelude.{Bool, not, List, ◌∷◌, ◌++◌, filter, Option, Some, None}
use Rattle.std.specs.Ordering.{is_lt, is_gt}
use Rattle.std.specs.Str.{bytes_eq}
use Rattle.pkg_world.specs.Path.{Path, path_text}
use Rattle.package_tables.specs.Row.{by_bytes}
use Rattle.project_file.specs.Said as project
use Rattle.manifest_file.specs.declared.origin.Origin.TheVariants as origins
use Rattle.fixed_packages.specs.Given.{of_project}
use Rattle.offer_terms.specs.Offered.{Text, Id}
use Rattle.offer_terms.specs.Demanded.{FixedSaid}
use Rattle.offer_catalog.specs.Catalogued.{fixed_of}

-- a project without a name and an identifier is no package, and fixes nothing
abbrev pub developed_as : Path → project.Said → Option Text → Option Id → Option FixedSaid
developed_as path said (Some name) (Some id) = Some (fixed_of (id, of_project name (origins.Path (path_text path)) said))
developed_as path said (Some name) None = None
developed_as path said None id = None

abbrev pub developed : Path → project.Said → Option FixedSaid
developed path said = developed_as path said said.name said.uuid

abbrev pub is_before : Id → FixedSaid → Bool
is_before id it = is_lt (by_bytes it.uuid id)

abbrev pub is_behind : Id → FixedSaid → Bool
is_behind id it = is_gt (by_bytes it.uuid id)

abbrev pub is_another : Id → FixedSaid → Bool
is_another id it = not (bytes_eq id it.uuid)

abbrev pub with_fixed : FixedSaid → List FixedSaid → List FixedSaid
with_fixed given fixed = filter (is_before given.uuid) fixed ++ given ∷ filter (is_behind given.uuid) fixed

abbrev pub without_fixed : Id → List FixedSaid → List FixedSaid
without_fixed id fixed = filter (is_another id) fixed
