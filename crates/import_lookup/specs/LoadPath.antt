-- The elements of the load path (Julia manual, Code Loading; that an empty text has none is our own).
use Rattle.std.specs.Prelude.{ℕ, ◌==◌, if◌then◌else◌, List, [], ◌∷◌, length, codes, Option, Some, None, Ok}
use Rattle.std.specs.List.{flat_map}
use Rattle.pkg_world.specs.declared.place.Place.{Place}
use Rattle.pkg_world.specs.Path.{pieces_at}
use Rattle.pkg_world.specs.Tree.{Files}
use Rattle.project_places.specs.declared.element.Element.{Element}
use Rattle.project_places.specs.declared.element.Element.TheVariants.{Project, Folder, Nothing}
use Rattle.pkg_world.specs.Each.{then_ok, read_each}
use Rattle.project_places.specs.Elements.{element}
use Rattle.project_places.specs.Files.{Read}
use Rattle.env_maps.specs.Maps.{env_in}
use Rattle.import_lookup.specs.declared.loaded.Environment.{Environment}
use Rattle.import_lookup.specs.declared.loaded.Environment.TheVariants as kinds

-- what an absent text stands for, and an empty element
abbrev pub default_elements : List (List ℕ)
default_elements = codes "@" ∷ codes "@v#.#" ∷ codes "@stdlib" ∷ []

abbrev pub elements_of : List ℕ → List (List ℕ)
elements_of piece = if length piece == 0 then default_elements else piece ∷ []

-- the elements of a text, which colons part; an empty text has none
abbrev pub elements : Option (List ℕ) → List (List ℕ)
elements None = default_elements
elements (Some text) = if length text == 0 then [] else flat_map elements_of (pieces_at 58 text)

-- the environment of an element; one without entries is left out
abbrev pub environment_at : Files → Place → Element → Read (List Environment)
environment_at files place (Project file) = then_ok (env_in files place file) (λ env. Ok (kinds.Project env ∷ []))
environment_at files place (Folder folder) = Ok (kinds.Folder folder ∷ [])
environment_at files place Nothing = Ok []

abbrev pub environment_of : Files → Place → List ℕ → Read (List Environment)
environment_of files place text = environment_at files place (element files place text)

-- the environments of the load path, in their order; the first refused file counts
abbrev pub environments : Files → Place → Read (List Environment)
environments files place = read_each (environment_of files place) (elements place.load_path)
