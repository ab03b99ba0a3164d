-- A catalog rests on the names in its folders and on what its files hold.
use Rattle.std.proofs.Common.{◌≡◌, Bool, true, false, cond, List, [], ◌∷◌, ◌++◌, map, filter, Option, Some, None, option_to_list, Ok, refl, ap, ◌∙◌}
use Rattle.std.specs.List.{flat_map}
use Rattle.pkg_world.specs.Each.{then_ok}
use Rattle.pkg_world.specs.Path.{Path}
use Rattle.pkg_world.specs.Tree.{Files, at, holds, names_at, is_file}
use Rattle.pkg_world.specs.declared.place.Home.{Home}
use Rattle.pkg_world.specs.declared.place.Place.{Place}
use Rattle.project_file.specs.Said as project
use Rattle.manifest_file.specs.Saying as manifest
use Rattle.registry_tables.specs.Consulted.{AgreeAt, ListAlike}
use Rattle.registry_tables.specs.Registries.{registry_file, is_registry, registries_of, in_folder, folders}
use Rattle.registry_tables.proofs.Agreeing.{all-front, all-back}
use Rattle.registered_offers.specs.ListedTables.{registries_in}
use Rattle.registered_offers.proofs.ConsultedLemmas.{registries-rest}
use Rattle.standard_libraries.specs.Consulted.{library_files}
use Rattle.standard_libraries.proofs.ConsultedLemmas.{in-folder-same, libraries-rest}
use Rattle.fixed_packages.specs.Consulted.{fixed_files}
use Rattle.fixed_packages.specs.FixedPackages.{read_as}
use Rattle.fixed_packages.proofs.ConsultedLemmas.{fixed-rest}
use Rattle.offer_catalog.specs.Catalogued as spec
use Rattle.offer_catalog.specs.Catalogued.{Unfixed, unfixed_in, with_libraries, with_fixed, joined}
use Rattle.offer_catalog.specs.Consulted.{depot_files, CatalogRestsOnFiles}

module _ (a b : Files) where
  abbrev Held : Path → Type 0
  Held path = holds path a ≡ holds path b

  abbrev Listed : Path → Type 0
  Listed folder = names_at (at folder a) ≡ names_at (at folder b)

  -- the folders that are registries
  registries-same : (paths : List Path) → AgreeAt (map registry_file paths) a b → filter (is_registry a) paths ≡ filter (is_registry b) paths
  registries-same [] all = refl
  registries-same (path ∷ more) all =
      ap (λ there. cond (is_file there) (path ∷ filter (is_registry a) more) (filter (is_registry a) more)) all.0
      ∙ ap (λ rest. cond (is_registry b path) (path ∷ rest) rest) (registries-same more all.1)

  depot-same : (depot : Path) → Listed (registries_of depot) → AgreeAt (depot_files a depot) a b
      → filter (is_registry a) (in_folder a (registries_of depot)) ≡ filter (is_registry b) (in_folder b (registries_of depot))
  depot-same depot listed all =
      registries-same (in_folder a (registries_of depot)) all ∙ ap (filter (is_registry b)) (in-folder-same a b (registries_of depot) listed)

  folders-same : (depots : List Path) → ListAlike (map registries_of depots) a b → AgreeAt (flat_map (depot_files a) depots) a b → folders a depots ≡ folders b depots
  folders-same [] listed all = refl
  folders-same (depot ∷ more) listed all =
      ap (λ here. here ++ folders a more) (depot-same depot listed.0 (all-front Held (depot_files a depot) (flat_map (depot_files a) more) all))
      ∙ ap (λ rest. filter (is_registry b) (in_folder b (registries_of depot)) ++ rest)
      (folders-same more listed.1 (all-back Held (depot_files a depot) (flat_map (depot_files a) more) all))

  -- what is true of the files of all that stands there is true of those of the registries
  kept-all : (test : Path → Bool) (paths more : List Path) → AgreeAt (map registry_file paths) a b → AgreeAt (map registry_file more) a b → AgreeAt (map registry_file (filter test paths ++ more)) a b
  kept-all test [] more all rest = rest
  kept-all test (path ∷ paths) more all rest = by (test path) (kept-all test paths more all.1 rest)
    where
      by : (t : Bool) → AgreeAt (map registry_file (filter test paths ++ more)) a b → AgreeAt (map registry_file (cond t (path ∷ filter test paths) (filter test paths) ++ more)) a b
      by true h = (all.0, h)
      by false h = h

  files-same : (depots : List Path) → AgreeAt (flat_map (depot_files a) depots) a b → AgreeAt (map registry_file (folders a depots)) a b
  files-same [] all = tt
  files-same (depot ∷ more) all =
      kept-all (is_registry a) (in_folder a (registries_of depot)) (folders a more) (all-front Held (depot_files a depot) (flat_map (depot_files a) more) all)
      (files-same more (all-back Held (depot_files a depot) (flat_map (depot_files a) more) all))

  loaded-same : (depots : List Path) → ListAlike (map registries_of depots) a b → AgreeAt (flat_map (depot_files a) depots) a b
      → registries_in a (folders a depots) ≡ registries_in b (folders b depots)
  loaded-same depots listed all = registries-rest a b (folders a depots) (files-same depots all) ∙ ap (registries_in b) (folders-same depots listed all)

  unfixed-same : (place : Place) → ListAlike (map registries_of place.depots.items) a b → ListAlike (option_to_list place.stdlib) a b
      → AgreeAt (flat_map (depot_files a) place.depots.items) a b → AgreeAt (library_files a place.stdlib) a b → unfixed_in a place ≡ unfixed_in b place
  unfixed-same place depots stdlib registries libraries =
      let with_same : with_libraries a place ≡ with_libraries b place =
      λ i found. then_ok (read_as (libraries-rest a b place.julia place.stdlib stdlib libraries i)) (λ given. Ok (record { registries = found; libraries = given })) in
      ap (λ next. then_ok (spec.registries_of a place) next) with_same
      ∙ ap (λ r. then_ok r (with_libraries b place)) (loaded-same place.depots.items depots registries)

pub catalog-rests : CatalogRestsOnFiles
catalog-rests one other place home said found listed all =
    let depots = flat_map (depot_files one) place.depots.items in
    let more = library_files one place.stdlib ++ fixed_files home said found in
    let rest = all-back (Held one other) depots more all in
    let fixed = fixed-rest one other home said found (all-back (Held one other) (library_files one place.stdlib) (fixed_files home said found) rest) in
    let with_same : with_fixed one home said found ≡ with_fixed other home said found = λ i unfixed. then_ok (fixed i) (λ given. Ok (joined home found unfixed given)) in
    ap (λ next. then_ok (unfixed_in one place) next) with_same
    ∙ ap (λ r. then_ok r (with_fixed other home said found))
    (unfixed-same one other place
    (all-front (Listed one other) (map registries_of place.depots.items) (option_to_list place.stdlib) listed)
    (all-back (Listed one other) (map registries_of place.depots.items) (option_to_list place.stdlib) listed)
    (all-front (Held one other) depots more all)
    (all-front (Held one other) (library_files one place.stdlib) (fixed_files home said found) rest))
