-- A reading rests on what its files hold.
use Rattle.std.proofs.Common.{◌≡◌, ℕ, List, [], ◌∷◌, ◌++◌, map, codes, Option, Some, None, Result, Ok, refl, ap, ◌∙◌}
use Rattle.toml.specs.Data.{Members}
use Rattle.toml_view.specs.Causes.{caused}
use Rattle.pkg_world.specs.Path.{Path, joined}
use Rattle.pkg_world.specs.Tree.{Files, holds, file_bytes}
use Rattle.pkg_world.specs.declared.cause.Cause.{Cause}
use Rattle.compat_spec.specs.Ranges.{Ranged}
use Rattle.package_tables.specs.Sections.{package_of as own_table}
use Rattle.package_tables.specs.Tables.{version_rows, id_entries, range_entries}
use Rattle.package_tables.specs.declared.package_rows.Entry.{Entry}
use Rattle.package_tables.specs.declared.package_rows.VersionRow.{VersionRow}
use Rattle.registry_tables.proofs.Agreeing.{all-front, all-back, each-same}
use Rattle.registry_tables.specs.Answers.{Read, then_read, at_file, optional_of, needed_of, needed_table}
use Rattle.registry_tables.specs.Registries.{registry_file}
use Rattle.registry_tables.specs.Registry.{Registered, registry_of}
use Rattle.registry_tables.specs.Rows.{Tables, Rows, package_at, versions_at, entries_at, entries_in, strong_in, weak_in, with_versions, after_package, package_in, versions_in, rows_at, tables_in as section_tables}
use Rattle.registry_tables.specs.declared.package_list.Package.{Package}
use Rattle.registered_offers.specs.Consulted.{AgreeAt, package_files, files_inside, files_where, files_at, table_files, RegistriesRestOnFiles, TablesRestOnFiles}
use Rattle.registered_offers.specs.ListedTables.{alone, registry_at, registries_in, package_of, tables_inside, tables_where, tables_at, tables_in}

abbrev with_compat : Read (List (Entry (List Ranged))) → List (Entry (List ℕ)) → Read Tables
with_compat compat deps = then_read (λ found. Ok (record { deps = deps; compat = found })) compat

abbrev with_weak : Package → List VersionRow → Read Tables → Tables → Read Rows
with_weak wanted versions weak strong = then_read (λ found. Ok (record { name = wanted.name; uuid = wanted.uuid; versions = versions; strong = strong; weak = found })) weak

module _ (a b : Files) where
  -- ---- one file

  needed-same : (file : Path) → holds file a ≡ holds file b → needed_table a file ≡ needed_table b file
  needed-same file same = ap (λ there. then_read (needed_of file) (optional_of file (file_bytes there))) same

  entries-same : {T : Type 0} (entries : Members → Result (List (Entry T)) Cause) (file : Path) → holds file a ≡ holds file b → entries_in entries a file ≡ entries_in entries b file
  entries-same entries file same = ap (λ there. then_read (entries_at entries file) (optional_of file (file_bytes there))) same

  package-same : (wanted : Package) (file : Path) → holds file a ≡ holds file b → package_at a wanted file ≡ package_at b wanted file
  unfolding package_at
  package-same wanted file same = ap (then_read (λ members. at_file file (caused (own_table wanted.name wanted.uuid members)))) (needed-same file same)

  versions-same : (file : Path) → holds file a ≡ holds file b → versions_at a file ≡ versions_at b file
  unfolding versions_at
  versions-same file same = ap (then_read (λ members. at_file file (version_rows members))) (needed-same file same)

  -- ---- the files of a package

  sections-same : (folder : Path) (versions : List VersionRow) (deps compat : List ℕ) → holds (folder ++ deps ∷ []) a ≡ holds (folder ++ deps ∷ []) b
      → holds (folder ++ compat ∷ []) a ≡ holds (folder ++ compat ∷ []) b → section_tables a folder versions deps compat ≡ section_tables b folder versions deps compat
  unfolding section_tables
  sections-same folder versions deps compat one two =
      ap (λ r. then_read (with_compat r) (entries_in (id_entries versions) a (folder ++ deps ∷ []))) (entries-same (range_entries versions) (folder ++ compat ∷ []) two)
      ∙ ap (then_read (with_compat (entries_in (range_entries versions) b (folder ++ compat ∷ [])))) (entries-same (id_entries versions) (folder ++ deps ∷ []) one)

  with_versions-same : (wanted : Package) (folder : Path) (versions : List VersionRow) → AgreeAt (package_files folder) a b → with_versions a wanted folder versions ≡ with_versions b wanted folder versions
  unfolding with_versions
  with_versions-same wanted folder versions all =
      let strong = sections-same folder versions (codes "Deps.toml") (codes "Compat.toml") all.1.1.0 all.1.1.1.0 in
      let weak = sections-same folder versions (codes "WeakDeps.toml") (codes "WeakCompat.toml") all.1.1.1.1.0 all.1.1.1.1.1.0 in
      ap (λ r. then_read (with_weak wanted versions r) (strong_in a folder versions)) weak
      ∙ ap (then_read (with_weak wanted versions (weak_in b folder versions))) strong

  rows-same : (wanted : Package) (folder : Path) → AgreeAt (package_files folder) a b → rows_at a wanted folder ≡ rows_at b wanted folder
  rows-same wanted folder all =
      let with_all : with_versions a wanted folder ≡ with_versions b wanted folder = λ i versions. with_versions-same wanted folder versions all i in
      let after : after_package a wanted folder ≡ after_package b wanted folder =
      ap (λ f. then_read f (versions_in a folder)) with_all
      ∙ ap (then_read (with_versions b wanted folder)) (versions-same (folder ++ codes "Versions.toml" ∷ []) all.1.0) in
      ap (λ r. then_read (λ _. r) (package_in a wanted folder)) after
      ∙ ap (then_read (λ _. after_package b wanted folder)) (package-same wanted (folder ++ codes "Package.toml" ∷ []) all.0)

  -- ---- registries

  inside-same : (folder : Path) (wanted : Package) (inside : Option Path) → AgreeAt (files_inside inside) a b → tables_inside a folder wanted inside ≡ tables_inside b folder wanted inside
  inside-same folder wanted None all = refl
  inside-same folder wanted (Some inside) all = ap alone (rows-same wanted inside all)

  where-same : (folder : Path) (found : Option Package) → AgreeAt (files_where folder found) a b → tables_where a folder found ≡ tables_where b folder found
  where-same folder None all = refl
  where-same folder (Some wanted) all = inside-same folder wanted (joined folder wanted.path) all

  tables-same : (registries : List Registered) (uuid : List ℕ) → AgreeAt (table_files registries uuid) a b → tables_in a registries uuid ≡ tables_in b registries uuid
  tables-same [] uuid all = refl
  tables-same (registry ∷ more) uuid all =
      each-same (tables_at a uuid) (tables_at b uuid) registry more
      (where-same registry.folder (package_of uuid registry) (all-front (λ path. holds path a ≡ holds path b) (files_at uuid registry) (table_files more uuid) all))
      (tables-same more uuid (all-back (λ path. holds path a ≡ holds path b) (files_at uuid registry) (table_files more uuid) all))

  registry-same : (folder : Path) → holds (registry_file folder) a ≡ holds (registry_file folder) b → registry_at a folder ≡ registry_at b folder
  registry-same folder same = ap (λ r. alone (then_read (λ members. at_file (registry_file folder) (caused (registry_of folder members))) r)) (needed-same (registry_file folder) same)

  registries-same : (folders : List Path) → AgreeAt (map registry_file folders) a b → registries_in a folders ≡ registries_in b folders
  registries-same [] all = refl
  registries-same (folder ∷ more) all = each-same (registry_at a) (registry_at b) folder more (registry-same folder all.0) (registries-same more all.1)

pub registries-rest : RegistriesRestOnFiles
registries-rest one other folders all = registries-same one other folders all

pub tables-rest : TablesRestOnFiles
tables-rest one other registries uuid all = tables-same one other registries uuid all
