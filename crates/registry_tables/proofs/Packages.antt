-- Going over a table of packages: what was read so far, and the rest.
use Rattle.std.proofs.Common.{◌≡◌, ℕ, Bool, List, [], ◌∷◌, ◌++◌, Option, Some, None, IfSome, subst, Result, Ok, Err, String, Global, string_bytes, refl, sym, ap, ◌∙◌, append_assoc}
use Rattle.toml.specs.View.{view, members_view}
use Rattle.toml_view.specs.declared.refusal.Refusal.{Refusal}
use Rattle.toml_view.specs.declared.refusal.Stop.{Stop}
use Rattle.toml_view.specs.Answers.{Refuses as StopRefuses}
use Rattle.toml_view.specs.Causes.{caused}
use Rattle.toml_view.specs.Reading.{at, chained, mapped}
use Rattle.toml.specs.Data.{Members}
use Rattle.pkg_world.specs.Path.{Path}
use Rattle.pkg_world.specs.Tree.{Files}
use Rattle.pkg_world.specs.Each.{onto}
use Rattle.package_tables.proofs.Walks.{TomlEntry, onto_next, refuses_whole}
use Rattle.registry_tables.specs.Answers.{Read, then_read, at_file, needed_table}
use Rattle.registry_tables.specs.Registries.{registry_file}
use Rattle.registry_tables.specs.declared.fault.RegFault.{RegFault}
use Rattle.registry_tables.specs.declared.package_list.Registry.{Registry}
use Rattle.registry_tables.specs.Packages.{is_listed}
use Rattle.registry_tables.specs.Registry.{package_of, packages_of_members, registry_of, registry_in, Registered, LoadsRegistry}
use Rattle.registry_tables.specs.declared.package_list.Package.{Package}

-- one package more
pub packages-next : (folder : Path) (done : List Package) (found : Package) (entries rest : List TomlEntry) (e : TomlEntry) (whole : Result (List Package) Refusal) → entries ≡ e ∷ rest
    → at (string_bytes e.0) (package_of folder (is_listed done) (string_bytes e.0) (view e.1)) ≡ Ok found
    → whole ≡ onto done (packages_of_members folder done (members_view entries))
    → whole ≡ onto (done ++ found ∷ []) (packages_of_members folder (done ++ found ∷ []) (members_view rest))
packages-next folder done found entries rest e whole iter there same =
    same ∙ ap (λ t. onto done (packages_of_members folder done (members_view t))) iter
    ∙ ap (λ r. onto done (chained (λ p. mapped (λ ps. p ∷ ps) (packages_of_members folder (done ++ p ∷ []) (members_view rest))) r)) there
    ∙ onto_next done found (packages_of_members folder (done ++ found ∷ []) (members_view rest))

-- a package that is refused
pub refused-next : (stop : Stop) (folder : Path) (done : List Package) (entries rest : List TomlEntry) (e : TomlEntry) (whole : Result (List Package) Refusal) → entries ≡ e ∷ rest
    → StopRefuses stop (at (string_bytes e.0) (package_of folder (is_listed done) (string_bytes e.0) (view e.1)))
    → whole ≡ onto done (packages_of_members folder done (members_view entries)) → StopRefuses stop whole
refused-next stop folder done entries rest e whole iter refused all =
    refuses_whole stop (at (string_bytes e.0) (package_of folder (is_listed done) (string_bytes e.0) (view e.1)))
    (λ p. mapped (λ ps. p ∷ ps) (packages_of_members folder (done ++ p ∷ []) (members_view rest))) done whole refused
    (all ∙ ap (λ t. onto done (packages_of_members folder done (members_view t))) iter)

-- the registry of a folder's file
pub registry-loads : (files : Option Files) (folder file : Path) (known : Members) (answer : Result Registry RegFault) → file ≡ registry_file folder
    → IfSome files (λ all. needed_table all file ≡ Ok known) → LoadsRegistry (at_file file (caused (registry_of folder known))) answer
    → IfSome files (λ all. LoadsRegistry (registry_in all folder) answer)
registry-loads None folder file known answer here there loads = tt
registry-loads (Some all) folder file known answer here there loads =
    let P : Read Registered → Type 0 = λ reading. LoadsRegistry reading answer in
    let table : needed_table all (registry_file folder) ≡ Ok known = ap (needed_table all) (sym here) ∙ there in
    let same : at_file file (caused (registry_of folder known)) ≡ registry_in all folder =
    ap (λ f. at_file f (caused (registry_of folder known))) here
    ∙ ap (then_read (λ m. at_file (registry_file folder) (caused (registry_of folder m)))) (sym table) in
    subst P same loads
