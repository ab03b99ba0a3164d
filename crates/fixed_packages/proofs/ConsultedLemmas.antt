-- Fixed packages rest on what their project files hold.
use Rattle.std.proofs.Common.{◌≡◌, ℕ, List, [], ◌∷◌, ◌++◌, codes, Ok, refl, ap}
use Rattle.std.specs.List.{flat_map}
use Rattle.pkg_world.specs.Each.{then_ok, read_each}
use Rattle.pkg_world.specs.Path.{Path}
use Rattle.pkg_world.specs.Tree.{Files, Content, holds}
use Rattle.package_tables.specs.Row.{by_bytes, put_to}
use Rattle.project_places.specs.Files as places
use Rattle.manifest_file.specs.declared.origin.Origin.{Origin}
use Rattle.registry_tables.specs.Answers.{Read}
use Rattle.registry_tables.specs.Consulted.{AgreeAt}
use Rattle.registry_tables.proofs.Agreeing.{all-front, all-back, each-same, chosen-same}
use Rattle.fixed_packages.specs.Candidates.{candidates}
use Rattle.fixed_packages.specs.Consulted.{basis_files, files_of, FixedRestOnFiles}
use Rattle.fixed_packages.specs.FixedPackages.{Key, InReadingOrder, Said, by_id, by_name, read_as, or_missing, given_by, package_read, packages_read}
use Rattle.fixed_packages.specs.Given.{of_project}
use Rattle.fixed_packages.specs.SaidGiven.{SaidGiven}
use Rattle.fixed_packages.specs.declared.basis.Basis.{Basis}
use Rattle.fixed_packages.specs.declared.basis.Basis.TheVariants.{Folder, Escaping, Stated}

-- what a package in a folder says whose project file holds this
abbrev given_as : List ℕ → Origin → Path → Content → Read SaidGiven
given_as name origin file there = then_ok (then_ok (read_as (places.at_file file (places.project_in there))) (or_missing file)) (λ said. Ok (of_project name origin said))

module _ (a b : Files) where
  given-same : (name : List ℕ) (basis : Basis) → AgreeAt (basis_files basis) a b → given_by a name basis ≡ given_by b name basis
  given-same name (Folder folder origin) all =
      chosen-same a b (folder ++ codes "JuliaProject.toml" ∷ []) (folder ++ codes "Project.toml" ∷ []) all.0 all.1.0 (given_as name origin)
  given-same name (Escaping file keys) all = refl
  given-same name (Stated given) all = refl

  packages-same : (packages : InReadingOrder) → AgreeAt (files_of packages) a b → packages_read a packages ≡ packages_read b packages
  packages-same [] all = refl
  packages-same (entry ∷ more) all =
      each-same (package_read a) (package_read b) entry more
      (ap (λ r. then_ok r (λ given. Ok ((entry.0.1, given) ∷ []))) (given-same entry.0.0 entry.1 (all-front (λ path. holds path a ≡ holds path b) (basis_files entry.1) (files_of more) all)))
      (packages-same more (all-back (λ path. holds path a ≡ holds path b) (basis_files entry.1) (files_of more) all))

pub fixed-rest : FixedRestOnFiles
fixed-rest one other home said found all =
    ap (λ r. then_ok r (λ given. Ok (put_to by_bytes [] given))) (packages-same one other (by_name (by_id (candidates home said found))) all)
