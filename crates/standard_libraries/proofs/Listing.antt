-- What stands in a folder, by the names that a listing tells.
use Rattle.std.proofs.Common.{◌≡◌, ℕ, List, [], Option, Some, None, IfSome, ap, subst}
use Rattle.std.specs.Option.{unwrap_or}
use Rattle.pkg_world.specs.Path.{Path}
use Rattle.pkg_world.specs.Tree.{Files, at, names_at}
use Rattle.registry_tables.specs.Registries.{children, in_folder}

pub listed-here : (P : Files → List Path → Type 0) (files : Option Files) (folder : Path) (names : List (List ℕ))
    → IfSome files (λ all. Some names ≡ names_at (at folder all)) → IfSome files (λ all. P all (children folder names)) → IfSome files (λ all. P all (in_folder all folder))
listed-here P None folder names listed told = tt
listed-here P (Some all) folder names listed told =
    let same : children folder names ≡ in_folder all folder = ap (λ n. children folder (unwrap_or n [])) listed in
    subst (P all) same told
