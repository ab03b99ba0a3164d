-- The first folder of a list of paths.
use Rattle.std.proofs.Common.{◌≡◌, Bool, true, false, if◌then◌else◌, List, [], ◌∷◌, ◌++◌, Option, Some, None, Result, Ok, Err, IfSome, IfOk, sym, ◌∙◌, refl}
use Rattle.depot_hash.specs.declared.fault.FolderFault.{FolderFault}
use Rattle.pkg_world.specs.Path.{Path}
use Rattle.pkg_world.specs.Tree.{Files}
use Rattle.depot_hash.specs.Installed.{first_there, is_there}

chosen : (files : Files) (there : Bool) (path : Option Path) (xs ys : List (Option Path)) (found : Path) → ((first_there files xs ≡ Some found) → first_there files (xs ++ ys) ≡ Some found)
    → (if there then path else first_there files xs) ≡ Some found → (if there then path else first_there files (xs ++ ys)) ≡ Some found
chosen files true path xs ys found next h = h
chosen files false path xs ys found next h = next h

pub there_in_front : (files : Files) (xs ys : List (Option Path)) (found : Path) → first_there files xs ≡ Some found → first_there files (xs ++ ys) ≡ Some found
there_in_front files [] ys found h = cc
there_in_front files (path ∷ xs) ys found h = chosen files (is_there files path) path xs ys found (there_in_front files xs ys found) h

passed_by : (files : Files) (path : Option Path) (there : Bool) (xs ys : List (Option Path)) → is_there files path ≡ there → ((first_there files xs ≡ None) → first_there files (xs ++ ys) ≡ first_there files ys)
    → (if there then path else first_there files xs) ≡ None → (if there then path else first_there files (xs ++ ys)) ≡ first_there files ys
passed_by files None true xs ys is next h = cc
passed_by files (Some path) true xs ys is next h = cc
passed_by files path false xs ys is next h = next h

pub none_in_front : (files : Files) (xs ys : List (Option Path)) → first_there files xs ≡ None → first_there files (xs ++ ys) ≡ first_there files ys
none_in_front files [] ys h = refl
none_in_front files (path ∷ xs) ys h = passed_by files path (is_there files path) xs ys refl (none_in_front files xs ys) h

pub told_in_front : (files : Option Files) (xs ys : List (Option Path)) (found : Path) → IfSome files (λ all. Some found ≡ first_there all xs) → IfSome files (λ all. Some found ≡ first_there all (xs ++ ys))
told_in_front None xs ys found h = tt
told_in_front (Some all) xs ys found h = sym (there_in_front all xs ys found (sym h))

pub told_behind : (files : Option Files) (xs ys : List (Option Path)) (answer : Result (Option Path) FolderFault) → IfSome files (λ all. None ≡ first_there all xs)
    → IfSome files (λ all. IfOk answer (λ path. path ≡ first_there all ys)) → IfSome files (λ all. IfOk answer (λ path. path ≡ first_there all (xs ++ ys)))
told_behind None xs ys answer h k = tt
told_behind (Some all) xs ys (Ok path) h k = k ∙ sym (none_in_front all xs ys (sym h))
told_behind (Some all) xs ys (Err fault) h k = tt
