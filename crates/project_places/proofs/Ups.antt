-- A path and those above it.
use Rattle.std.proofs.Common.{◌≡◌, ℕ, suc, ◌-◌, ◌==◌, true, false, List, [], ◌∷◌, ◌++◌, Some, None, length, map, take, refl, ap, sym, ◌∙◌, arith}
use Rattle.std.proofs.lemmas.Bool.{false≢true}
use Rattle.std.proofs.lemmas.Bool.Decides.{nat_tests}
use Rattle.std.specs.Str.{bytes_eq}
use Rattle.pkg_world.specs.Path.{Path, folder_of, path_text, are_plain}
use Rattle.pkg_world.specs.Tree.{Files}
use Rattle.project_places.specs.Active.{upwards, has_project, nearest, first_with}

-- a list with a member isn't empty
some_length : {X : Type 0} (x : X) (xs : List X) → (length (x ∷ xs) == 0) ≡ false
some_length x xs = grind (arith, nat_tests)

folder_next : (part next : List ℕ) (path : Path) → folder_of (part ∷ next ∷ path) ≡ part ∷ folder_of (next ∷ path)
folder_next part next path = let less : suc (suc (length path)) - 1 ≡ suc (suc (length path) - 1) = omega arith in ap (λ n. take n (part ∷ next ∷ path)) less

-- the folder above comes next
pub upwards_next : (part : List ℕ) (path : Path) → upwards (part ∷ path) ≡ (part ∷ path) ∷ upwards (folder_of (part ∷ path))
upwards_next part [] = refl
upwards_next part (next ∷ path) =
    ap (λ ps. map (λ above. part ∷ above) ps ++ [] ∷ []) (upwards_next next path) ∙ ap (λ above. (part ∷ next ∷ path) ∷ upwards above) (sym (folder_next part next path))

-- only the root is printed as a slash alone
pub root_text : (path : Path) → are_plain path ≡ true → bytes_eq (path_text path) (47 ∷ []) ≡ (length path == 0)
root_text [] plain = refl
root_text ([] ∷ more) plain = absurd (false≢true plain)
root_text ((b ∷ bs) ∷ more) plain = sym (some_length (b ∷ bs) more)

-- a folder with a project file is the nearest to itself
pub nearest_here : (files : Files) (folder : Path) → has_project files folder ≡ true → nearest files folder ≡ Some folder
nearest_here files [] has = rw has refl
nearest_here files (part ∷ path) has = ap (first_with (has_project files)) (upwards_next part path) ∙ rw has refl

-- above the root there is none
pub nearest_root : (files : Files) (folder : Path) → has_project files folder ≡ false → (length folder == 0) ≡ true → nearest files folder ≡ None
nearest_root files [] none root = rw none refl
nearest_root files (part ∷ path) none root = absurd (false≢true (sym (some_length part path) ∙ root))

-- else it is the nearest to the folder above
pub nearest_above : (files : Files) (folder : Path) → has_project files folder ≡ false → (length folder == 0) ≡ false → nearest files folder ≡ nearest files (folder_of folder)
nearest_above files [] none root = absurd (false≢true (sym root))
nearest_above files (part ∷ path) none root = ap (first_with (has_project files)) (upwards_next part path) ∙ rw none refl
