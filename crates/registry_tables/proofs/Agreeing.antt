-- Files that agree at some paths, and readings one after the other.
use Rattle.std.proofs.Common.{◌≡◌, Bool, true, false, if◌then◌else◌, List, [], ◌∷◌, ◌++◌, Result, ap, ◌∙◌}
use Rattle.std.specs.List.{AllByRecursion}
use Rattle.pkg_world.specs.Each.{joined_ok, read_each}
use Rattle.pkg_world.specs.Path.{Path}
use Rattle.pkg_world.specs.Tree.{Files, Content, holds, is_file}

-- what is true of all of a list is true of its parts
pub all-front : {A : Type 0} (P : A → Type 0) (xs ys : List A) → AllByRecursion P (xs ++ ys) → AllByRecursion P xs
all-front P [] ys all = tt
all-front P (x ∷ xs) ys all = (all.0, all-front P xs ys all.1)

pub all-back : {A : Type 0} (P : A → Type 0) (xs ys : List A) → AllByRecursion P (xs ++ ys) → AllByRecursion P ys
all-back P [] ys all = all
all-back P (x ∷ xs) ys all = all-back P xs ys all.1

-- readings that give the same of each item give the same
pub each-same : {S T R : Type 0} (read other : S → Result (List T) R) (x : S) (xs : List S) → read x ≡ other x → read_each read xs ≡ read_each other xs
    → read_each read (x ∷ xs) ≡ read_each other (x ∷ xs)
each-same read other x xs one rest = ap (λ r. joined_ok r (read_each read xs)) one ∙ ap (joined_ok (other x)) rest

-- of two paths the first where it is a file: where both hold the same, the same is chosen and holds the same
pub chosen-same : {T : Type 0} (a b : Files) (one two : Path) → holds one a ≡ holds one b → holds two a ≡ holds two b → (F : Path → Content → T)
    → F (if is_file (holds one a) then one else two) (holds (if is_file (holds one a) then one else two) a)
    ≡ F (if is_file (holds one b) then one else two) (holds (if is_file (holds one b) then one else two) b)
chosen-same a b one two first second F =
    ap (F (if is_file (holds one a) then one else two)) (either (is_file (holds one a)))
    ∙ ap (λ there. F (if is_file there then one else two) (holds (if is_file there then one else two) b)) first
  where
    either : (t : Bool) → holds (if t then one else two) a ≡ holds (if t then one else two) b
    either true = first
    either false = second
