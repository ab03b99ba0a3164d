-- The files of a world part.
use Rattle.std.proofs.Common.{◌≡◌, ℕ, zero, suc, ◌+◌, ◌/◌, ◌%◌, ◌<◌, ◌≤◌, ◌==◌, true, not, inl, inr, List, [], ◌∷◌, ◌++◌, get_or, codes, refl, sym, ap, ◌∙◌, arith}
use Rattle.std.proofs.lemmas.Bool.Decides.{nat_tests}
use Rattle.std.proofs.lemmas.Fmt.{decimal_digit}
use Rattle.std.specs.List.{AllByRecursion, flat_map, range_with_len}
use Rattle.pkg_world.specs.Path.{is_plain}
use Rattle.toml.specs.Data.{Members}
use Rattle.world_maker.specs.declared.ranges.Span.{Span}
use Rattle.world_maker.specs.Tables.{package_members, versions_members, deps_members, compat_members, registry_members, project_members}
use Rattle.world_maker.specs.Texts.{three, name}
use Rattle.world_maker.specs.World.{Tabled, needs_of, spans_of, registry, project, filed, first_files, package_files, drawn_files, sized_world}
use Rattle.world_maker.specs.Laid.{DoPart, ArePartedFrom, AreParted}

-- ---- names

pub digits_are : (k : ℕ) → three k ≡ (48 + k / 100 % 10) ∷ (48 + k / 10 % 10) ∷ (48 + k % 10) ∷ []
digits_are k =
    let hundreds : k / 100 % 10 < 10 = omega arith in
    let tens : k / 10 % 10 < 10 = omega arith in
    let ones : k % 10 < 10 = omega arith in
    rw (decimal_digit (k / 100 % 10) hundreds, decimal_digit (k / 10 % 10) tens, decimal_digit (k % 10) ones) refl

name_is : (k : ℕ) → name k ≡ 80 ∷ (48 + k / 100 % 10) ∷ (48 + k / 10 % 10) ∷ (48 + k % 10) ∷ []
name_is k = ap (λ digits. 80 ∷ digits) (digits_are k)

not_slash : (n : ℕ) → not ((48 + n) == 47) ≡ true
not_slash n = grind (arith, nat_tests)

digits_plain : (a b c : ℕ) → is_plain (80 ∷ (48 + a) ∷ (48 + b) ∷ (48 + c) ∷ []) ≡ true
digits_plain a b c = rw (not_slash a, not_slash b, not_slash c) refl

-- a name can stand in a path
pub name_plain : (k : ℕ) → is_plain (name k) ≡ true
name_plain k = ap is_plain (name_is k) ∙ digits_plain (k / 100 % 10) (k / 10 % 10) (k % 10)

-- names of numbers below a thousand differ
pub names_differ : (j k : ℕ) → j < 1000 → k < 1000 → name j ≡ name k → j ≡ k
names_differ j k small_j small_k e =
    let same = sym (name_is j) ∙ e ∙ name_is k in
    let hundreds : 48 + j / 100 % 10 ≡ 48 + k / 100 % 10 = ap (λ bs. get_or bs 1 0) same in
    let tens : 48 + j / 10 % 10 ≡ 48 + k / 10 % 10 = ap (λ bs. get_or bs 2 0) same in
    let ones : 48 + j % 10 ≡ 48 + k % 10 = ap (λ bs. get_or bs 3 0) same in
    omega (arith, hundreds, tens, ones, small_j, small_k)

-- ---- paths

byte_apart : {x y : ℕ} {xs ys : List ℕ} → (x ≡ y → ⊥) → x ∷ xs ≡ y ∷ ys → ⊥
byte_apart apart e = apart (ap (λ bs. get_or bs 0 0) e)

-- a file of package k
abbrev at : ℕ → List ℕ → List (List ℕ)
at k file = (registry ++ name k ∷ []) ++ file ∷ []

same_folder : (k : ℕ) (a b : List ℕ) → (a ≡ b → ⊥) → DoPart (at k a) (at k b)
same_folder k a b apart = inr (refl, inr (refl, inr (refl, inr (refl, inl apart))))

other_folder : (j k : ℕ) (a b : List ℕ) → (name j ≡ name k → ⊥) → DoPart (at j a) (at k b)
other_folder j k a b apart = inr (refl, inr (refl, inr (refl, inl apart)))

package_parted : (k : ℕ) (needs : List ℕ) (spans : List Span) → AreParted (package_files k needs spans)
package_parted k needs spans = (
  omega arith,
  (
    same_folder k (codes "Package.toml") (codes "Versions.toml") (byte_apart (λ e. omega (arith, e))),
    (same_folder k (codes "Package.toml") (codes "Deps.toml") (byte_apart (λ e. omega (arith, e))), (same_folder k (codes "Package.toml") (codes "Compat.toml") (byte_apart (λ e. omega (arith, e))), tt)),
  ),
  (
    omega arith,
    (same_folder k (codes "Versions.toml") (codes "Deps.toml") (byte_apart (λ e. omega (arith, e))), (same_folder k (codes "Versions.toml") (codes "Compat.toml") (byte_apart (λ e. omega (arith, e))), tt)),
    (omega arith, (same_folder k (codes "Deps.toml") (codes "Compat.toml") (byte_apart (λ e. omega (arith, e))), tt), (omega arith, tt, tt)),
  ),
)

-- ---- lists of files

all_joined : (P : Tabled → Type 0) (xs ys : List Tabled) → AllByRecursion P xs → AllByRecursion P ys → AllByRecursion P (xs ++ ys)
all_joined P [] ys first second = second
all_joined P (x ∷ xs) ys first second = (first.0, all_joined P xs ys first.1 second)

parted_joined : (xs ys : List Tabled) → AreParted xs → AreParted ys → AllByRecursion (λ x. ArePartedFrom x ys) xs → AreParted (xs ++ ys)
parted_joined [] ys first second across = second
parted_joined (x ∷ xs) ys first second across =
    (first.0, all_joined (λ other. DoPart x.path other.path) xs ys first.1 across.0, parted_joined xs ys first.2 second across.1)

-- a file of a package parts from those of later packages
from_range : (number count j : ℕ) (file : Tabled) (a n : ℕ) → ((k : ℕ) (name : List ℕ) → j < k → k < 1000 → DoPart file.path (at k name)) → j < a → a + n ≤ 1000
    → ArePartedFrom file (flat_map (drawn_files number count) (range_with_len a n))
from_range number count j file a zero parts later few = tt
from_range number count j file a (suc n) parts later few =
    let small : a < 1000 = omega (arith, few) in
    let part = λ (name : List ℕ). parts a name later small in
    all_joined (λ other. DoPart file.path other.path) (drawn_files number count a) (flat_map (drawn_files number count) (range_with_len (a + 1) n))
    (part (codes "Package.toml"), (part (codes "Versions.toml"), (part (codes "Deps.toml"), (part (codes "Compat.toml"), tt))))
    (from_range number count j file (a + 1) n parts (omega (arith, later)) (omega (arith, few)))

later_package : (j : ℕ) (file : List ℕ) (k : ℕ) (other : List ℕ) → j < k → k < 1000 → DoPart (at j file) (at k other)
later_package j file k other later small =
    let small_j : j < 1000 = omega (arith, later, small) in
    other_folder j k file other (λ e. let same = names_differ j k small_j small e in omega (arith, later, same))

packages_parted : (number count a n : ℕ) → a + n ≤ 1000 → AreParted (flat_map (drawn_files number count) (range_with_len a n))
packages_parted number count a zero few = tt
packages_parted number count a (suc n) few =
    let rest : (a + 1) + n ≤ 1000 = omega (arith, few) in
    let next : a < a + 1 = omega arith in
    let across = λ (file : List ℕ) (those : Members). from_range number count a (filed (registry ++ name a ∷ []) file those) (a + 1) n (later_package a file) next rest in
    parted_joined (drawn_files number count a) (flat_map (drawn_files number count) (range_with_len (a + 1) n))
    (package_parted a (needs_of number count a) (spans_of number count a)) (packages_parted number count (a + 1) n rest)
    (across (codes "Package.toml") (package_members a), (across (codes "Versions.toml") (versions_members 8 a), (across (codes "Deps.toml") (deps_members (needs_of number count a)), (across (codes "Compat.toml") (compat_members 8 (needs_of number count a) (spans_of number count a)), tt))))

-- ---- all files

all_packages : (number count : ℕ) (file : Tabled) → ((k : ℕ) (name : List ℕ) → DoPart file.path (at k name)) → (ks : List ℕ) → ArePartedFrom file (flat_map (drawn_files number count) ks)
all_packages number count file parts [] = tt
all_packages number count file parts (k ∷ ks) =
    let part = parts k in
    all_joined (λ other. DoPart file.path other.path) (drawn_files number count k) (flat_map (drawn_files number count) ks)
    (part (codes "Package.toml"), (part (codes "Versions.toml"), (part (codes "Deps.toml"), (part (codes "Compat.toml"), tt))))
    (all_packages number count file parts ks)

project_parts : (those : Members) (k : ℕ) (file : List ℕ) → DoPart (filed project (codes "Project.toml") those).path (at k file)
project_parts those k file = inl (byte_apart (λ e. omega (arith, e)))

registry_parts : (those : Members) (k : ℕ) (file : List ℕ) → DoPart (filed registry (codes "Registry.toml") those).path (at k file)
registry_parts those k file = inr (refl, inr (refl, inr (refl, inl (byte_apart (λ e. omega (arith, e))))))

pub world_parted : (number count : ℕ) → count ≤ 1000 → AreParted (sized_world number count)
unfolding sized_world
world_parted number count few =
    parted_joined (first_files count) (flat_map (drawn_files number count) (range_with_len 0 count))
    (omega arith, (inl (byte_apart (λ e. omega (arith, e))), tt), (omega arith, tt, tt))
    (packages_parted number count 0 count (omega (arith, few))) (
      all_packages number count (filed project (codes "Project.toml") (project_members 10)) (project_parts (project_members 10)) (range_with_len 0 count),
      (all_packages number count (filed registry (codes "Registry.toml") (registry_members count)) (registry_parts (registry_members count)) (range_with_len 0 count), tt),
    )
