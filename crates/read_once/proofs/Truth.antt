-- What is remembered stays true.
use Rattle.std.proofs.Common.{◌≡◌, true, false, if◌then◌else◌, Option, Some, None, IfSome, Result, Ok, Err, OnOk, OnErr, refl, ◌∙◌, sym}
use Rattle.std.specs.Str.{bytes_eq}
use Rattle.std.proofs.lemmas.Slice.Eq.{bytes_eq-Decides}
use Rattle.pkg_world.specs.Path.{Path, are_plain, path_text}
use Rattle.pkg_world.specs.Tree.{Files, Content, holds}
use Rattle.pkg_world.specs.Outside.{ReadGives}
use Rattle.pkg_world.specs.declared.store.ReadAnswer.{ReadAnswer}
use Rattle.read_once.specs.declared.seen.Seen.{Seen}
use Rattle.read_once.specs.Seen.{seen_at, Keeps, IsRepeated, IsTrueOf}
use Rattle.depot_hash.proofs.Texts.{one_text_one_path}

held_at : (told : Option Files) (path : Path) (there : Content) (all : Files) → told ≡ Some all → IfSome told (λ files. holds path files ≡ there) → holds path all ≡ there
held_at told path there all e held = rw e at held

same_text : (path other : Path) → are_plain path ≡ true → are_plain other ≡ true → bytes_eq (path_text path) (path_text other) ≡ true → path ≡ other
same_text path other p q e = one_text_one_path path other p q ((bytes_eq-Decides _ _).0 e)

pub kept_is_true : (told : Option Files) (path : Path) (there : Content) (old new : Seen) → are_plain path ≡ true → IfSome told (λ all. holds path all ≡ there) → IsTrueOf told old → Keeps path there old new → IsTrueOf told new
kept_is_true told path there old new plain held true_before keeps = λ all e other its content r.
    let after = sym (keeps other) ∙ r in
    elim (bytes_eq (path_text path) (path_text other)) as (λ t. bytes_eq (path_text path) (path_text other) ≡ t → (if t then Some there else seen_at old other) ≡ Some content → holds other all ≡ content) [
      | true ↦ λ is found. let one = same_text path other plain its is in
          let there_is : there ≡ content = cc in
          rw one at (held_at told path there all e held) ∙ there_is
      | false ↦ λ _ found. true_before all e other its content found
    ] refl after

pub unchanged_is_true : (told : Option Files) (old new : Seen) → IsTrueOf told old → ((other : Path) → seen_at new other ≡ seen_at old other) → IsTrueOf told new
unchanged_is_true told old new true_before same = λ all e other its content r. true_before all e other its content (sym (same other) ∙ r)

pub on_either : (E A B C : Type 0) (r : Result (Unit {0}) E) → OnOk r A → OnErr r B → (A → C) → (B → C) → C
on_either E A B C (Ok x) a b f g = f a
on_either E A B C (Err x) a b f g = g b

repeated_at : (told : Option Files) (seen : Seen) (path : Path) (answer : ReadAnswer) → are_plain path ≡ true → IsTrueOf told seen → (found : Option Content) → seen_at seen path ≡ found → IsRepeated found answer
    → (all : Files) → told ≡ Some all → ReadGives (holds path all) answer
repeated_at told seen path answer plain true_so_far None is repeated all e = absurd repeated
repeated_at told seen path answer plain true_so_far (Some there) is repeated all e = rw (true_so_far all e path plain there is) repeated.0

pub repeated_is_true : (told : Option Files) (seen : Seen) (path : Path) (answer : ReadAnswer) → are_plain path ≡ true → IsTrueOf told seen → IsRepeated (seen_at seen path) answer → IfSome told (λ all. ReadGives (holds path all) answer)
repeated_is_true told seen path answer plain true_so_far repeated =
    elim told as (λ t. told ≡ t → IfSome t (λ all. ReadGives (holds path all) answer)) [
      | None ↦ λ _. tt
      | Some all ↦ λ e. repeated_at told seen path answer plain true_so_far (seen_at seen path) refl repeated all e
    ] refl
