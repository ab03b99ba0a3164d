-- A book rests on the files of the tables that are read.
use Rattle.std.proofs.Common.{◌≡◌, ℕ, zero, suc, Bool, true, false, cond, List, [], ◌∷◌, ◌++◌, length, Option, Some, None, Result, Ok, Err, refl, sym, ap, ◌∙◌}
use Rattle.std.specs.Prelude.{slice_get}
use Rattle.std.specs.List.{flat_map, AllByRecursion}
use Rattle.pkg_world.specs.Each.{then_ok}
use Rattle.pkg_world.specs.Path.{Path}
use Rattle.pkg_world.specs.Tree.{Files, holds}
use Rattle.registry_tables.specs.Answers.{Read}
use Rattle.registered_offers.specs.Consulted.{AgreeAt, table_files}
use Rattle.registered_offers.proofs.ConsultedLemmas.{tables-rest}
use Rattle.offer_terms.specs.Offered.{Text, Id}
use Rattle.offer_catalog.specs.SaidCatalog.{SaidCatalog}
use Rattle.offer_catalog.specs.Selected.{counts}
use Rattle.offer_book.specs.Scope.{Scope}
use Rattle.offer_book.specs.AllOffers.{Found, given, registered, or_registries, found_in}
use Rattle.offer_book.specs.Numbers.{Reached, packed_as, with_package, read_next, step, walk, begun}
use Rattle.offer_book.specs.Gathered.{most_packages, book_of, gathered}
use Rattle.offer_book.specs.Consulted.{files_unless, source_files, asked_from, asked, book_files, BookRestsOnFiles}
use Rattle.offer_book.proofs.StepLemmas.{walk-still}

-- ---- one package

all-front : {A : Type 0} (P : A → Type 0) (xs ys : List A) → AllByRecursion P (xs ++ ys) → AllByRecursion P xs
all-front P [] ys all = tt
all-front P (x ∷ xs) ys all = (all.0, all-front P xs ys all.1)

all-back : {A : Type 0} (P : A → Type 0) (xs ys : List A) → AllByRecursion P (xs ++ ys) → AllByRecursion P ys
all-back P [] ys all = all
all-back P (x ∷ xs) ys all = all-back P xs ys all.1

module _ (one other : Files) (catalog : SaidCatalog) (scope : Scope) where
  unless-same : (u : Id) (found : Option Found) → AgreeAt (files_unless catalog u found) one other → or_registries one catalog scope u found ≡ or_registries other catalog scope u found
  unless-same u None agree = ap (λ answer. then_ok answer (λ tables. Ok (registered catalog scope u tables))) (tables-rest one other catalog.registries u agree)
  unless-same u (Some found) agree = refl

  where-same : (u : Id) (may : Bool) → AgreeAt (cond may (files_unless catalog u (given catalog scope u)) []) one other
      → cond may (or_registries one catalog scope u (given catalog scope u)) (Ok None) ≡ cond may (or_registries other catalog scope u (given catalog scope u)) (Ok None)
  where-same u true agree = unless-same u (given catalog scope u) agree
  where-same u false agree = refl

  found-same : (u : Id) → AgreeAt (source_files catalog scope u) one other → found_in one catalog scope u ≡ found_in other catalog scope u
  found-same u agree = where-same u (counts scope.own u) agree

  all-found : (us : List Id) → AgreeAt (flat_map (source_files catalog scope) us) one other → AllByRecursion (λ u. found_in one catalog scope u ≡ found_in other catalog scope u) us
  all-found [] agree = tt
  all-found (u ∷ us) agree = (
    found-same u (all-front (λ path. holds path one ≡ holds path other) (source_files catalog scope u) (flat_map (source_files catalog scope) us) agree),
    all-found us (all-back (λ path. holds path one ≡ holds path other) (source_files catalog scope u) (flat_map (source_files catalog scope) us) agree),
  )

-- ---- several packages

abbrev AllSame : (Id → Read (Option Found)) → (Id → Read (Option Found)) → List Id → Type 0
AllSame read other us = AllByRecursion (λ u. read u ≡ other u) us

steps-same : (read other : Id → Read (Option Found)) (n : ℕ) (answer : Read Reached) (m : Id × Text) → ((r : Reached) → AllSame read other (asked read n r) → walk read n r ≡ walk other n r)
    → AllSame read other (asked_from (asked read n) answer (Some m)) → (read m.0 ≡ other m.0) × (then_ok answer (walk read n) ≡ then_ok answer (walk other n))
steps-same read other n (Ok next) m later all = (all.0, later next all.1)
steps-same read other n (Err refused) m later all = (all.0, refl)

walks-at : (read other : Id → Read (Option Found)) (n : ℕ) (r : Reached) (at : Option (Id × Text)) → slice_get r.mentions (length r.book) ≡ at
    → ((r : Reached) → AllSame read other (asked read n r) → walk read n r ≡ walk other n r) → AllSame read other (asked_from (asked read n) (step read r) at)
    → walk read (suc n) r ≡ walk other (suc n) r
walks-at read other n r None none later all = walk-still read (suc n) r.mentions r.book none ∙ sym (walk-still other (suc n) r.mentions r.book none)
walks-at read other n r (Some m) there later all =
    let (same, rest) = steps-same read other n (step read r) m later all in
    let reads : read_next read r (Some m) ≡ read_next other r (Some m) = ap (λ answer. then_ok answer (λ found. Ok (with_package r (packed_as m found)))) same in
    let stepped : step read r ≡ step other r = ap (read_next read r) there ∙ reads ∙ sym (ap (read_next other r) there) in
    rest ∙ ap (λ answer. then_ok answer (walk other n)) stepped

walks-same : (read other : Id → Read (Option Found)) (n : ℕ) (r : Reached) → AllSame read other (asked read n r) → walk read n r ≡ walk other n r
walks-same read other zero r all = refl
walks-same read other (suc n) r all = walks-at read other n r (slice_get r.mentions (length r.book)) refl (walks-same read other n) all

pub book_rests_on_files : BookRestsOnFiles
book_rests_on_files one other catalog scope extra agree =
    ap (book_of catalog scope) (walks-same (found_in one catalog scope) (found_in other catalog scope) most_packages (begun scope extra)
    (all-found one other catalog scope (asked (found_in one catalog scope) most_packages (begun scope extra)) agree))
