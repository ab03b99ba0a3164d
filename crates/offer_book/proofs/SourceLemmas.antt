-- A package has a source exactly where its source says something.
use Rattle.std.proofs.Common.{◌≡◌, ℕ, Bool, true, false, cond, ◌||◌, ◌&&◌, List, [], ◌∷◌, ◌++◌, map, Option, Some, None, is_some, option_map, bytes_eq, Result, Ok, Err, IfSome, MatchResult, refl, sym, ap, ◌∙◌, subst}
use Rattle.std.specs.Prelude.{find, slice_get}
use Rattle.std.specs.List.{list_any}
use Rattle.std.specs.List.Sorted.{IsStrictlySortedBy}
use Rattle.std.specs.Option.{option_or}
use Rattle.std.proofs.lemmas.List.Elements.{All-cons, All-nil}
use Rattle.pkg_world.specs.Each.{then_ok, read_each, joined_ok}
use Rattle.pkg_world.specs.Path.{Path, joined}
use Rattle.pkg_world.specs.Tree.{Files}
use Rattle.package_tables.specs.Row.{value_of}
use Rattle.registry_tables.specs.Answers.{Read, missing}
use Rattle.registry_tables.specs.Registry.{Registered}
use Rattle.registry_tables.specs.Rows.{Rows, rows_at}
use Rattle.registry_tables.specs.declared.package_list.Package.{Package}
use Rattle.registered_offers.specs.ListedTables.{alone, package_of, tables_inside, tables_where, tables_at, tables_in}
use Rattle.standard_libraries.specs.SaidLibrary.{SaidLibrary}
use Rattle.offer_terms.specs.Offered.{Text, Id, Offering, offering}
use Rattle.offer_terms.specs.Kept.{AreNumbered, DoRise}
use Rattle.offer_terms.specs.declared.offer.Offer.{Offer}
use Rattle.package_offers.specs.RegistryOffers.{registry_offers}
use Rattle.offer_terms.specs.Demanded.{FixedSaid, fixed_said}
use Rattle.offer_terms.specs.declared.fixed.Fixed.{Fixed}
use Rattle.offer_catalog.specs.Answers.{Refuses}
use Rattle.offer_catalog.specs.SaidCatalog.{SaidCatalog}
use Rattle.offer_catalog.specs.Selected.{counts}
use Rattle.offer_catalog.specs.declared.fault.BookFault.{BookFault}
use Rattle.offer_book.specs.Scope.{Scope}
use Rattle.offer_book.specs.AllOffers.{Found, fixed_at, found_fixed, found_library, given, found_listed, registered, in_registries, or_registries, found_in, is_listed, has_source}
use Rattle.offer_book.specs.declared.source.Found as code
use Rattle.offer_book.specs.Made.{found_said}
use Rattle.offer_book.proofs.StepLemmas.{same_ok, not_ok, some-find}

-- ---- what files tell

-- one reading told, and another that is the same
pub told-as : (files : Option Files) (one other : Files → Read (Option Found)) (answer : Result (Option code.Found) BookFault) → ((all : Files) → one all ≡ other all)
    → IfSome files (λ all. MatchResult answer (λ it. one all ≡ Ok (option_map found_said it)) (Refuses (one all)))
    → IfSome files (λ all. MatchResult answer (λ it. other all ≡ Ok (option_map found_said it)) (Refuses (other all)))
told-as files one other answer same h =
    subst (λ (r : Files → Read (Option Found)). IfSome files (λ all. MatchResult answer (λ it. r all ≡ Ok (option_map found_said it)) (Refuses (r all)))) (λ i all. same all i) h

pub told-of-all : (files : Option Files) (P : Files → Type 0) → ((all : Files) → P all) → IfSome files P
told-of-all None P each = tt
told-of-all (Some all) P each = each all

-- ---- a fixed package

found_by : (test : Bool) (x : Fixed) (rest : Option Fixed) (more : Option FixedSaid) → option_map fixed_said rest ≡ more
    → option_map fixed_said (cond test (Some x) rest) ≡ cond test (Some (fixed_said x)) more
found_by true x rest more h = refl
found_by false x rest more h = h

pub fixed-found : (u : Id) (items : List Fixed) → option_map fixed_said (find (λ it. bytes_eq u it.uuid) items) ≡ fixed_at (map fixed_said items) u
fixed-found u [] = refl
fixed-found u (x ∷ xs) = found_by (bytes_eq u x.uuid) x (find (λ it. bytes_eq u it.uuid) xs) (fixed_at (map fixed_said xs) u) (fixed-found u xs)

-- ---- whether there is a source

pub some-map : {X Y : Type 0} (f : X → Y) (o : Option X) → is_some (option_map f o) ≡ is_some o
some-map f None = refl
some-map f (Some x) = refl

one-read : (rows : Read Rows) (first rest : List Rows) → alone rows ≡ Ok first → is_some (slice_get (first ++ rest) 0) ≡ true
one-read (Ok rows) first rest is = ap (λ t. is_some (slice_get (t ++ rest) 0)) (sym (same_ok (rows ∷ []) first is))
one-read (Err unusable) first rest is = absurd (not_ok unusable first is)

one-inside : (files : Files) (folder : Path) (wanted : Package) (inside : Option Path) (first rest : List Rows) → tables_inside files folder wanted inside ≡ Ok first
    → is_some (slice_get (first ++ rest) 0) ≡ true
one-inside files folder wanted None first rest is = absurd (not_ok (missing folder) first is)
one-inside files folder wanted (Some path) first rest is = one-read (rows_at files wanted path) first rest is

-- the tables of a package in one registry, where it lists the package
one-listed : (files : Files) (folder : Path) (wanted : Option Package) (first rest : List Rows) → tables_where files folder wanted ≡ Ok first
    → is_some (slice_get (first ++ rest) 0) ≡ (is_some wanted || is_some (slice_get rest 0))
one-listed files folder None first rest is = ap (λ t. is_some (slice_get (t ++ rest) 0)) (sym (same_ok [] first is))
one-listed files folder (Some wanted) first rest is = one-inside files folder wanted (joined folder wanted.path) first rest is

listed-in : (files : Files) (u : Id) (r : Registered) (more : List Registered) (one after : Read (List Rows)) (tables : List Rows) → tables_at files u r ≡ one
    → ((rest : List Rows) → after ≡ Ok rest → is_some (slice_get rest 0) ≡ list_any (is_listed u) more)
    → joined_ok one after ≡ Ok tables → is_some (slice_get tables 0) ≡ (is_listed u r || list_any (is_listed u) more)
listed-in files u r more (Ok first) (Ok rest) tables at later is =
    ap (λ t. is_some (slice_get t 0)) (sym (same_ok (first ++ rest) tables is))
    ∙ one-listed files r.folder (package_of u r) first rest at
    ∙ ap (λ b. b || is_some (slice_get rest 0)) (some-find (λ (wanted : Package). bytes_eq u wanted.uuid) r.packages)
    ∙ ap (λ b. is_listed u r || b) (later rest refl)
listed-in files u r more (Ok first) (Err refused) tables at later is = absurd (not_ok refused tables is)
listed-in files u r more (Err refused) after tables at later is = absurd (not_ok refused tables is)

tables-listed : (files : Files) (u : Id) (registries : List Registered) (tables : List Rows) → read_each (tables_at files u) registries ≡ Ok tables
    → is_some (slice_get tables 0) ≡ list_any (is_listed u) registries
tables-listed files u [] tables is = ap (λ t. is_some (slice_get t 0)) (sym (same_ok [] tables is))
tables-listed files u (r ∷ rs) tables is =
    listed-in files u r rs (tables_at files u r) (read_each (tables_at files u) rs) tables refl (λ rest. tables-listed files u rs rest) is

registered-listed : (catalog : SaidCatalog) (scope : Scope) (u : Id) (files : Files) (answer : Read (List Rows)) (it : Option Found) → tables_in files catalog.registries u ≡ answer
    → then_ok answer (λ tables. Ok (registered catalog scope u tables)) ≡ Ok it → is_some it ≡ list_any (is_listed u) catalog.registries
registered-listed catalog scope u files (Ok tables) it at is =
    ap is_some (sym (same_ok (registered catalog scope u tables) it is)) ∙ some-map (found_listed catalog scope u tables) (slice_get tables 0)
    ∙ tables-listed files u catalog.registries tables at
registered-listed catalog scope u files (Err refused) it at is = absurd (not_ok refused it is)

source-given : (catalog : SaidCatalog) (scope : Scope) (u : Id) (files : Files) (fixed : Option FixedSaid) (library : Option SaidLibrary) (it : Option Found)
    → or_registries files catalog scope u (option_or (option_map (found_fixed scope.own) fixed) (option_map (found_library scope.own) library)) ≡ Ok it
    → is_some it ≡ (is_some fixed || is_some library || list_any (is_listed u) catalog.registries)
source-given catalog scope u files (Some fixed) library it is = ap is_some (sym (same_ok _ it is))
source-given catalog scope u files None (Some library) it is = ap is_some (sym (same_ok _ it is))
source-given catalog scope u files None None it is = registered-listed catalog scope u files (tables_in files catalog.registries u) it refl is

source-where : (catalog : SaidCatalog) (scope : Scope) (u : Id) (files : Files) (it : Option Found) (may : Bool)
    → cond may (or_registries files catalog scope u (given catalog scope u)) (Ok None) ≡ Ok it
    → is_some it ≡ (may && (is_some (fixed_at scope.fixed u) || is_some (value_of u catalog.libraries) || list_any (is_listed u) catalog.registries))
source-where catalog scope u files it true is = source-given catalog scope u files (fixed_at scope.fixed u) (value_of u catalog.libraries) it is
source-where catalog scope u files it false is = ap is_some (sym (same_ok None it is))

pub source-agrees : (files : Files) (catalog : SaidCatalog) (scope : Scope) (u : Id) (it : Option Found) → found_in files catalog scope u ≡ Ok it → is_some it ≡ has_source catalog scope u
source-agrees files catalog scope u it is = source-where catalog scope u files it (counts scope.own u) is

-- ---- what the calls make

pub registered-is : (catalog : SaidCatalog) (scope : Scope) (u : Id) (tables : List Rows) (first : Rows) (name : Text) (offers : List Offering) → Some first ≡ slice_get tables 0 → name ≡ first.name
    → offers ≡ registry_offers u scope.own scope.pins (value_of u catalog.trees) tables → Some (record { name = name; offers = offers }) ≡ registered catalog scope u tables
registered-is catalog scope u tables first name offers there named said =
    let same : ◌≡◌ {A = Found} (record { name = name; offers = offers }) (found_listed catalog scope u tables first) = λ i. record { name = named i; offers = said i } in
    ap Some same ∙ ap (option_map (found_listed catalog scope u tables)) there

pub registered-none : (catalog : SaidCatalog) (scope : Scope) (u : Id) (tables : List Rows) → None ≡ slice_get tables 0 → None ≡ registered catalog scope u tables
registered-none catalog scope u tables none = ap (option_map (found_listed catalog scope u tables)) none

pub found-alone : (name said : Text) (offers : List Offer) (offer : Offer) (x : Offering) → name ≡ said → offers ≡ offer ∷ [] → offering offer ≡ x
    → ◌≡◌ {A = Found} (record { name = name; offers = map offering offers }) (record { name = said; offers = x ∷ [] })
found-alone name said offers offer x named alone_is offered = λ i. record { name = named i; offers = (ap (map offering) alone_is ∙ ap (λ one. one ∷ []) offered) i }

pub one-numbered : (offer : Offer) (list : List Offer) → list ≡ offer ∷ [] → AreNumbered offer.package list
one-numbered offer list is = let P : Offer → Type 0 = λ o. o.package ≡ offer.package in subst (AreNumbered offer.package) (sym is) (All-cons P offer [] refl (All-nil P))

pub one-rises : (offer : Offer) (list : List Offer) → list ≡ offer ∷ [] → DoRise list
unfolding IsStrictlySortedBy
one-rises offer list is = subst DoRise (sym is) (tt, tt)
