-- What files offer of a package, by its identifier (Pkg: registries, standard libraries, developed packages). A fixed package
-- has its one offer, else a standard library has its one, else registries offer the versions that they list. Julia and the
-- project's own package have no source. (Which of the sources counts is an own rule.)
--     found_in files catalog scope u       what the source of a package says, None where it has none, or the first file that is refused
--     all_offers files catalog scope       the offers, as a function of the identifier
--     has_source catalog scope u           whether a package has a source, be it without any offer
-- The definition speaks of every package; a package that no root and no dependency leads to is offered as well, and nothing
-- if its files are refused.
use Rattle.std.specs.Prelude.{ℕ, Bool, ◌&&◌, ◌||◌, List, [], ◌∷◌, find, slice_get, Option, Some, None, is_some, option_map, if◌then◌else◌, Ok, Err}
use Rattle.std.specs.List.{list_any}
use Rattle.std.specs.Option.{option_or}
use Rattle.std.specs.Str.{bytes_eq}
use Rattle.pkg_world.specs.Each.{then_ok}
use Rattle.pkg_world.specs.Tree.{Files}
use Rattle.package_tables.specs.Row.{value_of}
use Rattle.registry_tables.specs.Answers.{Read}
use Rattle.registry_tables.specs.Registry.{Registered}
use Rattle.registry_tables.specs.Rows.{Rows}
use Rattle.standard_libraries.specs.SaidLibrary.{SaidLibrary}
use Rattle.registered_offers.specs.ListedTables.{tables_in}
use Rattle.offer_terms.specs.Offered.{Text, Id, Offering, Offers}
use Rattle.offer_terms.specs.Demanded.{FixedSaid}
use Rattle.package_offers.specs.RegistryOffers.{registry_offers}
use Rattle.package_offers.specs.GivenOffers.{given_offering, library_offering}
use Rattle.offer_catalog.specs.SaidCatalog.{SaidCatalog}
use Rattle.offer_catalog.specs.Selected.{counts}
use Rattle.offer_book.specs.Scope.{Scope}

-- the name that a package's source gives it, and what it offers
pub record Found : Type 0 where
  pub name : Text
  pub offers : List Offering

-- the fixed package of an identifier
abbrev pub fixed_at : List FixedSaid → Id → Option FixedSaid
fixed_at fixed u = find (λ it. bytes_eq u it.uuid) fixed

abbrev pub found_fixed : Option Id → FixedSaid → Found
found_fixed own it = record { name = it.name; offers = given_offering own it ∷ [] }

abbrev pub found_library : Option Id → SaidLibrary → Found
found_library own it = record { name = it.name; offers = library_offering own it ∷ [] }

-- what is given without any table: by a fixed package, else by a standard library
abbrev pub given : SaidCatalog → Scope → Id → Option Found
given catalog scope u =
    option_or (option_map (found_fixed scope.own) (fixed_at scope.fixed u)) (option_map (found_library scope.own) (value_of u catalog.libraries))

-- what the tables of a package say, which has the name that the first registry gives it
abbrev pub found_listed : SaidCatalog → Scope → Id → List Rows → Rows → Found
found_listed catalog scope u tables first =
    record { name = first.name; offers = registry_offers u scope.own scope.pins (value_of u catalog.trees) tables }

-- where no registry lists it, there is nothing
abbrev pub registered : SaidCatalog → Scope → Id → List Rows → Option Found
registered catalog scope u tables = option_map (found_listed catalog scope u tables) (slice_get tables 0)

abbrev pub in_registries : Files → SaidCatalog → Scope → Id → Read (Option Found)
in_registries files catalog scope u = then_ok (tables_in files catalog.registries u) (λ tables. Ok (registered catalog scope u tables))

abbrev pub or_registries : Files → SaidCatalog → Scope → Id → Option Found → Read (Option Found)
or_registries files catalog scope u None = in_registries files catalog scope u
or_registries files catalog scope u (Some found) = Ok (Some found)

-- what the source of a package says
abbrev pub found_in : Files → SaidCatalog → Scope → Id → Read (Option Found)
found_in files catalog scope u = if counts scope.own u then or_registries files catalog scope u (given catalog scope u) else Ok None

abbrev pub offers_found : Read (Option Found) → List Offering
offers_found (Ok (Some found)) = found.offers
offers_found (Ok None) = []
offers_found (Err unusable) = []

-- the offers of all packages
abbrev pub all_offers : Files → SaidCatalog → Scope → Offers
all_offers files catalog scope u = offers_found (found_in files catalog scope u)

-- whether a registry lists a package
abbrev pub is_listed : Id → Registered → Bool
is_listed u registry = list_any (λ listed. bytes_eq u listed.uuid) registry.packages

-- whether a package has a source
abbrev pub has_source : SaidCatalog → Scope → Id → Bool
has_source catalog scope u =
    counts scope.own u && (is_some (fixed_at scope.fixed u) || is_some (value_of u catalog.libraries) || list_any (is_listed u) catalog.registries)
