-- What a book keeps of its packages, and what it sees to: offers carry their package's number and rise by their versions.
use Rattle.std.specs.Prelude.{◌≡◌, ℕ, ◌<◌, ◌^◌, List, length, map, Some, All, slice_get}
use Rattle.std.specs.List.Sorted.{IsStrictlySortedBy}
use Rattle.jl_versions.specs.Order.{version_cmp}
use Rattle.offer_terms.specs.Offered.{Id, offering}
use Rattle.offer_terms.specs.Booked.{Packed}
use Rattle.offer_terms.specs.declared.offer.Offer.{Offer}
use Rattle.offer_terms.specs.declared.book.Package.{Package}

-- each offer is one of the package of that number
abbrev pub AreNumbered : ℕ → List Offer → Type 0
AreNumbered p offers = All (λ offer. offer.package ≡ p) offers

-- the versions strictly rise
abbrev pub DoRise : List Offer → Type 0
DoRise offers = IsStrictlySortedBy version_cmp (map (λ offer. offer.version) offers)

abbrev pub packed : Id × Package → Packed
packed entry = record {
  uuid = entry.0;
  name = entry.1.name;
  has_source = entry.1.has_source;
  offers = map offering entry.1.offers.items;
}

pub record IsKept (entries : List (Id × Package)) : Type 0 where
  pub few : length entries < 2 ^ 32
  pub numbered : (p : ℕ) (e : Id × Package) → slice_get entries p ≡ Some e → AreNumbered p e.1.offers.items
  pub rising : (p : ℕ) (e : Id × Package) → slice_get entries p ≡ Some e → DoRise e.1.offers.items
