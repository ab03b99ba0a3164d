-- What is true of a book that was gathered, in the words of its packages, offers and selections.
use Rattle.std.specs.Prelude.{◌≡◌, ◌↔◌, Bool, true, List, [], ◌++◌, map, Option, Some, None, IsSome, is_some, Contains, find, option_map, Result, Ok, Err}
use Rattle.std.specs.List.{flat_map, IsDistinct}
use Rattle.std.specs.Map.{keys_of, lookup}
use Rattle.std.specs.Str.{bytes_eq}
use Rattle.jl_versions.specs.declared.version.Version.{Version}
use Rattle.pkg_world.specs.Tree.{Files}
use Rattle.offer_terms.specs.Offered.{Text, Id, Offering, Offers, Selected, cut_to}
use Rattle.offer_terms.specs.Booked.{Packed, ids_of, number_of, book_offers}
use Rattle.offer_terms.specs.Demanded.{Wanted}
use Rattle.offer_terms.specs.Feasible.{IsFeasible, IsValid, CanRaise}
use Rattle.offer_catalog.specs.SaidCatalog.{SaidCatalog}
use Rattle.offer_book.specs.Scope.{Scope, scope}
use Rattle.offer_book.specs.AllOffers.{all_offers, has_source}
use Rattle.offer_book.specs.Numbers.{Mentions, firsts, start, deps_offered}
use Rattle.offer_book.specs.Gathered.{gathered}

abbrev pub is_in : List Packed → Id → Bool
is_in book u = is_some (number_of book u)

-- ---- what a book offers

-- a book's offers are all offers of the packages that it numbers
abbrev pub BookOffersAreAll : Type 0
BookOffersAreAll = (files : Files) (catalog : SaidCatalog) (scope : Scope) (extra : List Id) (book : List Packed) (u : Id)
    → gathered files catalog scope extra ≡ Ok book → is_in book u ≡ true → book_offers book u ≡ all_offers files catalog scope u

-- and a package of it is said to have a source exactly where it has one
abbrev pub BookTellsSources : Type 0
BookTellsSources = (files : Files) (catalog : SaidCatalog) (scope : Scope) (extra : List Id) (book : List Packed) (it : Packed)
    → gathered files catalog scope extra ≡ Ok book → Contains book it → it.has_source ≡ has_source catalog scope it.uuid

-- ---- which packages it numbers, and in which order

-- the set has the roots and the extra packages, and with a package all dependencies of its offers
pub record IsClosed (o : Offers) (scope : Scope) (extra : List Id) (set : Id → Bool) : Type 0 where
  pub roots : (r : Text × Id) → Contains scope.roots r → set r.1 ≡ true
  pub extras : (u : Id) → Contains extra u → set u ≡ true
  pub needs : (u : Id) (x : Offering) (d : Text × Id) → set u ≡ true → Contains (o u) x → Contains x.deps d → set d.1 ≡ true

-- a package that is in each such set
pub record IsReached (o : Offers) (scope : Scope) (extra : List Id) (u : Id) : Type 0 where
  pub in_each : (set : Id → Bool) → IsClosed o scope extra set → set u ≡ true

-- a package has a number exactly where it is reached
abbrev pub NumbersAreReached : Type 0
NumbersAreReached = (files : Files) (catalog : SaidCatalog) (scope : Scope) (extra : List Id) (book : List Packed) (u : Id)
    → gathered files catalog scope extra ≡ Ok book → (is_in book u ≡ true) ↔ IsReached (all_offers files catalog scope) scope extra u

-- the numbers go by first mention: among the roots by name, then the extra packages, then the dependencies of the packages in
-- the order of the numbers
abbrev pub NumbersGoByMention : Type 0
NumbersGoByMention = (files : Files) (catalog : SaidCatalog) (scope : Scope) (extra : List Id) (book : List Packed)
    → gathered files catalog scope extra ≡ Ok book → ids_of book ≡ keys_of (firsts (start scope extra ++ flat_map (λ it. deps_offered it.offers) book))

-- first mentions: each package of a list once, with the name by which it stands first, and those of a front of the list first
abbrev pub named_in : List (Text × Id) → Id → Option Text
named_in list u = option_map (λ d. d.0) (find (λ d. bytes_eq u d.1) list)

abbrev pub FirstsAreOnce : Type 0
FirstsAreOnce = (list : List (Text × Id)) → IsDistinct bytes_eq (keys_of (firsts list))

abbrev pub FirstsAreNamed : Type 0
FirstsAreNamed = (list : List (Text × Id)) (u : Id) → lookup (bytes_eq u) (firsts list) ≡ named_in list u

abbrev pub FrontComesFirst : Type 0
FrontComesFirst = (front more : List (Text × Id)) → (later : Mentions) × (firsts (front ++ more) ≡ firsts front ++ later)

-- ---- which selections meet the demand

-- a selection is feasible over the book's offers where it is over all, cut to the book's packages
abbrev pub FeasibleInBook : Type 0
FeasibleInBook = (files : Files) (catalog : SaidCatalog) (w : Wanted) (extra : List Id) (book : List Packed) (s : Selected)
    → gathered files catalog (scope w) extra ≡ Ok book → IsFeasible (all_offers files catalog (scope w)) w s → IsFeasible (book_offers book) w (cut_to (is_in book) s)

-- and one that is feasible over the book's offers is so over all
abbrev pub FeasibleOverAll : Type 0
FeasibleOverAll = (files : Files) (catalog : SaidCatalog) (w : Wanted) (extra : List Id) (book : List Packed) (s : Selected)
    → gathered files catalog (scope w) extra ≡ Ok book → IsFeasible (book_offers book) w s → IsFeasible (all_offers files catalog (scope w)) w s

-- the same selections are valid over both
abbrev pub ValidAlike : Type 0
ValidAlike = (files : Files) (catalog : SaidCatalog) (w : Wanted) (extra : List Id) (book : List Packed) (s : Selected)
    → gathered files catalog (scope w) extra ≡ Ok book → IsValid (book_offers book) w s ↔ IsValid (all_offers files catalog (scope w)) w s

-- and the same packages of a valid selection can be raised
abbrev pub RaisedAlike : Type 0
RaisedAlike = (files : Files) (catalog : SaidCatalog) (w : Wanted) (extra : List Id) (book : List Packed) (s : Selected) (u : Id) (v : Version)
    → gathered files catalog (scope w) extra ≡ Ok book → IsValid (all_offers files catalog (scope w)) w s
    → CanRaise (book_offers book) w s u v ↔ CanRaise (all_offers files catalog (scope w)) w s u v
