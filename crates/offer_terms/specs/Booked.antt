-- What a book holds: packages in the order of their numbers, each identifier once, with what is offered of each in rising
-- order of versions.
use Rattle.std.specs.Prelude.{ℕ, Bool, true, false, List, [], ◌∷◌, ◌++◌, map, find, position, slice_index_or, slice_set, Option, Some, None, is_some, if◌then◌else◌}
use Rattle.std.specs.Str.{bytes_eq}
use Rattle.offer_terms.specs.Offered.{Text, Id, Offering, Offers}

-- a package, and whether it has a source of offers; this may be without any offer
pub record Packed : Type 0 where
  pub uuid : Id
  pub name : Text
  pub has_source : Bool
  pub offers : List Offering

-- a package that nothing was read of
abbrev pub unread : Id → Text → Packed
unread u name = record { uuid = u; name = name; has_source = false; offers = [] }

-- the package of a number
abbrev pub package_at : List Packed → ℕ → Packed
package_at book p = slice_index_or book p (unread [] [])

abbrev pub ids_of : List Packed → List Id
ids_of book = map (λ it. it.uuid) book

abbrev pub is_for : Id → Packed → Bool
is_for u it = bytes_eq u it.uuid

-- the number of an identifier
abbrev pub number_of : List Packed → Id → Option ℕ
number_of book u = position (is_for u) book

abbrev pub offers_of : Option Packed → List Offering
offers_of None = []
offers_of (Some it) = it.offers

-- what a book offers, by identifiers; nothing of a package that it doesn't hold
abbrev pub book_offers : List Packed → Offers
book_offers book u = offers_of (find (is_for u) book)

-- one package more, unless its identifier is there
abbrev pub entered : List Packed → Id → Text → List Packed
entered book u name = if is_some (number_of book u) then book else book ++ unread u name ∷ []

abbrev pub with_offers : Packed → List Offering → Packed
with_offers it offers = record { uuid = it.uuid; name = it.name; has_source = true; offers = offers }

-- what the source of a package offers of it
abbrev pub filled : List Packed → ℕ → List Offering → List Packed
filled book p offers = slice_set book p (with_offers (package_at book p) offers)
