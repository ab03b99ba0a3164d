-- What the code's values stand for, and what its parts see to.
use Rattle.std.specs.Prelude.{◌≡◌, ℕ, ◌+◌, Bool, true, false, List, [], ◌∷◌, ◌++◌, map, length, take, slice_get, Option, Some, None, Ok}
use Rattle.std.specs.Map.{keys_of}
use Rattle.pkg_world.specs.Each.{then_ok}
use Rattle.pkg_world.specs.Tree.{Files}
use Rattle.registry_tables.specs.Answers.{Read}
use Rattle.offer_terms.specs.Offered.{Id, Text, offering}
use Rattle.offer_terms.specs.Booked.{Packed, ids_of}
use Rattle.offer_terms.specs.Demanded.{wanted}
use Rattle.offer_terms.specs.Kept.{AreNumbered, DoRise}
use Rattle.offer_terms.specs.declared.demand.Demand.{Demand}
use Rattle.offer_catalog.specs.SaidCatalog.{SaidCatalog}
use Rattle.offer_catalog.specs.declared.fault.BookFault.{BookFault}
use Rattle.offer_catalog.specs.declared.fault.BookFault.TheVariants.{ReadFault, MissingFile, BadFile, UnknownPackage, Limit, Memory}
use Rattle.offer_book.specs.Scope.{Scope, scope}
use Rattle.offer_book.specs.AllOffers.{Found, found_in}
use Rattle.offer_book.specs.Numbers.{Mentions, Reached, packed_as}
use Rattle.offer_book.specs.declared.source.Found as source
use Rattle.offer_book.specs.declared.gathering.Reached as gathering

-- of a demand what its book rests on
abbrev pub scope_of : Demand → Scope
scope_of demand = scope (wanted demand)

-- what was found, without the room of its list
abbrev pub found_said : source.Found → Found
found_said it = record { name = it.name; offers = map offering it.offers.items }

-- what was found is of the package of that number, and rises
abbrev pub IsOfNumber : ℕ → Option source.Found → Type 0
IsOfNumber number None = Unit {0}
IsOfNumber number (Some it) = AreNumbered number it.offers.items × DoRise it.offers.items

abbrev pub reaching : Mentions → List Packed → Reached
reaching mentions book = record { mentions = mentions; book = book }

abbrev pub reached : gathering.Reached → Reached
reached it = reaching it.mentions.entries it.book

-- the book with one more package
abbrev pub packed_in : Files → SaidCatalog → Scope → Id × Text → List Packed → Read (List Packed)
packed_in files catalog scope m book = then_ok (found_in files catalog scope m.0) (λ found. Ok (book ++ packed_as m found ∷ []))

-- the packages that were read are those that were mentioned first
abbrev pub AreFirst : List Packed → Mentions → Type 0
AreFirst book mentions = ids_of book ≡ take (length book) (keys_of mentions)

abbrev pub HasOneMore : Id → List Packed → List Packed → Type 0
HasOneMore u old new = ids_of new ≡ ids_of old ++ u ∷ []

-- one more package was read, or there was none
abbrev pub GoesOn : ℕ → Mentions → List Packed → Bool → Type 0
GoesOn number mentions book true = (length book ≡ number + 1) × AreFirst book mentions
GoesOn number mentions book false = slice_get mentions (length book) ≡ None

-- what a book is refused for that was read whole
abbrev pub IsOfWhole : BookFault → Type 0
IsOfWhole (ReadFault path) = ⊥
IsOfWhole (MissingFile path) = ⊥
IsOfWhole (BadFile path cause) = ⊥
IsOfWhole (UnknownPackage uuid) = Unit {0}
IsOfWhole (Limit kind count) = Unit {0}
IsOfWhole Memory = ⊥
