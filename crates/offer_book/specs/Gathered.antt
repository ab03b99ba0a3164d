-- The book of files, a catalog and a demand (own rules). The tables of the packages are read in the order of their numbers,
-- for each by the order of the registries, and the first file that is missing or refused counts; then the first root by name
-- that has no source; then the limit of packages, which is passed where one more is mentioned than there may be numbers.
--     gathered files catalog scope extra     the packages in the order of their numbers, or the first of these refusals
use Rattle.std.specs.Prelude.{◌≡◌, ℕ, Bool, true, false, not, List, find, slice_get, Option, Some, None, is_some, Result, Ok, Err}
use Rattle.pkg_world.specs.Tree.{Files}
use Rattle.pkg_world.specs.declared.cause.LimitKind.TheVariants.{Packages}
use Rattle.registry_tables.specs.Answers.{Read, Unusable, missing, bad}
use Rattle.offer_terms.specs.Offered.{Text, Id}
use Rattle.offer_terms.specs.Booked.{Packed}
use Rattle.offer_catalog.specs.SaidCatalog.{SaidCatalog}
use Rattle.offer_catalog.specs.declared.fault.BookFault.{BookFault}
use Rattle.offer_catalog.specs.declared.fault.BookFault.TheVariants.{ReadFault, MissingFile, BadFile, UnknownPackage, Limit, Memory}
use Rattle.offer_book.specs.Scope.{Scope}
use Rattle.offer_book.specs.AllOffers.{found_in, has_source}
use Rattle.offer_book.specs.Numbers.{Reached, begun, walk}

-- why there is no book
pub data BookRefusal : Type 0 where
  unusable : Unusable → BookRefusal
  unknown : Id → BookRefusal
  too_many : BookRefusal

-- the most packages that a book may hold
unfoldable pub most_packages : ℕ
most_packages = 4096

-- the first root that has no source
abbrev pub unknown_root : SaidCatalog → Scope → Option (Text × Id)
unknown_root catalog scope = find (λ root. not (has_source catalog scope root.1)) scope.roots

-- one more package is mentioned than there may be
abbrev pub passes : Reached → Bool
passes reached = is_some (slice_get reached.mentions most_packages)

abbrev pub within_limit : Reached → Bool → Result (List Packed) BookRefusal
within_limit reached true = Err too_many
within_limit reached false = Ok reached.book

abbrev pub with_sources : Reached → Option (Text × Id) → Result (List Packed) BookRefusal
with_sources reached None = within_limit reached (passes reached)
with_sources reached (Some root) = Err (unknown root.1)

abbrev pub book_of : SaidCatalog → Scope → Read Reached → Result (List Packed) BookRefusal
book_of catalog scope (Ok reached) = with_sources reached (unknown_root catalog scope)
book_of catalog scope (Err refused) = Err (unusable refused)

-- the packages that are reached, each with what its source says
abbrev pub reached_in : Files → SaidCatalog → Scope → List Id → Read Reached
reached_in files catalog scope extra = walk (found_in files catalog scope) most_packages (begun scope extra)

abbrev pub gathered : Files → SaidCatalog → Scope → List Id → Result (List Packed) BookRefusal
gathered files catalog scope extra = book_of catalog scope (reached_in files catalog scope extra)

-- what a fault tells; a failed read and want of memory tell nothing of the files
abbrev pub Refuses : Result (List Packed) BookRefusal → BookFault → Type 0
Refuses book (ReadFault path) = Unit {0}
Refuses book (MissingFile path) = book ≡ Err (unusable (missing path))
Refuses book (BadFile path cause) = book ≡ Err (unusable (bad path cause))
Refuses book (UnknownPackage uuid) = book ≡ Err (unknown uuid)
Refuses book (Limit kind count) = (kind ≡ Packages) × (count ≡ 4097) × (book ≡ Err too_many)
Refuses book Memory = Unit {0}
