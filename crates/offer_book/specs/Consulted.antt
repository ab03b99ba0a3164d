-- Which files a book rests on: files that hold the same at these paths give the same book, or refuse it alike.
--     book_files files catalog scope extra     the files of the tables of the packages that are read, in the order of the numbers
use Rattle.std.specs.Prelude.{◌≡◌, ℕ, zero, suc, List, [], ◌∷◌, slice_get, length, Option, Some, None, if◌then◌else◌, Ok, Err}
use Rattle.std.specs.List.{flat_map}
use Rattle.pkg_world.specs.Path.{Path}
use Rattle.pkg_world.specs.Tree.{Files}
use Rattle.registry_tables.specs.Answers.{Read}
use Rattle.registered_offers.specs.Consulted.{AgreeAt, table_files}
use Rattle.offer_terms.specs.Offered.{Text, Id}
use Rattle.offer_catalog.specs.SaidCatalog.{SaidCatalog}
use Rattle.offer_catalog.specs.Selected.{counts}
use Rattle.offer_book.specs.Scope.{Scope}
use Rattle.offer_book.specs.AllOffers.{Found, given, found_in}
use Rattle.offer_book.specs.Numbers.{Reached, step, begun}
use Rattle.offer_book.specs.Gathered.{most_packages, gathered}

-- what is given is read from no file
abbrev pub files_unless : SaidCatalog → Id → Option Found → List Path
files_unless catalog u None = table_files catalog.registries u
files_unless catalog u (Some found) = []

-- the files of a package's source
abbrev pub source_files : SaidCatalog → Scope → Id → List Path
source_files catalog scope u = if counts scope.own u then files_unless catalog u (given catalog scope u) else []

-- the packages of some more steps, the first of which reads this package
abbrev pub asked_from : (Reached → List Id) → Read Reached → Option (Id × Text) → List Id
asked_from more next None = []
asked_from more (Ok next) (Some m) = m.0 ∷ more next
asked_from more (Err refused) (Some m) = m.0 ∷ []

-- the packages that a walk reads, up to the one whose files are refused
abbrev pub asked : (Id → Read (Option Found)) → ℕ → Reached → List Id
asked read zero reached = []
asked read (suc n) reached = asked_from (asked read n) (step read reached) (slice_get reached.mentions (length reached.book))

abbrev pub book_files : Files → SaidCatalog → Scope → List Id → List Path
book_files files catalog scope extra = flat_map (source_files catalog scope) (asked (found_in files catalog scope) most_packages (begun scope extra))

-- a book rests on the files of the tables of the packages that are read
abbrev pub BookRestsOnFiles : Type 0
BookRestsOnFiles = (one other : Files) (catalog : SaidCatalog) (scope : Scope) (extra : List Id)
    → AgreeAt (book_files one catalog scope extra) one other → gathered one catalog scope extra ≡ gathered other catalog scope extra
