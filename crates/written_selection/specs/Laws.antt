-- What is read of a manifest that was written.
use Rattle.std.specs.Prelude.{◌≡◌, true, List, Option, Some, Ok}
use Rattle.jl_versions.specs.declared.version.Version.{Version}
use Rattle.pkg_world.specs.Tree.{Files}
use Rattle.offer_terms.specs.Booked.{Packed, book_offers}
use Rattle.offer_terms.specs.Demanded.{Wanted}
use Rattle.offer_terms.specs.Feasible.{IsFeasible}
use Rattle.offer_terms.specs.Offered.{Id, Selected, version_in}
use Rattle.offer_catalog.specs.SaidCatalog.{SaidCatalog}
use Rattle.offer_catalog.specs.Selected.{counts, selected_by}
use Rattle.offer_book.specs.Scope.{scope}
use Rattle.offer_book.specs.Gathered.{gathered}
use Rattle.manifest_writing.specs.Laws.{IsOnBook}
use Rattle.manifest_writing.specs.Writing.{Found, written}

-- neither Julia nor the project's own package is selected
abbrev pub HasOthersAlone : Option Id → Selected → Type 0
HasOthersAlone own s = (u : Id) (v : Version) → version_in s u ≡ Some v → counts own u ≡ true

-- what a manifest selects, as it is read by any catalog, is what was written
abbrev pub WrittenIsSelected : Type 0
WrittenIsSelected = (read : SaidCatalog) (own : Option Id) (book : List Packed) (w : Wanted) (found : Found) (s : Selected)
    → IsOnBook book s → HasOthersAlone own s → selected_by read own (written book w found s) ≡ s

-- and so of every selection that is feasible over a book that was gathered
abbrev pub FeasibleIsSelected : Type 0
FeasibleIsSelected = (files : Files) (catalog read : SaidCatalog) (extra : List Id) (book : List Packed) (w : Wanted) (found : Found) (s : Selected)
    → gathered files catalog (scope w) extra ≡ Ok book → IsFeasible (book_offers book) w s → selected_by read w.own (written book w found s) ≡ s
