-- What the instance of a book and a demand says of selections.
use Rattle.std.specs.Prelude.{◌≡◌, ◌↔◌, ◌≢◌, ℕ, ◌<◌, true, List, length}
use Rattle.jl_versions.specs.declared.version.Version.{Version}
use Rattle.offer_terms.specs.Offered.{Id, Offering, Selected}
use Rattle.offer_terms.specs.Booked.{Packed, book_offers}
use Rattle.offer_terms.specs.Demanded.{Wanted}
use Rattle.offer_terms.specs.Feasible.{IsFeasible, IsNeeded, IsValid, CanRaise}
use Rattle.version_graph.specs.Graph.{Graph, is_root, does_need, IsPlain, IsSolution, bits, cells}
use Rattle.raise_pass.specs.Finishing.{IsReached, IsFinished}
use Rattle.raise_pass.specs.Finishing as finishing
use Rattle.book_graph.specs.StandsFor.{StandsFor, IsBook, Covers, id_of, offer_in, IsRoot, Depends}
use Rattle.book_graph.specs.Chosen.{IsSelectionOf, states_of}
use Rattle.std.specs.Prelude.{Some}

-- the instance is plain
abbrev pub StandsPlain : Type 0
StandsPlain = (book : List Packed) (w : Wanted) (g : Graph) → StandsFor book w g → IsPlain g

-- all that stand for a book and a demand have the same sums
abbrev pub SumsAreOne : Type 0
SumsAreOne = (book : List Packed) (w : Wanted) (g h : Graph) → StandsFor book w g → StandsFor book w h → (bits g ≡ bits h) × (cells g ≡ cells h)

-- what a solution selects is feasible
abbrev pub SolutionIsFeasible : Type 0
SolutionIsFeasible = (book : List Packed) (w : Wanted) (g : Graph) (chosen : List ℕ) (s : Selected) → IsBook book → Covers book w → StandsFor book w g →
    IsSolution g chosen → IsSelectionOf book chosen s → IsFeasible (book_offers book) w s

-- a feasible selection is that of a solution
abbrev pub FeasibleIsSolution : Type 0
FeasibleIsSolution = (book : List Packed) (w : Wanted) (g : Graph) (s : Selected) → IsBook book → StandsFor book w g →
    IsFeasible (book_offers book) w s → IsSolution g (states_of book s) × IsSelectionOf book (states_of book s) s

-- and of one alone
abbrev pub OneSolution : Type 0
OneSolution = (book : List Packed) (w : Wanted) (g : Graph) (chosen : List ℕ) (s : Selected) → IsBook book → StandsFor book w g →
    IsSolution g chosen → IsSelectionOf book chosen s → chosen ≡ states_of book s

-- where there is no solution there is no feasible selection
abbrev pub NoneIsFeasible : Type 0
NoneIsFeasible = (book : List Packed) (w : Wanted) (g : Graph) → IsBook book → StandsFor book w g →
    ((chosen : List ℕ) → IsSolution g chosen → ⊥) → (s : Selected) → IsFeasible (book_offers book) w s → ⊥

-- the roots of the instance are those of the demand, and a state needs what its offer depends on
pub record NeedsAreDependencies (book : List Packed) (w : Wanted) (g : Graph) : Type 0 where
  pub roots : (p : ℕ) → p < length book → (is_root g p ≡ true) ↔ IsRoot w (id_of book p)
  pub needs : (p i q : ℕ) (x : Offering) → p < length book → q < length book → p ≢ q → offer_in book p i ≡ Some x →
      (does_need g p i q ≡ true) ↔ Depends x (id_of book q)

abbrev pub NeedIsDependency : Type 0
NeedIsDependency = (book : List Packed) (w : Wanted) (g : Graph) → StandsFor book w g → NeedsAreDependencies book w g

-- a package is reached exactly where it is needed
abbrev pub NeedIsReach : Type 0
NeedIsReach = (book : List Packed) (w : Wanted) (g : Graph) (chosen : List ℕ) (s : Selected) → IsBook book → StandsFor book w g →
    IsSolution g chosen → IsSelectionOf book chosen s → (p : ℕ) → p < length book → IsReached g chosen p ↔ IsNeeded (book_offers book) w s (id_of book p)

-- a package's state that stands for an offer to which the package can be raised
pub record RaisesTo (book : List Packed) (g : Graph) (chosen : List ℕ) (u : Id) (v : Version) : Type 0 where
  pub place : ℕ
  pub state : ℕ
  pub offer : Offering
  pub can : finishing.CanRaise g chosen place state
  pub named : id_of book place ≡ u
  pub there : offer_in book place state ≡ Some offer
  pub version : offer.version ≡ v

-- a package can be raised alone in the instance exactly where it can be in the selection
abbrev pub RaiseIsRaise : Type 0
RaiseIsRaise = (book : List Packed) (w : Wanted) (g : Graph) (chosen : List ℕ) (s : Selected) (u : Id) (v : Version) → IsBook book → Covers book w → StandsFor book w g →
    IsSolution g chosen → IsSelectionOf book chosen s → CanRaise (book_offers book) w s u v ↔ RaisesTo book g chosen u v

-- what a finished solution selects is valid, and nothing of it can be raised
abbrev pub FinishedIsBest : Type 0
FinishedIsBest = (book : List Packed) (w : Wanted) (g : Graph) (chosen : List ℕ) (s : Selected) → IsBook book → Covers book w → StandsFor book w g →
    IsSolution g chosen → IsFinished g chosen → IsSelectionOf book chosen s →
    IsValid (book_offers book) w s × ((u : Id) (v : Version) → CanRaise (book_offers book) w s u v → ⊥)
