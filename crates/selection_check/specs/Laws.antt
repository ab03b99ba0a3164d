-- Laws of verdicts and of raising.
use Rattle.std.specs.Prelude.{◌≡◌, ◌↔◌, ℕ, List}
use Rattle.std.specs.Map.{keys_of}
use Rattle.jl_versions.specs.declared.version.Version.{Version}
use Rattle.offer_terms.specs.ById.{AreRising}
use Rattle.offer_terms.specs.Offered.{Id, Offers, Selected}
use Rattle.offer_terms.specs.Booked.{Packed, package_at, book_offers}
use Rattle.offer_terms.specs.Demanded.{Wanted}
use Rattle.offer_terms.specs.Feasible.{IsValid, CanRaise}
use Rattle.selection_check.specs.Verdicts.{Breaks, IsVerdict}
use Rattle.selection_check.specs.Raises.{CanRaiseTo, IsLeastRaise}
use Rattle.selection_check.specs.declared.verdict.Verdict.{Verdict}

-- a selection, which has each package once, is valid exactly where it breaks no clause
abbrev pub ValidBreaksNone : Type 0
ValidBreaksNone = (o : Offers) (w : Wanted) (s : Selected) → AreRising (keys_of s) → ((v : Verdict) → Breaks o w s v → ⊥) ↔ IsValid o w s

-- a selection has one verdict
abbrev pub OneVerdict : Type 0
OneVerdict = (book : List Packed) (w : Wanted) (s : Selected) (a b : Verdict) → IsVerdict book w s a → IsVerdict book w s b → a ≡ b

-- what can be raised has a number and a place
pub record HasPlace (book : List Packed) (w : Wanted) (s : Selected) (u : Id) (v : Version) : Type 0 where
  pub number : ℕ
  pub place : ℕ
  pub raise : CanRaiseTo book w s number place
  pub named : (package_at book number).uuid ≡ u
  pub to : raise.offer.version ≡ v

abbrev pub RaiseHasPlace : Type 0
RaiseHasPlace = (book : List Packed) (w : Wanted) (s : Selected) (u : Id) (v : Version) → CanRaise (book_offers book) w s u v → HasPlace book w s u v

-- one package and one offer of it come first
abbrev pub OneRaise : Type 0
OneRaise = (book : List Packed) (w : Wanted) (s : Selected) (p j q i : ℕ) → IsLeastRaise book w s p j → IsLeastRaise book w s q i → (p ≡ q) × (j ≡ i)
