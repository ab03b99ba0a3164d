-- Which offers all others allow: a table of truth values, in which what isn't allowed is made false.
use Rattle.std.specs.Prelude.{◌≡◌, ◌≢◌, ℕ, ◌<◌, ◌≤◌, Bool, true, ◌&&◌, List, length, Some, Contains, ◌++◌, slice_get}
use Rattle.bit_rows.specs.Rows.{row_at, truth_at}
use Rattle.jl_versions.specs.Triple.{triple_of}
use Rattle.jl_versions.specs.declared.version.Version.{Version}
use Rattle.compat_spec.specs.declared.part.Part.{Part}
use Rattle.compat_spec.specs.Meaning.{specifier_holds}
use Rattle.offer_terms.specs.Offered.{Id, Allows, allows_holds, Offering, Selected, taken}
use Rattle.offer_terms.specs.Booked.{Packed, package_at, book_offers}
use Rattle.offer_terms.specs.Demanded.{Wanted}
use Rattle.offer_terms.specs.declared.offer.Offer.{Offer}

abbrev pub is_open : List (List Bool) → ℕ → ℕ → Bool
is_open table p j = truth_at (row_at table p) j

-- the tables have the same places
pub record HasSamePlaces (old new : List (List Bool)) : Type 0 where
  pub rows : length new ≡ length old
  pub wide : (p : ℕ) → length (row_at new p) ≡ length (row_at old p)

-- among the first places of a row those whose offers pass the test stay open, and all else stays as it was
pub record NarrowsRow (offers : List Offer) (old new : List (List Bool)) (p count : ℕ) (test : List ℕ → Bool) : Type 0 where
  pub places : HasSamePlaces old new
  pub here : (j : ℕ) (x : Offer) → j < count → slice_get offers j ≡ Some x → is_open new p j ≡ (is_open old p j && test (triple_of x.version))
  pub after : (j : ℕ) → count ≤ j → is_open new p j ≡ is_open old p j
  pub others : (q j : ℕ) → q ≢ p → is_open new q j ≡ is_open old q j

-- what is allowed of a package
abbrev pub Allowing : Type 1
Allowing = Id → Version → Type 0

-- the offers that were open and are allowed are open
pub record Narrows (book : List Packed) (old new : List (List Bool)) (IsAllowed : Allowing) : Type 0 where
  pub places : HasSamePlaces old new
  pub sound : (p j : ℕ) (x : Offering) → p < length book → slice_get (package_at book p).offers j ≡ Some x → is_open new p j ≡ true →
      (is_open old p j ≡ true) × IsAllowed (package_at book p).uuid x.version
  pub whole : (p j : ℕ) (x : Offering) → p < length book → slice_get (package_at book p).offers j ≡ Some x → is_open old p j ≡ true →
      IsAllowed (package_at book p).uuid x.version → is_open new p j ≡ true

-- what a test allows of one package
abbrev pub AllowsOf : Id → (List ℕ → Bool) → Allowing
AllowsOf t test u v = u ≡ t → test (triple_of v) ≡ true

-- packages that are pinned are shut
abbrev pub IsFree : List (Id × Version) → Allowing
IsFree pins u v = (p : Id × Version) → Contains pins p → p.0 ≢ u

-- what the project's compat allows
abbrev pub IsWithin : List (Id × List Part) → Allowing
IsWithin entries u v = (e : Id × List Part) → Contains entries e → e.0 ≡ u → specifier_holds e.1 (triple_of v) ≡ true

-- what an entry of the compat of t's offer allows of other packages
abbrev pub AllowsOther : Id → Id × Allows → Allowing
AllowsOther t e u v = e.0 ≢ t → e.0 ≡ u → allows_holds e.1 (triple_of v) ≡ true

-- what the compat of t's offer allows of them
abbrev pub IsWithinOffer : Id → List (Id × Allows) → Allowing
IsWithinOffer t entries u v = (e : Id × Allows) → Contains entries e → e.0 ≢ t → e.0 ≡ u → allows_holds e.1 (triple_of v) ≡ true

-- what the selected offers of the book's first packages allow of other packages
abbrev pub IsWithinFirst : List Packed → Selected → ℕ → Allowing
IsWithinFirst book s count u v = (q : ℕ) (x : Offering) → q < count → q < length book → taken (book_offers book) s (package_at book q).uuid ≡ Some x →
    IsWithinOffer (package_at book q).uuid x.compat u v

-- what the demand and the selected offers of other packages allow
pub record IsAllowedByAll (book : List Packed) (w : Wanted) (s : Selected) (u : Id) (v : Version) : Type 0 where
  pub free : IsFree (w.pins ++ w.held) u v
  pub project : IsWithin w.compat u v
  pub offers : IsWithinFirst book s (length book) u v

-- the offers that they allow are open, and no others
pub record AreOpen (book : List Packed) (w : Wanted) (s : Selected) (table : List (List Bool)) : Type 0 where
  pub sound : (p j : ℕ) (x : Offering) → p < length book → slice_get (package_at book p).offers j ≡ Some x → is_open table p j ≡ true →
      IsAllowedByAll book w s (package_at book p).uuid x.version
  pub whole : (p j : ℕ) (x : Offering) → p < length book → slice_get (package_at book p).offers j ≡ Some x →
      IsAllowedByAll book w s (package_at book p).uuid x.version → is_open table p j ≡ true
