-- Which package of a book can be raised alone, and to which of its offers: by the packages' numbers, and by the places of
-- the offers in rising order. (own rule)
use Rattle.std.specs.Prelude.{◌≡◌, ℕ, ◌<◌, ◌≤◌, ◌^◌, List, length, Some, slice_get}
use Rattle.jl_versions.specs.declared.version.Version.{Version}
use Rattle.offer_terms.specs.Offered.{Id, Offering, Selected, offer_at}
use Rattle.offer_terms.specs.Booked.{Packed, package_at, book_offers}
use Rattle.offer_terms.specs.Demanded.{Wanted}
use Rattle.offer_terms.specs.Feasible.{CanRaise}

-- package p can be raised alone to its offer in place j, which is what is offered of it at that version
pub record CanRaiseTo (book : List Packed) (w : Wanted) (s : Selected) (p j : ℕ) : Type 0 where
  pub known : p < length book
  pub offer : Offering
  pub there : slice_get (package_at book p).offers j ≡ Some offer
  pub stands : offer_at (book_offers book) (package_at book p).uuid offer.version ≡ Some offer
  pub can : CanRaise (book_offers book) w s (package_at book p).uuid offer.version

-- it passes, no lesser package does, and no lesser offer of it
pub record IsLeastAt (Passes : ℕ → ℕ → Type 0) (p j : ℕ) : Type 0 where
  pub here : Passes p j
  pub least : (q i : ℕ) → Passes q i → p ≤ q
  pub lowest : (i : ℕ) → Passes p i → j ≤ i

-- the least package that can be raised alone, with the least such offer of it
abbrev pub IsLeastRaise : List Packed → Wanted → Selected → ℕ → ℕ → Type 0
IsLeastRaise book w s = IsLeastAt (CanRaiseTo book w s)

-- no package can be raised alone
abbrev pub RaisesNone : List Packed → Wanted → Selected → Type 0
RaisesNone book w s = (u : Id) (v : Version) → CanRaise (book_offers book) w s u v → ⊥

-- the places of offers are numbers of 32 bits
abbrev pub HasFewOffers : List Packed → Type 0
HasFewOffers book = (p : ℕ) → length (package_at book p).offers < 2 ^ 32
