-- The offers to which a package can be raised, as they are looked for.
use Rattle.std.specs.Prelude.{◌≡◌, ℕ, ◌<◌, ◌≤◌, Bool, true, List, length, Some, slice_get}
use Rattle.std.specs.declared.cmp.Ordering.TheVariants.{Less}
use Rattle.jl_versions.specs.Order.{version_cmp}
use Rattle.jl_versions.specs.declared.version.Version.{Version}
use Rattle.offer_terms.specs.Offered.{Id, Offering, Selected, version_in, offer_at}
use Rattle.offer_terms.specs.Booked.{Packed, package_at, book_offers}
use Rattle.selection_check.specs.Breaches.{OfferLacks, OfferExcludes}
use Rattle.selection_check.specs.Opening.{is_open}

-- all that an offer of u depends on is selected, and all that is selected is as it allows
pub record IsMet (julia : List ℕ) (s : Selected) (u : Id) (offer : Offering) : Type 0 where
  pub needs : (d : Id) → OfferLacks s u offer d → ⊥
  pub fits : (d : Id) → OfferExcludes julia s u offer d → ⊥

-- the offer of package p in place j is such a one, is greater than the selected version, and is allowed by all others
pub record Passes (book : List Packed) (julia : List ℕ) (s : Selected) (table : List (List Bool)) (p j : ℕ) : Type 0 where
  pub known : p < length book
  pub offer : Offering
  pub there : slice_get (package_at book p).offers j ≡ Some offer
  pub stands : offer_at (book_offers book) (package_at book p).uuid offer.version ≡ Some offer
  pub old : Version
  pub selected : version_in s (package_at book p).uuid ≡ Some old
  pub greater : version_cmp old offer.version ≡ Less
  pub opened : is_open table p j ≡ true
  pub met : IsMet julia s (package_at book p).uuid offer

-- no offer of p does, or the one in place j is the first
abbrev pub NonePasses : List Packed → List ℕ → Selected → List (List Bool) → ℕ → Type 0
NonePasses book julia s table p = (j : ℕ) → Passes book julia s table p j → ⊥

pub record IsFirstPass (book : List Packed) (julia : List ℕ) (s : Selected) (table : List (List Bool)) (p j : ℕ) : Type 0 where
  pub here : Passes book julia s table p j
  pub lowest : (i : ℕ) → Passes book julia s table p i → j ≤ i
