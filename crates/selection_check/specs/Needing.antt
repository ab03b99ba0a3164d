-- Packages that are marked while those that are needed are looked for, and the list of them in the order of the search.
use Rattle.std.specs.Prelude.{◌≡◌, ℕ, ◌<◌, ◌≤◌, Bool, true, false, List, length, count_by, slice_index_or, Some, Contains, ◌⊎◌}
use Rattle.jl_versions.specs.declared.version.Version.{Version}
use Rattle.offer_terms.specs.Offered.{Text, Id, Offering, Selected, version_in, taken}
use Rattle.offer_terms.specs.Booked.{Packed, package_at, book_offers}
use Rattle.offer_terms.specs.Demanded.{Wanted}
use Rattle.offer_terms.specs.Feasible.{Spreads, IsNeeded}
use Rattle.selection_check.specs.Order.{rank}

-- whether p is marked
unfoldable pub is_marked : List Bool → ℕ → Bool
is_marked marks p = slice_index_or marks p false

-- whether the package of that identifier is
abbrev pub has_mark : List Packed → List Bool → Id → Bool
has_mark book marks u = is_marked marks (rank book u)

-- so many packages are marked
abbrev pub marked_count : List Bool → ℕ
marked_count marks = count_by (λ b. b) marks

-- the list has each marked package once
pub record AreListed (n : ℕ) (marks : List Bool) (order : List ℕ) : Type 0 where
  pub each : length marks ≡ n
  pub counted : length order ≡ marked_count marks
  pub marked : (k : ℕ) → k < length order → is_marked marks (slice_index_or order k 0) ≡ true
  pub listed : (p : ℕ) → is_marked marks p ≡ true → Contains order p

-- what was marked stays so, and the list goes on
pub record Grows (old new : List Bool) (order more : List ℕ) : Type 0 where
  pub marks : (p : ℕ) → is_marked old p ≡ true → is_marked new p ≡ true
  pub longer : length order ≤ length more
  pub same : (k : ℕ) → k < length order → slice_index_or more k 0 ≡ slice_index_or order k 0

-- a package of the book that one of the identifiers names
pub record IsNamed (book : List Packed) (ids : List (Text × Id)) (p : ℕ) : Type 0 where
  pub entry : Text × Id
  pub there : Contains ids entry
  pub number : rank book entry.1 ≡ p
  pub known : p < length book

-- the package that an identifier names is marked besides
pub record MarksOne (book : List Packed) (u : Id) (old new : List Bool) : Type 0 where
  pub whole : rank book u < length book → has_mark book new u ≡ true
  pub only : (p : ℕ) → is_marked new p ≡ true → (is_marked old p ≡ true) ⊎ ((rank book u ≡ p) × (p < length book))

-- the packages that these identifiers name are marked besides
pub record Marks (book : List Packed) (ids : List (Text × Id)) (old new : List Bool) : Type 0 where
  pub whole : (e : Text × Id) → Contains ids e → rank book e.1 < length book → has_mark book new e.1 ≡ true
  pub only : (p : ℕ) → is_marked new p ≡ true → (is_marked old p ≡ true) ⊎ IsNamed book ids p

-- each marked package is needed
pub record AreNeeded (book : List Packed) (w : Wanted) (s : Selected) (marks : List Bool) : Type 0 where
  pub sound : (p : ℕ) → is_marked marks p ≡ true → IsNeeded (book_offers book) w s (package_at book p).uuid

-- what the first packages of the list depend on is marked
pub record AreMet (book : List Packed) (s : Selected) (marks : List Bool) (order : List ℕ) (count : ℕ) : Type 0 where
  pub met : (k : ℕ) (x : Offering) (d : Text × Id) → k < count → k < length order →
      taken (book_offers book) s (package_at book (slice_index_or order k 0)).uuid ≡ Some x → Contains x.deps d → rank book d.1 < length book → has_mark book marks d.1 ≡ true

-- the needed packages and no others are marked
pub record AreTheNeeded (book : List Packed) (w : Wanted) (s : Selected) (marks : List Bool) : Type 0 where
  pub needed : AreNeeded book w s marks
  pub spreads : Spreads (book_offers book) w s (has_mark book marks)

-- a selected package of the book that isn't marked
pub record IsUnmarked (book : List Packed) (s : Selected) (marks : List Bool) (u : Id) : Type 0 where
  pub version : Version
  pub selected : version_in s u ≡ Some version
  pub known : rank book u < length book
  pub unmarked : has_mark book marks u ≡ false
