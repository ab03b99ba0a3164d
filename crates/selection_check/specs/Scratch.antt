-- What holds of the scratch values that a check of a book's selections works on.
use Rattle.std.specs.Prelude.{◌≡◌, ℕ, ◌<◌, ◌≤◌, ◌^◌, Bool, List, length, vec_capacity}
use Rattle.bit_rows.specs.Rows.{row_at}
use Rattle.offer_terms.specs.Booked.{Packed, package_at}
use Rattle.selection_check.specs.declared.scratch.Scratch.{Scratch}

-- each row of the table has a place for each offer of its package, where these are few
pub record IsTableFor (book : List Packed) (table : List (List Bool)) : Type 0 where
  pub rows : length table ≡ length book
  pub wide : (p : ℕ) → p < length book → length (package_at book p).offers < 2 ^ 32 → length (package_at book p).offers ≤ length (row_at table p)

-- there is a place for each package
pub record IsScratchFor (book : List Packed) (scratch : Scratch) : Type 0 where
  pub marks : length scratch.marks.items ≡ length book
  pub room : length book ≤ vec_capacity scratch.order
  pub wide : IsTableFor book scratch.table
