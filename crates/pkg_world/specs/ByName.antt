-- Pairs in the order of their names.
use Rattle.std.specs.Prelude.{ℕ, Bool, List}
use Rattle.std.specs.Ordering.{nat_cmp}
use Rattle.std.specs.Cmp.Lexicographic.{slice_cmp}
use Rattle.std.specs.FinMap.Entries.{is_sorted}

-- whether the names strictly rise by their bytes, so that none comes twice
abbrev pub is_by_name : {X : Type 0} → List (List ℕ × X) → Bool
is_by_name = is_sorted (slice_cmp nat_cmp)
