-- Lists in the order of identifiers, each identifier once. Identifiers go by their bytes.
use Rattle.std.specs.Prelude.{ℕ, List, Option}
use Rattle.std.specs.List.Sorted.{IsStrictlySortedBy}
use Rattle.std.specs.Map.{lookup}
use Rattle.std.specs.Ordering.{nat_cmp}
use Rattle.std.specs.Cmp.Lexicographic.{slice_cmp}
use Rattle.std.specs.Str.{bytes_eq}

-- the identifiers strictly rise
abbrev pub AreRising : List (List ℕ) → Type 0
AreRising ids = IsStrictlySortedBy (slice_cmp nat_cmp) ids

-- what stands at an identifier
abbrev pub at_id : {T : Type 0} → List (List ℕ × T) → List ℕ → Option T
at_id pairs id = lookup (bytes_eq id) pairs
