-- The entries of a tree at their places, as the code holds them.
use Rattle.std.specs.Prelude.{ℕ, if◌then◌else◌, List, map, Option, Some, None}
use Rattle.std.specs.Ordering.{nat_cmp, is_lt}
use Rattle.std.specs.Cmp.Lexicographic.{slice_cmp}
use Rattle.std.specs.Borrow.{Bor}
use Rattle.depot_hash.specs.declared.entries.TreeEntry.{TreeEntry}

abbrev pub seen : List (List ℕ × Bor TreeEntry) → List (List ℕ × TreeEntry)
seen = map (λ p. (p.0, p.1.now))

-- the first of two names by their bytes
abbrev pub lesser : Option (List ℕ) → List ℕ → List ℕ
lesser None name = name
lesser (Some first) name = if is_lt (slice_cmp nat_cmp name first) then name else first
