-- Lists that stand one behind the other in one list, by where each starts.
use Rattle.std.specs.Prelude.{◌≡◌, ℕ, ◌+◌, ◌-◌, ◌<◌, ◌≤◌, List, [], length, map, drop, slice_index, slice_range}
use Rattle.std.specs.List.{range_with_len}

-- the pieces of the list, each from its start to before the next start
unfoldable pub cut : {T : Type 0} → List ℕ → List T → List (List T)
cut starts xs = map (λ k. slice_range xs (slice_index starts k) (slice_index starts (k + 1))) (range_with_len 0 (length starts - 1))

-- the last start, which is where the last piece ends
abbrev pub end_of : List ℕ → ℕ
end_of starts = slice_index starts (length starts - 1)

-- the starts don't fall, and none is greater than n
pub record AreStarts (starts : List ℕ) (n : ℕ) : Type 0 where
  pub some : 0 < length starts
  pub rising : (k : ℕ) → k + 1 < length starts → slice_index starts k ≤ slice_index starts (k + 1)
  pub last : end_of starts ≤ n

pub record Flat : Type 0 where
  -- the rows that are ended
  pub rows : List (List ℕ)
  -- the row that isn't ended
  pub rest : List ℕ

-- no row
abbrev pub no_rows : Flat
no_rows = record { rows = []; rest = [] }

abbrev pub flat_of : List ℕ → List ℕ → Flat
flat_of starts numbers = record { rows = cut starts numbers; rest = drop (end_of starts) numbers }
