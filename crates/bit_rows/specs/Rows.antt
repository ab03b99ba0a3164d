-- Rows of truth values, and what is asked of them, as plain lists. (own rule)
use Rattle.std.specs.Prelude.{ℕ, Bool, true, false, not, if◌then◌else◌, ◌&&◌, ◌||◌, List, [], ◌∷◌, slice_index_or}

-- the row of a table
abbrev pub row_at : List (List Bool) → ℕ → List Bool
row_at table r = slice_index_or table r []

-- the truth value in a place
abbrev pub truth_at : List Bool → ℕ → Bool
truth_at xs k = slice_index_or xs k false

-- place by place, whether both are true
unfoldable pub both : List Bool → List Bool → List Bool
both [] ys = []
both (x ∷ xs) [] = []
both (x ∷ xs) (y ∷ ys) = (x && y) ∷ both xs ys

-- whether some place is true in both
unfoldable pub any_both : List Bool → List Bool → Bool
any_both [] ys = false
any_both (x ∷ xs) [] = false
any_both (x ∷ xs) (y ∷ ys) = (x && y) || any_both xs ys

-- whether the two agree in every place that is true in the mask
unfoldable pub agree_under : List Bool → List Bool → List Bool → Bool
agree_under [] ys ms = true
agree_under (x ∷ xs) [] ms = true
agree_under (x ∷ xs) (y ∷ ys) [] = true
agree_under (x ∷ xs) (y ∷ ys) (m ∷ ms) = (not m || (if x then y else not y)) && agree_under xs ys ms
