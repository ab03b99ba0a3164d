-- Which texts are ranges of a registry, and which bounds each has (own rule where spaces may stand). A range is
-- a bound, or two bounds with a hyphen between them; a bound is a star or numbers, and stands alone but for spaces.
--     range_of text   the bounds of a range, None where the text is none
use Rattle.std.specs.Prelude.{ℕ, List, [], ◌∷◌, Option, None, Some, if◌then◌else◌, codes, IsSome}
use Rattle.compat_spec.specs.declared.range.Bound.{Bound}
use Rattle.compat_spec.specs.declared.range.Bound.TheVariants.{Any, Of}
use Rattle.compat_spec.specs.Pieces.{◌>>=◌, pieces, words, is_text}
use Rattle.compat_spec.specs.Numbers.{numbers_of}

pub record Bounds : Type 0 where
  pub lower : Bound
  pub upper : Bound

abbrev pub bounds : Bound → Bound → Bounds
bounds lower upper = record { lower = lower; upper = upper }

-- a star, or numbers
abbrev pub bound_of : List ℕ → Option Bound
bound_of word = if is_text (codes "*") word then Some Any else do
  numbers ← numbers_of word
  Some (Of numbers)

-- a bound is one word
unfoldable pub bound_in : List (List ℕ) → Option Bound
bound_in (word ∷ []) = bound_of word
bound_in _ = None

-- one bound, for both ends, or two
abbrev pub bounds_of : List (List ℕ) → Option Bounds
bounds_of (whole ∷ []) = do
  bound ← bound_in (words whole)
  Some (bounds bound bound)
bounds_of (low ∷ high ∷ []) = do
  lower ← bound_in (words low)
  upper ← bound_in (words high)
  Some (bounds lower upper)
bounds_of _ = None

unfoldable pub range_of : List ℕ → Option Bounds
range_of text = bounds_of (pieces 45 text)

abbrev pub IsRange : List ℕ → Type 0
IsRange text = IsSome (range_of text)

-- a range as contracts see it: the text that it was read from, and its bounds
pub record Ranged : Type 0 where
  pub text : List ℕ
  pub bounds : Bounds
