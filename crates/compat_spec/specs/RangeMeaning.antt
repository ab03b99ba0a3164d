-- Which versions a range holds, by their three numbers: those that, cut to the count of each bound, aren't below
-- the lower and aren't above the upper one. A set of ranges holds what one of them holds.
use Rattle.std.specs.Prelude.{ℕ, Bool, List, []}
use Rattle.std.specs.List.{list_any}
use Rattle.compat_spec.specs.declared.range.Bound.{Bound}
use Rattle.compat_spec.specs.declared.range.Bound.TheVariants.{Any, Of}
use Rattle.compat_spec.specs.Ranges.{Ranged}
use Rattle.compat_spec.specs.Meaning.{given, is_within}

-- the numbers of a bound, of a star none
abbrev pub bound_numbers : Bound → List ℕ
bound_numbers Any = []
bound_numbers (Of numbers) = given numbers

abbrev pub range_holds : Ranged → List ℕ → Bool
range_holds range triple = is_within triple (bound_numbers range.bounds.lower) (bound_numbers range.bounds.upper)

abbrev pub ranges_hold : List Ranged → List ℕ → Bool
ranges_hold ranges triple = list_any (λ range. range_holds range triple) ranges
