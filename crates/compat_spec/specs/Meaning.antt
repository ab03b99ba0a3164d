-- Which versions a specifier or a range holds, by their three numbers (Pkg, Compatibility; `=`, `<`, 0.0.0 and
-- star are own rules). A part of a specifier is a half-open interval of triples, and a specifier the union of
-- its parts. A range compares what of a triple its bounds give.
--     less xs ys                the first is below the second, at the first place where they differ
--     contains interval triple  from its lower end on, and below its upper end where it has one
--     interval_of part          the interval that a part means
--     specifier_holds, range_holds, allowed_holds
use Rattle.std.specs.Prelude.{ℕ, ◌+◌, Bool, true, false, not, List, [], ◌∷◌, length, take, slice_index, Option, None, Some, nat_lt, ◌==◌, ◌&&◌, ◌||◌, if◌then◌else◌}
use Rattle.std.specs.List.{list_any}
use Rattle.compat_spec.specs.declared.numbers.Numbers.{Numbers}
use Rattle.compat_spec.specs.declared.numbers.Numbers.TheVariants.{Major, Minor, Patch}
use Rattle.compat_spec.specs.declared.part.Part.{Part}
use Rattle.compat_spec.specs.declared.part.Part.TheVariants.{Caret, Tilde, Equal, AtLeast, Below, Between, Every}

-- lists of numbers, of one length
abbrev pub less : List ℕ → List ℕ → Bool
less (x ∷ xs) (y ∷ ys) = nat_lt x y || x == y && less xs ys
less _ _ = false

-- a lower end, and an upper one that is out, where there is one
pub record Interval : Type 0 where
  pub from : List ℕ
  pub to : Option (List ℕ)

abbrev pub below_end : List ℕ → Option (List ℕ) → Bool
below_end triple None = true
below_end triple (Some to) = less triple to

abbrev pub contains : Interval → List ℕ → Bool
contains interval triple = not (less triple interval.from) && below_end triple interval.to

abbrev pub given : Numbers → List ℕ
given (Major a) = a ∷ []
given (Minor a b) = a ∷ b ∷ []
given (Patch a b c) = a ∷ b ∷ c ∷ []

-- numbers that are missing are 0
abbrev pub padded : List ℕ → List ℕ
padded numbers = slice_index numbers 0 ∷ slice_index numbers 1 ∷ slice_index numbers 2 ∷ []

-- the first number that isn't 0 raised by one, and the last where all are 0; later ones are left out
abbrev pub raised : List ℕ → List ℕ
raised [] = []
raised (x ∷ []) = (x + 1) ∷ []
raised (x ∷ y ∷ numbers) = if x == 0 then 0 ∷ raised (y ∷ numbers) else (x + 1) ∷ []

-- the last number raised by one
abbrev pub last_raised : List ℕ → List ℕ
last_raised [] = []
last_raised (x ∷ []) = (x + 1) ∷ []
last_raised (x ∷ y ∷ numbers) = x ∷ last_raised (y ∷ numbers)

-- the minor number raised, of 0.0.x the patch number, and the major number where it is alone
abbrev pub tilde_raised : Numbers → List ℕ
tilde_raised (Major a) = (a + 1) ∷ []
tilde_raised (Minor a b) = a ∷ (b + 1) ∷ []
tilde_raised (Patch a b c) = if a == 0 && b == 0 then 0 ∷ 0 ∷ (c + 1) ∷ [] else a ∷ (b + 1) ∷ []

abbrev pub interval : List ℕ → Option (List ℕ) → Interval
interval from to = record { from = from; to = to }

abbrev pub interval_of : Part → Interval
interval_of (Caret numbers) = interval (padded (given numbers)) (Some (padded (raised (given numbers))))
interval_of (Tilde numbers) = interval (padded (given numbers)) (Some (padded (tilde_raised numbers)))
interval_of (Equal numbers) = interval (padded (given numbers)) (Some (last_raised (padded (given numbers))))
interval_of (AtLeast numbers) = interval (padded (given numbers)) None
interval_of (Below numbers) = interval (0 ∷ 0 ∷ 0 ∷ []) (Some (padded (given numbers)))
interval_of (Between low high) = interval (padded (given low)) (Some (padded (last_raised (given high))))
interval_of Every = interval (0 ∷ 0 ∷ 0 ∷ []) None

abbrev pub part_holds : Part → List ℕ → Bool
part_holds part triple = contains (interval_of part) triple

abbrev pub specifier_holds : List Part → List ℕ → Bool
specifier_holds parts triple = list_any (λ part. part_holds part triple) parts

-- as many of the triple's numbers as a bound gives
abbrev pub cut : List ℕ → List ℕ → List ℕ
cut bound triple = take (length bound) triple

-- cut to a bound's count, the triple is below it
abbrev pub cut_below : List ℕ → List ℕ → Bool
cut_below triple bound = less (cut bound triple) bound

-- cut to a bound's count, the triple is above it
abbrev pub cut_above : List ℕ → List ℕ → Bool
cut_above triple bound = less bound (cut bound triple)

-- cut to the count of each bound, the triple isn't below the lower and isn't above the upper one
abbrev pub is_within : List ℕ → List ℕ → List ℕ → Bool
is_within triple lower upper = not (cut_below triple lower) && not (cut_above triple upper)
