-- A triple against the ends of intervals, and against numbers that leave some of it open.
use Rattle.std.proofs.Common.{◌≡◌, ℕ, not, List, [], ◌∷◌, Some, refl, arith}
use Rattle.std.proofs.lemmas.Bool.Decides.{nat_tests}
use Rattle.compat_spec.specs.declared.numbers.Numbers.{Numbers}
use Rattle.compat_spec.specs.declared.numbers.Numbers.TheVariants.{Major, Minor, Patch}
use Rattle.compat_spec.specs.Meaning.{less, given, padded, last_raised, cut_below, cut_above, is_within, contains, interval}

abbrev triple : ℕ → ℕ → ℕ → List ℕ
triple x y z = x ∷ y ∷ z ∷ []

pub from_low : (numbers : Numbers) (x y z : ℕ) → less (triple x y z) (padded (given numbers)) ≡ cut_below (triple x y z) (given numbers)
from_low (Major a) x y z = grind (arith, nat_tests)
from_low (Minor a b) x y z = grind (arith, nat_tests)
from_low (Patch a b c) x y z = refl

pub to_high : (numbers : Numbers) (x y z : ℕ) → less (triple x y z) (padded (last_raised (given numbers))) ≡ not (cut_above (triple x y z) (given numbers))
to_high (Major a) x y z = grind (arith, nat_tests)
to_high (Minor a b) x y z = grind (arith, nat_tests)
to_high (Patch a b c) x y z = grind (arith, nat_tests)

-- an interval whose upper end is the last of some numbers raised
pub between : (low top : Numbers) (to : List ℕ) (x y z : ℕ) → last_raised (given top) ≡ to
    → contains (interval (padded (given low)) (Some (padded to))) (triple x y z) ≡ is_within (triple x y z) (given low) (given top)
between low top to x y z e = rw (← e, from_low low x y z, to_high top x y z) refl
