-- Identifiers that strictly rise, after one is taken out.
use Rattle.std.proofs.Common.{◌≡◌, ℕ, zero, suc, List, [], ◌∷◌, map, Ordering, Less, nat_cmp}
use Rattle.std.specs.Cmp.Lexicographic.{slice_cmp}
use Rattle.std.specs.List.{AllByRecursion, remove}
use Rattle.std.specs.List.Sorted.{IsStrictlySortedBy}
use Rattle.offer_terms.specs.ById.{AreRising}

all-remove : {X : Type 0} {K : Type 0} (P : K → Type 0) (key : X → K) (xs : List X) (i : ℕ) → AllByRecursion P (map key xs) → AllByRecursion P (map key (remove xs i))
all-remove P key [] zero all = all
all-remove P key [] (suc i) all = all
all-remove P key (x ∷ xs) zero all = all.1
all-remove P key (x ∷ xs) (suc i) all = (all.0, all-remove P key xs i all.1)

pub sorted-remove : {X K : Type 0} (R : K → K → Ordering) (key : X → K) (xs : List X) (i : ℕ) → IsStrictlySortedBy R (map key xs) → IsStrictlySortedBy R (map key (remove xs i))
unfolding IsStrictlySortedBy
sorted-remove R key [] zero sorted = sorted
sorted-remove R key [] (suc i) sorted = sorted
sorted-remove R key (x ∷ xs) zero sorted = sorted.1
sorted-remove R key (x ∷ xs) (suc i) sorted = (all-remove (λ y. R (key x) y ≡ Less) key xs i sorted.0, sorted-remove R key xs i sorted.1)

pub rising-remove : {X : Type 0} (id : X → List ℕ) (xs : List X) (i : ℕ) → AreRising (map id xs) → AreRising (map id (remove xs i))
rising-remove id xs i rising = sorted-remove (slice_cmp nat_cmp) id xs i rising
