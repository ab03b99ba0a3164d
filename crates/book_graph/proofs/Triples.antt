-- Three numbers as a list.
use Rattle.std.proofs.Common.{◌≡◌, ℕ, List, [], ◌∷◌, length, get_or, refl, arith}

pub three : (xs : List ℕ) → length xs ≡ 3 → get_or xs 0 0 ∷ get_or xs 1 0 ∷ get_or xs 2 0 ∷ [] ≡ xs
three [] e = absurd (omega (arith, e))
three (a ∷ []) e = absurd (omega (arith, e))
three (a ∷ b ∷ []) e = absurd (omega (arith, e))
three (a ∷ b ∷ c ∷ []) e = refl
three (a ∷ b ∷ c ∷ d ∷ xs) e = absurd (omega (arith, e))
