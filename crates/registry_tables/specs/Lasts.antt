-- The last item of a list that passes a test.
use Rattle.std.specs.Prelude.{Bool, List, [], ◌∷◌, Option, Some, None, if◌then◌else◌}
use Rattle.std.specs.Option.{option_or}

abbrev pub last_of : {A : Type 0} → (A → Bool) → List A → Option A
last_of p [] = None
last_of p (x ∷ xs) = option_or (last_of p xs) (if p x then Some x else None)
