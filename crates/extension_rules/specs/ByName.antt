-- What stands under a name.
use Rattle.std.specs.Prelude.{ℕ, Bool, false, ◌||◌, if◌then◌else◌, List, [], ◌∷◌, Option, Some, None}
use Rattle.std.specs.Str.{bytes_eq}

-- what stands first under a name
abbrev pub found_at : {T : Type 0} → List ℕ → List (List ℕ × T) → Option T
found_at name [] = None
found_at name ((key, value) ∷ more) = if bytes_eq key name then Some value else found_at name more

abbrev pub is_among : List ℕ → List (List ℕ) → Bool
is_among name [] = false
is_among name (key ∷ more) = bytes_eq key name || is_among name more
