-- What was read for some names, and is found again by its name.
use Rattle.std.specs.Prelude.{ℕ, List, [], ◌∷◌, Option, None, Ok, Err}
use Rattle.std.specs.Option.{option_and_then}
pub use Rattle.extension_rules.specs.ByName.{found_at, is_among}
use Rattle.pkg_world.specs.Each.{then_ok, read_each}
use Rattle.project_places.specs.Files.{Read}

-- what a reading gives for a name, beside the name
abbrev pub with_name : {T : Type 0} → (List ℕ → Read T) → List ℕ → Read (List (List ℕ × T))
with_name read name = then_ok (read name) (λ value. Ok ((name, value) ∷ []))

-- what a reading gives for each of these names
abbrev pub by_name : {T : Type 0} → (List ℕ → Read T) → List (List ℕ) → Read (List (List ℕ × T))
by_name read names = read_each (with_name read) names

-- what stands first under a name, of a reading that may find nothing
abbrev pub found_in : {T : Type 0} → List (List ℕ × Option T) → List ℕ → Option T
found_in found name = option_and_then (λ value. value) (found_at name found)

-- what a reading finds; nothing where its file is refused
abbrev pub given : {T : Type 0} → Read (Option T) → Option T
given (Ok value) = value
given (Err refused) = None
