-- The format of a manifest (Pkg, Manifest.toml).
use Rattle.std.specs.Prelude.{ℕ, Bool, not, ◌&&◌, ◌||◌, ◌==◌, if◌then◌else◌, List, length, drop, nat_le, codes, Some, None, Result}
use Rattle.std.specs.List.{list_all, starts_with}
use Rattle.std.specs.Str.{bytes_eq}
use Rattle.toml.specs.Data.{Data}
use Rattle.toml_view.specs.Reading.{text_of, or_shape, chained}
use Rattle.toml_view.specs.declared.refusal.Refusal.{Refusal}

abbrev pub is_digit : ℕ → Bool
is_digit b = nat_le 48 b && nat_le b 57

-- one digit or more
abbrev pub is_minor : List ℕ → Bool
is_minor digits = not (length digits == 0) && list_all is_digit digits

-- the format `2`, or `2.` with digits
abbrev pub is_format_two : List ℕ → Bool
is_format_two text = bytes_eq text (codes "2") || (starts_with (λ a b. a == b) text (codes "2.") && is_minor (drop 2 text))

abbrev pub format_of_text : List ℕ → Result (Unit {0}) Refusal
format_of_text text = or_shape (if is_format_two text then Some tt else None)

abbrev pub format_of : Data → Result (Unit {0}) Refusal
format_of value = chained format_of_text (text_of value)
