-- The numbers among words: the budget of nodes that a search has, and the number of a made world. (own rule)
use Rattle.std.specs.Prelude.{ℕ, Bool, not, ◌==◌, ◌^◌, nat_le, nat_lt, ◌&&◌, if◌then◌else◌, List, length, Option, Some, None}
use Rattle.std.specs.Char.{is_ascii_digit}
use Rattle.std.specs.List.{list_all}
use Rattle.std.specs.Option.{option_and_then}
use Rattle.std.specs.Str.Parse.{digits_value}

abbrev pub below_64_bits : ℕ → Option ℕ
below_64_bits number = if nat_lt number (2 ^ 64) then Some number else None

-- digits alone, at least one
abbrev pub is_digits : List ℕ → Bool
is_digits text = not (length text == 0) && list_all is_ascii_digit text

-- the number that a text gives: digits alone, whose number is below 2^64; zeros may lead
abbrev pub number_of : List ℕ → Option ℕ
number_of text = if is_digits text then below_64_bits (digits_value 10 text) else None

-- the budget of words that give none
abbrev pub usual_budget : ℕ
usual_budget = 131072

abbrev pub budget_within : ℕ → Option ℕ
budget_within nodes = if nat_le nodes 16777216 && nat_le 1 nodes then Some nodes else None

-- the budget that a text gives: such a number, from 1 to 16,777,216
abbrev pub budget_of : List ℕ → Option ℕ
budget_of text = option_and_then budget_within (number_of text)
