-- Digits and the number that they mean, in std's words for what `parse` reads.
use Rattle.std.proofs.Common.{◌≡◌, ℕ, ◌^◌, ◌<◌, true, List, length, None, Err, rules, arith}
use Rattle.std.proofs.lemmas.Bool.Decides.{nat_tests}
use Rattle.std.specs.Char.{is_ascii_digit}
use Rattle.std.specs.List.{list_all}
use Rattle.std.specs.Str.Parse.{ParsesUnsigned, digits_value}
use Rattle.std.proofs.lemmas.Str.Parse.{IsNumeralModel, numerals_by_value, parse_digits}
use Rattle.command_words.specs.Numbers.{below_64_bits}

own : IsNumeralModel (λ ds. list_all is_ascii_digit ds ≡ true) (digits_value 10)
own = numerals_by_value _ (search rules)

too_great : (n : ℕ) → (n < 2 ^ 64 → ⊥) → None ≡ below_64_bits n
too_great n great = grind (arith, nat_tests)

none_in : (bs : List ℕ) → 0 < length bs → ((0 < length bs) × (digits_value 10 bs < 2 ^ 64) → ⊥) → None ≡ below_64_bits (digits_value 10 bs)
none_in bs some misfit = too_great (digits_value 10 bs) (λ fits. misfit (some, fits))

-- digits that `parse` refuses give no number
pub no_number : {E : Type 0} (bs : List ℕ) (e : E) → ParsesUnsigned {E = E} 64 10 bs (Err e) → 0 < length bs → list_all is_ascii_digit bs ≡ true → None ≡ below_64_bits (digits_value 10 bs)
no_number {E} bs e read some digits = none_in bs some (parse_digits own {E = E} 64 bs (Err e) read digits)
