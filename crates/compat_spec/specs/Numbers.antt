-- One to three numbers joined by dots, with an optional v before them. Numbers are below 2^32, and leading
-- zeros are allowed (own rule; the form is that of Pkg, Compatibility).
--     number_of digits   the number that digits stand for
--     numbers_of word    the numbers that a word stands for
use Rattle.std.specs.Prelude.{ℕ, ◌+◌, ◌-◌, ◌*◌, ◌^◌, not, List, [], ◌∷◌, map, Option, None, Some, nat_lt, ◌==◌, ◌&&◌, if◌then◌else◌}
use Rattle.std.specs.List.{list_all}
use Rattle.std.specs.Char.{is_ascii_digit}
use Rattle.compat_spec.specs.declared.numbers.Numbers.{Numbers}
use Rattle.compat_spec.specs.declared.numbers.Numbers.TheVariants.{Major, Minor, Patch}
use Rattle.compat_spec.specs.Pieces.{pieces, is_empty}

-- the number whose decimal digits are those of n and then these
abbrev pub value_after : ℕ → List ℕ → ℕ
value_after n [] = n
value_after n (digit ∷ digits) = value_after (10 * n + (digit - 48)) digits

-- one or more digits, whose value is below 2^32
unfoldable pub number_of : List ℕ → Option ℕ
number_of digits = if not (is_empty digits) && list_all is_ascii_digit digits && nat_lt (value_after 0 digits) (2 ^ 32) then Some (value_after 0 digits) else None

-- one to three numbers that are all there
unfoldable pub gathered : List (Option ℕ) → Option Numbers
gathered (Some a ∷ []) = Some (Major a)
gathered (Some a ∷ Some b ∷ []) = Some (Minor a b)
gathered (Some a ∷ Some b ∷ Some c ∷ []) = Some (Patch a b c)
gathered _ = None

-- what follows a v, or all where no v stands there
abbrev pub without_v : List ℕ → List ℕ
without_v [] = []
without_v (byte ∷ bytes) = if byte == 118 then bytes else byte ∷ bytes

unfoldable pub numbers_of : List ℕ → Option Numbers
numbers_of word = gathered (map number_of (pieces 46 (without_v word)))
