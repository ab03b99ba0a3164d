-- The bytes of version texts, the number that digits mean, and which identifiers are words.
--     is_digit, is_ident_byte     0 to 9; a letter, a digit or a hyphen
--     number_of digits            the number that digits mean, in tens
--     is_word bytes               one or more letters, digits or hyphens, and not digits alone
use Rattle.std.specs.Prelude.{ℕ, ◌+◌, ◌*◌, ◌-◌, Bool, true, false, not, List, [], ◌∷◌, nat_le, ◌==◌, ◌&&◌, ◌||◌}
use Rattle.std.specs.List.{list_all}

abbrev pub is_digit : ℕ → Bool
is_digit byte = nat_le 48 byte && nat_le byte 57

abbrev pub is_letter : ℕ → Bool
is_letter byte = (nat_le 65 byte && nat_le byte 90) || (nat_le 97 byte && nat_le byte 122)

-- a letter, a digit or a hyphen
abbrev pub is_ident_byte : ℕ → Bool
is_ident_byte byte = is_letter byte || is_digit byte || byte == 45

-- the number that digits mean behind others that mean n: each digit adds a place in tens
abbrev pub number_after : ℕ → List ℕ → ℕ
number_after n [] = n
number_after n (digit ∷ digits) = number_after (10 * n + (digit - 48)) digits

-- the number that digits mean
abbrev pub number_of : List ℕ → ℕ
number_of digits = number_after 0 digits

abbrev pub is_empty : {X : Type 0} → List X → Bool
is_empty [] = true
is_empty (x ∷ xs) = false

-- one or more letters, digits or hyphens, and not digits alone
abbrev pub is_word : List ℕ → Bool
is_word bytes = list_all is_ident_byte bytes && not (list_all is_digit bytes)
