-- CRC-32C, as the remainder of a long division of polynomials over the field of two elements (Castagnoli's polynomial;
-- RFC 3720 has the rule). A polynomial is the list of its coefficients, that of the highest power first.
use Rattle.std.specs.Prelude.{ℕ, zero, suc, ◌+◌, ◌*◌, ◌/◌, ◌%◌, ◌==◌, Bool, false, not, if◌then◌else◌, List, [], ◌∷◌, ◌++◌, map, length, reverse, replicate}
use Rattle.std.specs.List.{flat_map}

-- the lowest bits of a number, the lowest first
unfoldable pub low_bits : ℕ → ℕ → List Bool
low_bits zero n = []
low_bits (suc count) n = (n % 2 == 1) ∷ low_bits count (n / 2)

-- the number of bits, the lowest first
unfoldable pub number_of : List Bool → ℕ
number_of [] = 0
number_of (b ∷ bs) = (if b then 1 else 0) + 2 * number_of bs

-- the sum of two lists of coefficients, laid upon each other from the front
unfoldable pub added : List Bool → List Bool → List Bool
added [] ys = ys
added (x ∷ xs) [] = x ∷ xs
added (x ∷ xs) (y ∷ ys) = (if x then not y else y) ∷ added xs ys

-- what the polynomial 0x1EDC6F41 has below its power 32
unfoldable pub divisor : List Bool
divisor = reverse (low_bits 32 0x1EDC6F41)

-- what is left after some steps of a long division by it: a step takes the highest coefficient away, and where that is one the divisor too
unfoldable pub divided : ℕ → List Bool → List Bool
divided zero coefficients = coefficients
divided (suc steps) [] = []
divided (suc steps) (c ∷ coefficients) = divided steps (if c then added divisor coefficients else coefficients)

-- reflected: the lowest bit of each byte first
unfoldable pub message_of : List ℕ → List Bool
message_of = flat_map (low_bits 8)

-- The message, multiplied by the power 32, with the complement of the start upon its front, is divided down to 32
-- coefficients. The checksum is their complement, as a number that is reflected too.
unfoldable pub crc32c : ℕ → List ℕ → ℕ
crc32c start bytes =
    number_of (map not (divided (8 * length bytes) (added (map not (low_bits 32 start)) (message_of bytes ++ replicate 32 false))))
