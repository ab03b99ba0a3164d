-- The register of a checksum's division: the 32 coefficients at the front without the message upon them, as a number that is reflected.
use Rattle.std.specs.Prelude.{ℕ, zero, suc, ◌/◌, ◌%◌, ◌==◌, if◌then◌else◌, bit_xor, List, [], ◌∷◌}

-- one step of the division
unfoldable pub shifted : ℕ → ℕ
shifted register = bit_xor (register / 2) (if register % 2 == 1 then 0x82F63B78 else 0)

unfoldable pub shifts : ℕ → ℕ → ℕ
shifts zero register = register
shifts (suc count) register = shifts count (shifted register)

unfoldable pub eight_shifts : ℕ → ℕ
eight_shifts = shifts 8

-- the steps of one byte
unfoldable pub next_register : ℕ → ℕ → ℕ
next_register register byte = eight_shifts (bit_xor register byte)

-- the steps of each byte in turn
abbrev pub registers : ℕ → List ℕ → ℕ
registers register [] = register
registers register (byte ∷ bytes) = registers (next_register register byte) bytes
