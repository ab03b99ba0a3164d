-- The folder name of an installed tree, by this project's own rule after Julia's loader.
use Rattle.std.specs.Prelude.{ℕ, zero, suc, ◌+◌, ◌-◌, ◌/◌, ◌%◌, nat_lt, if◌then◌else◌, List, [], ◌∷◌, ◌++◌, reverse}
use Rattle.depot_hash.specs.Checksum.{crc32c}

-- the letter of a number below 62: A to Z, a to z, 0 to 9
abbrev pub letter : ℕ → ℕ
letter n = if nat_lt n 26 then 65 + n else if nat_lt n 52 then 97 + (n - 26) else 48 + (n - 52)

-- a number's first letters in base 62, the lowest first
unfoldable pub letters : ℕ → ℕ → List ℕ
letters zero n = []
letters (suc count) n = letter (n % 62) ∷ letters count (n / 62)

-- the checksum of the 16 bytes of the identifier's number, the least first, and then of the tree's 20 bytes
abbrev pub slug_number : List ℕ → List ℕ → ℕ
slug_number uuid tree = crc32c 0 (reverse uuid ++ tree)

abbrev pub slug_of : ℕ → List ℕ → List ℕ → List ℕ
slug_of count uuid tree = letters count (slug_number uuid tree)
