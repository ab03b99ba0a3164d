-- The texts of Git's tree identifiers.
use Rattle.std.specs.Prelude.{ℕ, List, Option, Some, None, Result, Ok, Err}
use Rattle.hex.specs.Hex.{decode_sized, encode_lower}
use Rattle.hex.specs.declared.error.FromHexError.{FromHexError}

abbrev pub spelled : Result (List ℕ) FromHexError → Option (List ℕ)
spelled (Ok bytes) = Some bytes
spelled (Err fault) = None

-- the 20 bytes that 40 hexadecimal digits spell, in either case; another text spells none
abbrev pub tree_of : List ℕ → Option (List ℕ)
tree_of text = spelled (decode_sized text 20)

-- the 40 digits in lower case
abbrev pub tree_text : List ℕ → List ℕ
tree_text bytes = encode_lower bytes
