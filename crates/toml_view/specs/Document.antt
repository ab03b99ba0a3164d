-- What table a file's bytes have.
use Rattle.std.specs.Prelude.{ℕ, List, nat_le, if◌then◌else◌, Option, Some, None, Result, Ok, Err}
use Rattle.std.specs.Str.{is_utf8}
use Rattle.toml.specs.Data.{Members, table, depth}
use Rattle.toml.specs.Parse.{parse_document}

-- the members of a file's table; None where the bytes are no UTF-8 or the text is no TOML
abbrev pub document_of : List ℕ → Option Members
document_of bytes = if is_utf8 bytes then parse_document bytes else None

-- how deep tables and lists nest, the file's own table counted. A table or list nests one deeper than the deepest
-- value in it, an empty one counts 1, and any other value 0
abbrev pub nesting : Members → ℕ
nesting members = depth (table members)

-- the greatest nesting that is read, a limit of this program's own
abbrev pub nesting_limit : ℕ
nesting_limit = 64

-- why bytes have no table
pub data ViewRefusal : Type 0 where
  bad_toml : ViewRefusal
  deep : ViewRefusal

-- members that nest too deep are refused
abbrev pub within_limit : Members → Result Members ViewRefusal
within_limit members = if nat_le (nesting members) nesting_limit then Ok members else Err deep

abbrev pub viewed_document : Option Members → Result Members ViewRefusal
viewed_document None = Err bad_toml
viewed_document (Some members) = within_limit members

-- the members of the bytes' table, or why there is none
abbrev pub viewed : List ℕ → Result Members ViewRefusal
viewed bytes = viewed_document (document_of bytes)
