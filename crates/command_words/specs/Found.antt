-- What stands in the matches of `clap`, by the names of a table's entries.
use Rattle.std.specs.Prelude.{Bool, false, List, codes, Option, Some, None}
use Rattle.std.specs.Str.{bytes_eq}
use Rattle.clap.specs.Walk.{Row, all_of, first_of}
use Rattle.command_words.specs.Table.{Word}

-- the word or the value under a name
abbrev pub text_in : Word → List Row → Option Word
text_in = first_of

-- the words under a name
abbrev pub texts_in : Word → List Row → Option (List Word)
texts_in = all_of

-- a flag's value is `true` where it is given, and else `false`
abbrev pub is_true : Option Word → Bool
is_true None = false
is_true (Some text) = bytes_eq text (codes "true")

abbrev pub has_flag : Word → List Row → Bool
has_flag name rows = is_true (text_in name rows)
