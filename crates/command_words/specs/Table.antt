-- What a command takes behind its word, and what the crate `clap` makes of words by it. (own rule)
use Rattle.std.specs.Prelude.{ℕ, true, List, [], ◌∷◌, map, Option, Some, None}
use Rattle.clap.specs.Lexer.{usize_max}
use Rattle.clap.specs.Walk.{Row, Rule}
use Rattle.clap.specs.Simple.{App, matches_of, new_app, new_rule, on_top}
use Rattle.clap.specs.Faults.{fault_of}
use Rattle.clap.specs.Kinds.{Kinds}
use Rattle.clap.specs.declared.builder.action.ArgAction.TheVariants.{Set, SetTrue}

abbrev pub Word : Type 0
Word = List ℕ

-- one entry of a command's table
pub data Entry : Type 0 where
  -- a positional word, which has to be there
  one : Word → Entry
  -- such words, one or more
  several : Word → Entry
  -- `--NAME VALUE` or `--NAME=VALUE`, at most once
  option : Word → Entry
  -- `--NAME`, at most once
  flag : Word → Entry

-- the argument of `clap` for an entry
abbrev pub rule : Entry → Rule
rule (one name) = record (new_rule name) { required = true }
rule (several name) = record (new_rule name) { required = true; range = Some (record { start_inclusive = 1; end_inclusive = usize_max }) }
rule (option name) = record (new_rule name) { long = Some name; action = Some Set }
rule (flag name) = record (new_rule name) { long = Some name; action = Some SetTrue }

-- the command of `clap` for a table: its arguments and nothing else, so no help flag; the words are those behind the command word
abbrev pub definition : Word → List Entry → App
definition command table = on_top (λ shape. record shape { rules = map rule table; no_binary_name = true; disable_help_flag = true }) (new_app command)

-- what `clap` finds in the words, argument by argument; None where the definition refuses them, for any kind of cause
abbrev pub found_unless : Kinds → List Row → Option (List Row)
found_unless [] found = Some found
found_unless (kind ∷ kinds) found = None

abbrev pub found_by : App → List Word → Option (List Row)
found_by app words = found_unless (fault_of app words) (matches_of app words)

abbrev pub matched : Word → List Entry → List Word → Option (List Row)
matched command table words = found_by (definition command table) words
