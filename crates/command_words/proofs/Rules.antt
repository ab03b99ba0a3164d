-- A table with one more entry, and the words that `clap` refuses.
use Rattle.std.proofs.Common.{◌≡◌, ◌∙◌, ◌<◌, ◌+◌, ℕ, ap, refl, true, List, [], ◌∷◌, ◌++◌, length, map, take, Option, None, option_map, inl, inr}
use Rattle.std.specs.List.{slice_index_or}
use Rattle.std.proofs.lemmas.List.{map-append, map_more}
use Rattle.clap.specs.Words.{App, HasKind, Kinds, fault_of, is_simple_and_free, kind_of, with_rule}
use Rattle.clap.specs.Simple.{matches_of, new_app, on_top}
use Rattle.clap.specs.Walk.{Row, Rule}
use Rattle.clap.specs.declared.error.Error.{Error}
use Rattle.clap.specs.declared.error.kind.ErrorKind.TheVariants.{OutOfMemory}
use Rattle.clap.specs.declared.parser.matches.ArgMatches.{ArgMatches}
use Rattle.command_words.specs.Seen.{entry_of, rows}
use Rattle.command_words.specs.Table.{Word, Entry, definition, found_by, found_unless, rule}
use Rattle.command_words.specs.declared.table.Entry as code

-- the command with these arguments
abbrev of_rules : Word → List Rule → App
of_rules command rules = on_top (λ shape. record shape { rules = rules; no_binary_name = true; disable_help_flag = true }) (new_app command)

pub more_rules : (command : Word) (table : List Entry) (entry : Entry) → definition command (table ++ entry ∷ []) ≡ with_rule (definition command table) (rule entry)
more_rules command table entry = ap (of_rules command) (map-append rule table (entry ∷ []))

-- the table up to one more place
pub rules_at : (command : Word) (table : List code.Entry) (i : ℕ) (d : code.Entry) → i < length table
    → definition command (map entry_of (take (i + 1) table)) ≡ with_rule (definition command (map entry_of (take i table))) (rule (entry_of (slice_index_or table i d)))
rules_at command table i d low = ap (definition command) (map_more entry_of table i d low) ∙ more_rules command (map entry_of (take i table)) (entry_of (slice_index_or table i d))

-- an error that is no want of memory has a kind that the words cause
some_kind : (kinds : Kinds) (found : List Row) (e : Error) → HasKind kinds e → (kind_of e ≡ OutOfMemory → ⊥) → None ≡ found_unless kinds found
some_kind kinds found e (inl memory) other = absurd (other memory)
some_kind [] found e (inr among) other = absurd among
some_kind (kind ∷ kinds) found e (inr among) other = refl

-- the words that `clap` refuses give nothing
pub none_found : (app given : App) (words : List Word) (e : Error) (found : Option ArgMatches) → app ≡ given → is_simple_and_free given ≡ true
    → (is_simple_and_free app ≡ true → HasKind (fault_of app words) e) → (found ≡ None) × (kind_of e ≡ OutOfMemory → ⊥) → option_map rows found ≡ found_by given words
none_found app given words e found same simple kinds refused =
    ap (option_map rows) refused.0 ∙ (some_kind (fault_of app words) (matches_of app words) e (kinds (ap is_simple_and_free same ∙ simple)) refused.1 ∙ ap (λ a. found_by a words) same)
