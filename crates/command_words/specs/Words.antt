-- What the words of a command ask for. (own rule)
use Rattle.std.specs.Prelude.{ℕ, Bool, if◌then◌else◌, List, [], ◌∷◌, codes, Option, Some, None, option_map}
use Rattle.std.specs.Option.{option_and_then}
use Rattle.std.specs.Str.{bytes_eq}
use Rattle.clap.specs.Walk.{Row}
use Rattle.uuid.specs.declared.Uuid.{Uuid}
use Rattle.jl_versions.specs.declared.version.Version.{Version}
use Rattle.pkg_world.specs.Path.{Path, joined}
use Rattle.env_maps.specs.declared.id.Context.{Context}
use Rattle.command_words.specs.Table.{Word, Entry, one, several, option, flag, matched}
use Rattle.command_words.specs.Found.{text_in, texts_in, has_flag}
use Rattle.command_words.specs.Numbers.{budget_of, number_of, usual_budget}
use Rattle.command_words.specs.Parts.{name_of, package_of, pinned_of, context_of, file_of, each}

pub data Asked : Type 0 where
  -- `which` of a name from a context
  which : Word → Context → Asked
  -- `offers` of a name
  offers : Word → Asked
  -- `status`, of every stanza or of the dependencies alone, and with extensions or without
  status : (all extensions : Bool) → Asked
  -- `verify` of a name, with a list of paths where one is given
  verify : Word → Option Word → Asked
  -- `check`, of a certificate where one is given
  check : (proof : Option Path) → Asked
  -- `resolve` within a budget of nodes; whether it tells classes, and where a certificate goes
  resolve : (budget : ℕ) → (classes : Bool) → (proof : Option Path) → Asked
  -- `add` of names, with identifiers where they are given
  add : List (Word × Option Uuid) → (budget : ℕ) → Asked
  -- `rm` of names
  remove : List Word → (budget : ℕ) → Asked
  -- `pin` of a name, to a version where one is given
  pin : Word → Option Version → (budget : ℕ) → Asked
  free : Word → (budget : ℕ) → Asked
  -- `develop` of a folder
  develop : Path → (budget : ℕ) → Asked
  -- `make` of a made world
  make : (number budget : ℕ) → Asked
  -- words that break the rules, with the command word that is told
  refused_words : Word → Asked

-- the words that each command takes behind its own
abbrev pub table : Word → Option (List Entry)
table command =
    if bytes_eq command (codes "which") then Some (one (codes "NAME") ∷ option (codes "from") ∷ option (codes "ext") ∷ [])
    else if bytes_eq command (codes "offers") then Some (one (codes "NAME") ∷ [])
    else if bytes_eq command (codes "resolve") then Some (option (codes "budget") ∷ flag (codes "classes") ∷ option (codes "proof") ∷ [])
    else if bytes_eq command (codes "check") then Some (option (codes "proof") ∷ [])
    else if bytes_eq command (codes "status") then Some (flag (codes "all") ∷ flag (codes "extensions") ∷ [])
    else if bytes_eq command (codes "add") then Some (several (codes "WORD") ∷ option (codes "budget") ∷ [])
    else if bytes_eq command (codes "rm") then Some (several (codes "NAME") ∷ option (codes "budget") ∷ [])
    else if bytes_eq command (codes "pin") then Some (one (codes "WORD") ∷ option (codes "budget") ∷ [])
    else if bytes_eq command (codes "free") then Some (one (codes "WORD") ∷ option (codes "budget") ∷ [])
    else if bytes_eq command (codes "develop") then Some (one (codes "PATH") ∷ option (codes "budget") ∷ [])
    else if bytes_eq command (codes "verify") then Some (one (codes "NAME") ∷ option (codes "exec") ∷ [])
    else if bytes_eq command (codes "make") then Some (one (codes "NUMBER") ∷ option (codes "budget") ∷ [])
    else None

-- the budget that is given, else the usual one
abbrev pub budget_given : Option Word → Option ℕ
budget_given None = Some usual_budget
budget_given (Some text) = budget_of text

abbrev pub budget_in : List Row → Option ℕ
budget_in found = budget_given (text_in (codes "budget") found)

abbrev pub name_in : List Row → Option Word
name_in found = option_and_then name_of (text_in (codes "NAME") found)

abbrev pub file_in : Path → List Row → Option (Option Path)
file_in cwd found = file_of cwd (text_in (codes "proof") found)

abbrev pub which_in : List Row → Option Asked
which_in found =
    option_and_then (λ name. option_map (which name) (context_of (text_in (codes "from") found) (text_in (codes "ext") found))) (name_in found)

abbrev pub verify_in : List Row → Option Asked
verify_in found = option_map (λ name. verify name (text_in (codes "exec") found)) (name_in found)

abbrev pub resolve_in : Path → List Row → Option Asked
resolve_in cwd found =
    option_and_then (λ budget. option_map (resolve budget (has_flag (codes "classes") found)) (file_in cwd found)) (budget_in found)

-- what a command that has a project's edit or a made world resolved asks for, within a budget
abbrev pub edit_in : Path → Word → List Row → ℕ → Option Asked
edit_in cwd command found budget =
    if bytes_eq command (codes "add") then option_map (λ words. add words budget) (option_and_then (each package_of) (texts_in (codes "WORD") found))
    else if bytes_eq command (codes "rm") then option_map (λ names. remove names budget) (option_and_then (each name_of) (texts_in (codes "NAME") found))
    else if bytes_eq command (codes "pin") then option_map (λ pinned. pin pinned.0 pinned.1 budget) (option_and_then pinned_of (text_in (codes "WORD") found))
    else if bytes_eq command (codes "free") then option_map (λ name. free name budget) (option_and_then name_of (text_in (codes "WORD") found))
    else if bytes_eq command (codes "develop") then option_map (λ path. develop path budget) (option_and_then (joined cwd) (text_in (codes "PATH") found))
    else if bytes_eq command (codes "make") then option_map (λ number. make number budget) (option_and_then number_of (text_in (codes "NUMBER") found))
    else None

-- what the matches of a command's words ask for; None where a rule on a word is broken
abbrev pub meaning : Path → Word → List Row → Option Asked
meaning cwd command found =
    if bytes_eq command (codes "which") then which_in found
    else if bytes_eq command (codes "offers") then option_map offers (name_in found)
    else if bytes_eq command (codes "resolve") then resolve_in cwd found
    else if bytes_eq command (codes "check") then option_map check (file_in cwd found)
    else if bytes_eq command (codes "status") then Some (status (has_flag (codes "all") found) (has_flag (codes "extensions") found))
    else if bytes_eq command (codes "verify") then verify_in found
    else option_and_then (edit_in cwd command found) (budget_in found)

-- what the words behind a command word ask for; None where the command is unknown, `clap` refuses them or a rule is broken
unfoldable pub words_meant : Path → Word → List Word → Option Asked
words_meant cwd command rest =
    option_and_then (λ entries. option_and_then (meaning cwd command) (matched command entries rest)) (table command)

abbrev pub or_refused : Word → Option Asked → Asked
or_refused command (Some asked) = asked
or_refused command None = refused_words command

-- what words ask for at a folder
abbrev pub asked : Path → List Word → Asked
asked cwd [] = refused_words (codes "-")
asked cwd (command ∷ rest) = or_refused command (words_meant cwd command rest)
