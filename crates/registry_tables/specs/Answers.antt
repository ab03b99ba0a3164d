-- Why a registry's file can't be used, and what the answers of the crate's calls tell of the files.
use Rattle.std.specs.Prelude.{◌≡◌, ℕ, List, Option, Some, None, String, Result, Ok, Err, MatchResult}
use Rattle.std.specs.BTreeMap.{BTreeMap}
use Rattle.std.specs.declared.alloc.Global.{Global}
use Rattle.toml.specs.Data.{Members}
use Rattle.toml.specs.View.{table_view}
use Rattle.toml.specs.declared.value.Value.{Value}
use Rattle.toml_view.specs.Document.{viewed}
use Rattle.toml_view.specs.Causes.{of_view}
use Rattle.toml_view.specs.declared.halt.Halt.{Halt}
use Rattle.toml_view.specs.declared.halt.Halt.TheVariants.{Refused}
use Rattle.pkg_world.specs.Outside.{Rose}
use Rattle.pkg_world.specs.Path.{Path}
use Rattle.pkg_world.specs.Tree.{Files, holds, file_bytes}
use Rattle.pkg_world.specs.declared.asking.Unread.{Unread}
use Rattle.pkg_world.specs.declared.asking.Unread.TheVariants.{Failed, Memory as UnreadMemory}
use Rattle.pkg_world.specs.declared.cause.Cause.{Cause}
use Rattle.registry_tables.specs.declared.fault.RegFault.{RegFault}
use Rattle.registry_tables.specs.declared.fault.RegFault.TheVariants.{ReadFault, MissingFile, BadFile, Memory}

-- a file that isn't there, or a file whose bytes are refused
pub data Unusable : Type 0 where
  missing : Path → Unusable
  bad : Path → Cause → Unusable

-- what files give, or the first of them that is missing or refused
abbrev pub Read : Type 0 → Type 0
Read T = Result T Unusable

-- one file and then the next: the first that is missing or refused counts
abbrev pub then_read : {S T : Type 0} → (S → Read T) → Read S → Read T
then_read next (Ok value) = next value
then_read next (Err unusable) = Err unusable

-- what a file's bytes give
abbrev pub at_file : {T : Type 0} → Path → Result T Cause → Read T
at_file file (Ok value) = Ok value
at_file file (Err cause) = Err (bad file cause)

-- the members of the bytes' table
abbrev pub members_of : List ℕ → Result Members Cause
members_of bytes = of_view (λ members. Ok members) (viewed bytes)

abbrev pub some_of : Read Members → Read (Option Members)
some_of (Ok members) = Ok (Some members)
some_of (Err unusable) = Err unusable

abbrev pub optional_of : Path → Option (List ℕ) → Read (Option Members)
optional_of file None = Ok None
optional_of file (Some bytes) = some_of (at_file file (members_of bytes))

-- the table of a file that may be absent; a folder in its place counts as absent
abbrev pub optional_table : Files → Path → Read (Option Members)
optional_table files file = optional_of file (file_bytes (holds file files))

abbrev pub needed_of : Path → Option Members → Read Members
needed_of file None = Err (missing file)
needed_of file (Some members) = Ok members

-- the table of a file that has to be there
abbrev pub needed_table : Files → Path → Read Members
needed_table files file = then_read (needed_of file) (optional_table files file)

-- the file that is missing or refused and why; a failed read and want of memory tell nothing of the files
abbrev pub Refuses : {T : Type 0} → Read T → RegFault → Type 0
Refuses reading (ReadFault path) = Unit {0}
Refuses reading (MissingFile path) = reading ≡ Err (missing path)
Refuses reading (BadFile path cause) = reading ≡ Err (bad path cause)
Refuses reading Memory = Unit {0}

abbrev pub Loads : {T : Type 0} → Read T → Result T RegFault → Type 0
Loads reading answer = MatchResult answer (λ value. reading ≡ Ok value) (Refuses reading)

-- the table of a file, as its members
abbrev pub LoadsTable : Read Members → Result (BTreeMap (String Global) Value) RegFault → Type 0
LoadsTable reading answer = MatchResult answer (λ table. reading ≡ Ok (table_view table)) (Refuses reading)

abbrev pub seen_table : Option (BTreeMap (String Global) Value) → Option Members
seen_table None = None
seen_table (Some table) = Some (table_view table)

abbrev pub LoadsOption : Read (Option Members) → Result (Option (BTreeMap (String Global) Value)) RegFault → Type 0
LoadsOption reading answer = MatchResult answer (λ table. reading ≡ Ok (seen_table table)) (Refuses reading)

-- the refusal of a file whose bytes' reading halted; copying the path may want memory
abbrev pub IsRefusedAt : Path → Halt → RegFault → Type 0
IsRefusedAt file halt (ReadFault path) = ⊥
IsRefusedAt file halt (MissingFile path) = ⊥
IsRefusedAt file halt (BadFile path cause) = (path ≡ file) × (halt ≡ Refused cause)
IsRefusedAt file halt Memory = Unit {0}

-- what a store tells nothing of, as a fault
abbrev pub unread_fault : Unread → RegFault
unread_fault (Failed path) = ReadFault path
unread_fault UnreadMemory = Memory

-- a failed read, only where the store's count of them rose
abbrev pub OnlyReadFault : ℕ → ℕ → RegFault → Type 0
OnlyReadFault before now (ReadFault path) = Rose before now
OnlyReadFault before now (MissingFile path) = ⊥
OnlyReadFault before now (BadFile path cause) = ⊥
OnlyReadFault before now Memory = Unit {0}

-- where the answer is a failed read, the count rose
abbrev pub ReadFaultRose : ℕ → ℕ → RegFault → Type 0
ReadFaultRose before now (ReadFault path) = Rose before now
ReadFaultRose before now (MissingFile path) = Unit {0}
ReadFaultRose before now (BadFile path cause) = Unit {0}
ReadFaultRose before now Memory = Unit {0}

-- no failed read
abbrev pub NoReadFault : RegFault → Type 0
NoReadFault (ReadFault path) = ⊥
NoReadFault (MissingFile path) = Unit {0}
NoReadFault (BadFile path cause) = Unit {0}
NoReadFault Memory = Unit {0}
