-- What the steps of hashing a folder cite.
use Rattle.std.specs.Prelude.{◌≡◌, ℕ, ◌==◌, Bool, not, List, [], ◌∷◌, ◌++◌, Option, Some, None, Result, Ok, Err, MatchResult, String}
use Rattle.std.specs.List.{list_all}
use Rattle.std.specs.BTreeSet.{BTreeSet, contains_text}
use Rattle.std.specs.declared.alloc.Global.{Global}
use Rattle.pkg_world.specs.Path.{Path, path_text}
use Rattle.pkg_world.specs.Tree.{Node, Files, at}
use Rattle.pkg_world.specs.declared.cause.LimitKind.{LimitKind}
use Rattle.depot_hash.specs.Folders.{Met, entries_of, met_at, folder_entry, within, first_past}
use Rattle.depot_hash.specs.Trees.{tree_id}
use Rattle.depot_hash.specs.declared.entries.TreeEntry.{TreeEntry}
use Rattle.depot_hash.specs.declared.folders.Found.{Found}
use Rattle.depot_hash.specs.declared.fault.FolderFault.{FolderFault}
use Rattle.depot_hash.specs.declared.fault.FolderFault.TheVariants.{ReadFault, MissingFile, Limit, Memory}

abbrev pub holds_no_slash : List ℕ → Bool
holds_no_slash = list_all (λ b. not (b == 47))

-- the paths that can be run, as the code looks them up
abbrev pub can_run : BTreeSet (String Global) → Path → Bool
can_run execs path = contains_text execs (path_text path)

-- what a name in a folder adds to the entries
abbrev pub added_at : (Path → Bool) → Path → List ℕ → Option Node → List TreeEntry
added_at runs path name None = []
added_at runs path name (Some node) = entries_of runs path name node

abbrev pub added_by : (Path → Bool) → Files → Path → List ℕ → List TreeEntry
added_by runs all folder name = added_at runs (folder ++ name ∷ []) name (at (folder ++ name ∷ []) all)

-- and to what is met
abbrev pub seen_at : ℕ → List ℕ → Option Node → List Met
seen_at depth name None = []
seen_at depth name (Some node) = met_at depth name node

abbrev pub seen_by : ℕ → Files → Path → List ℕ → List Met
seen_by depth all folder name = seen_at depth name (at (folder ++ name ∷ []) all)

-- a limit that is passed; a failed read and want of memory tell nothing
abbrev pub RefusesWalk : Result ℕ LimitKind → FolderFault → Type 0
RefusesWalk count (ReadFault path) = Unit {0}
RefusesWalk count (MissingFile path) = ⊥
RefusesWalk count (Limit kind number) = (count ≡ Err kind) × (number ≡ first_past kind)
RefusesWalk count Memory = Unit {0}

-- the entries and the count of files, or the limit that is passed
abbrev pub Walks : Result ℕ LimitKind → List TreeEntry → Result Found FolderFault → Type 0
Walks count entries answer = MatchResult answer (λ found. (count ≡ Ok found.files) × (found.entries.items ≡ entries)) (RefusesWalk count)

-- the same behind what was found
abbrev pub Adds : Result ℕ LimitKind → List TreeEntry → Found → Found → Result (Unit {0}) FolderFault → Type 0
Adds count entries old new answer = MatchResult answer (λ _. (count ≡ Ok new.files) × (new.entries.items ≡ old.entries.items ++ entries)) (RefusesWalk count)

abbrev pub Hashes : Result ℕ LimitKind → List TreeEntry → Result (List ℕ) FolderFault → Type 0
Hashes count entries answer = MatchResult answer (λ id. within (tree_id entries) count ≡ Ok id) (RefusesWalk count)

-- only want of memory
abbrev pub IsMemory : FolderFault → Type 0
IsMemory (ReadFault path) = ⊥
IsMemory (MissingFile path) = ⊥
IsMemory (Limit kind count) = ⊥
IsMemory Memory = Unit {0}

-- a folder behind what was found, where something is in it
abbrev pub AddsFolder : List ℕ → Found → Found → Found → Result (Unit {0}) FolderFault → Type 0
AddsFolder name inner old new answer =
    MatchResult answer (λ _. (new.files ≡ inner.files) × (new.entries.items ≡ old.entries.items ++ folder_entry name inner.entries.items)) IsMemory
