-- The tree of a folder: every file, and every folder in which, at some depth, a counted file is (Git's object format).
-- Folders named `.git` are not looked into. A name that is no plain part can't stand in a path, and is passed over.
use Rattle.std.specs.Prelude.{◌≡◌, ℕ, ◌+◌, nat_lt, Bool, not, ◌&&◌, if◌then◌else◌, List, [], ◌∷◌, ◌++◌, Option, Some, None, Result, Ok, Err, codes}
use Rattle.std.specs.List.{list_any}
use Rattle.std.specs.Str.{bytes_eq}
use Rattle.pkg_world.specs.Path.{Path, is_plain, path_text}
use Rattle.pkg_world.specs.Tree.{Node, file, folder, Files, no_files, entry, at}
use Rattle.pkg_world.specs.declared.cause.LimitKind.{LimitKind}
use Rattle.pkg_world.specs.declared.cause.LimitKind.TheVariants.{Packages, States, Bits, Cells, TreeDepth, TreeFiles}
use Rattle.depot_hash.specs.Blobs.{blob_id}
use Rattle.depot_hash.specs.Trees.{tree_id}
use Rattle.depot_hash.specs.declared.entries.TreeEntry.{TreeEntry}
use Rattle.depot_hash.specs.declared.entries.Mode.TheVariants.{File, Exec, Folder}
use Rattle.depot_hash.specs.declared.fault.FolderFault.{FolderFault}
use Rattle.depot_hash.specs.declared.fault.FolderFault.TheVariants.{ReadFault, MissingFile, Limit, Memory}

-- a folder that is looked into
abbrev pub is_open : List ℕ → Bool
is_open name = is_plain name && not (bytes_eq name (codes ".git"))

abbrev pub file_entry : List ℕ → Bool → List ℕ → TreeEntry
file_entry name can_run bytes = record { name = name; mode = if can_run then Exec else File; id = blob_id bytes }

-- a folder is an entry where something in it counts
abbrev pub folder_entry : List ℕ → List TreeEntry → List TreeEntry
folder_entry name [] = []
folder_entry name (e ∷ es) = record { name = name; mode = Folder; id = tree_id (e ∷ es) } ∷ []

unfoldable mutual
  -- the entries of the tree of a folder's files; the test says which paths can be run
  pub entries_in : (Path → Bool) → Path → Files → List TreeEntry
  entries_in can_run path no_files = []
  entries_in can_run path (entry name node more) = entries_of can_run (path ++ name ∷ []) name node ++ entries_in can_run path more

  pub entries_of : (Path → Bool) → Path → List ℕ → Node → List TreeEntry
  entries_of can_run path name (file bytes) = if is_plain name then file_entry name (can_run path) bytes ∷ [] else []
  entries_of can_run path name (folder files) = if is_open name then folder_entry name (entries_in can_run path files) else []

-- what is met in a folder, name after name: a file, or a folder at its name, with the number of folders on its path
pub data Met : Type 0 where
  a_file : Met
  a_folder : ℕ → Met

unfoldable mutual
  pub met_in : ℕ → Files → List Met
  met_in depth no_files = []
  met_in depth (entry name node more) = met_at depth name node ++ met_in depth more

  pub met_at : ℕ → List ℕ → Node → List Met
  met_at depth name (file bytes) = if is_plain name then a_file ∷ [] else []
  met_at depth name (folder files) = if is_open name then a_folder (depth + 1) ∷ met_in (depth + 1) files else []

-- the number of files once all is met, or the first limit that is passed on the way
abbrev pub passed : ℕ → List Met → Result ℕ LimitKind
passed count [] = Ok count
passed count (a_file ∷ more) = if nat_lt count 1048576 then passed (count + 1) more else Err TreeFiles
passed count (a_folder depth ∷ more) = if nat_lt 64 depth then Err TreeDepth else passed count more

-- the first number past a limit of trees
abbrev pub first_past : LimitKind → ℕ
first_past TreeDepth = 65
first_past TreeFiles = 1048577
first_past Packages = 0
first_past States = 0
first_past Bits = 0
first_past Cells = 0

-- why a folder has no id
pub data NoId : Type 0 where
  not_there : NoId
  past : LimitKind → NoId

abbrev pub within : List ℕ → Result ℕ LimitKind → Result (List ℕ) NoId
within id (Ok count) = Ok id
within id (Err kind) = Err (past kind)

abbrev pub id_at : (Path → Bool) → Path → Option Node → Result (List ℕ) NoId
id_at can_run path None = Err not_there
id_at can_run path (Some (file bytes)) = Err not_there
id_at can_run path (Some (folder files)) = within (tree_id (entries_in can_run path files)) (passed 0 (met_in 0 files))

-- a file can be run where its path is among those that are given
abbrev pub is_among : List Path → Path → Bool
is_among execs path = list_any (λ exec. bytes_eq (path_text exec) (path_text path)) execs

-- the id of the folder at a path
abbrev pub folder_id : Files → Path → List Path → Result (List ℕ) NoId
folder_id files path execs = id_at (is_among execs) path (at path files)

-- what a refusal says; a failed read and want of memory tell nothing of the files
abbrev pub RefusesFolder : Path → Result (List ℕ) NoId → FolderFault → Type 0
RefusesFolder asked meant (ReadFault path) = Unit {0}
RefusesFolder asked meant (MissingFile path) = (meant ≡ Err not_there) × (path ≡ asked)
RefusesFolder asked meant (Limit kind count) = (meant ≡ Err (past kind)) × (count ≡ first_past kind)
RefusesFolder asked meant Memory = Unit {0}
