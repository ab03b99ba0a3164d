-- The files of a store: a tree of folders and files, so that each parent of what is there is a folder.
-- The tree is the finite map `holds` from paths to files and folders.
use Rattle.std.specs.Prelude.{ℕ, Bool, true, false, List, [], ◌∷◌, Option, Some, None, option_map}
use Rattle.std.specs.Option.{option_and_then}
use Rattle.std.specs.Ordering.{nat_cmp, match_ordering}
use Rattle.std.specs.Cmp.Lexicographic.{slice_cmp}
use Rattle.pkg_world.specs.Path.{Path}

mutual
  -- a file with its bytes, or a folder
  pub data Node : Type 0 where
    file : List ℕ → Node
    folder : Files → Node

  -- what a folder holds under each name, by name bytes; the root folder is all files of a store
  pub data Files : Type 0 where
    no_files : Files
    entry : List ℕ → Node → Files → Files

-- what a folder holds under a name
abbrev pub find : List ℕ → Files → Option Node
find name no_files = None
find name (entry other node more) = match_ordering (slice_cmp nat_cmp name other) (find name more) (Some node) (find name more)

-- the names in a folder
abbrev pub names : Files → List (List ℕ)
names no_files = []
names (entry name node more) = name ∷ names more

-- a folder's files
abbrev pub files_in : Node → Option Files
files_in (file bytes) = None
files_in (folder files) = Some files

-- what stands at a path below a node, the node itself at the empty path
abbrev pub below : Path → Node → Option Node
below [] node = Some node
below (name ∷ path) node = option_and_then (below path) (option_and_then (find name) (files_in node))

-- what stands at a path
abbrev pub at : Path → Files → Option Node
at path files = below path (folder files)

-- what a path holds, as a store tells it: a file's bytes, a folder, or nothing
pub data Content : Type 0 where
  bytes : List ℕ → Content
  a_folder : Content
  nothing : Content

abbrev pub content_of : Option Node → Content
content_of None = nothing
content_of (Some (file b)) = bytes b
content_of (Some (folder files)) = a_folder

abbrev pub holds : Path → Files → Content
holds path files = content_of (at path files)

-- whether a path is a file
abbrev pub is_file : Content → Bool
is_file (bytes b) = true
is_file a_folder = false
is_file nothing = false

abbrev pub is_folder : Content → Bool
is_folder (bytes b) = false
is_folder a_folder = true
is_folder nothing = false

-- the names in a folder, where one is there
abbrev pub names_at : Option Node → Option (List (List ℕ))
names_at there = option_map names (option_and_then files_in there)

-- the bytes where a file is; a folder in a file's place counts as missing
abbrev pub file_bytes : Content → Option (List ℕ)
file_bytes (bytes b) = Some b
file_bytes a_folder = None
file_bytes nothing = None

-- a folder with another node under a name, at its place in the order of names
abbrev pub insert : List ℕ → Node → Files → Files
insert name node no_files = entry name node no_files
insert name node (entry other old more) =
    match_ordering (slice_cmp nat_cmp name other) (entry name node (entry other old more)) (entry other node more) (entry other old (insert name node more))

-- what is to stand at a path: a file of these bytes in place of any other file, or a folder, which may be there
pub data Leaf : Type 0 where
  a_file : List ℕ → Leaf
  some_folder : Leaf

abbrev pub settled : Leaf → Option Node → Option Node
settled (a_file b) None = Some (file b)
settled (a_file b) (Some (file old)) = Some (file b)
settled (a_file b) (Some (folder files)) = None
settled some_folder None = Some (folder no_files)
settled some_folder (Some (file old)) = None
settled some_folder (Some (folder files)) = Some (folder files)

-- the files of a folder that may still be missing
abbrev pub opened : Option Node → Option Files
opened None = Some no_files
opened (Some node) = files_in node

-- A node with a leaf at a path below, parents added; None where a file stands in the way, or a leaf of the other kind
abbrev pub placed : Leaf → Path → Option Node → Option Node
placed leaf [] slot = settled leaf slot
placed leaf (name ∷ path) slot =
    option_and_then (λ files. option_map (λ node. folder (insert name node files)) (placed leaf path (find name files))) (opened slot)

-- all files with a leaf at a path; None where the path is blocked
abbrev pub with_leaf : Leaf → Path → Files → Option Files
with_leaf leaf path files = option_and_then files_in (placed leaf path (Some (folder files)))
