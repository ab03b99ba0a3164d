-- The files that a tree in memory stands for.
use Rattle.std.specs.Prelude.{◌≡◌, ℕ, List, [], ◌∷◌, map, Option, Some, None, option_map, String, string_bytes}
use Rattle.std.specs.BTreeMap.{BTreeMap}
use Rattle.std.specs.declared.alloc.Global.{Global}
use Rattle.pkg_world.specs.declared.tree.Node.{Node as Kept, fold-Node}
use Rattle.pkg_world.specs.declared.tree.Node.TheOpen.{Node-F}
use Rattle.pkg_world.specs.declared.tree.Leaf.{Leaf as KeptLeaf}
use Rattle.pkg_world.specs.declared.tree.Leaf.TheVariants.{File as FileLeaf, Folder as FolderLeaf}
use Rattle.pkg_world.specs.declared.tree.Found.{Found}
use Rattle.pkg_world.specs.declared.tree.Found.TheVariants.{File as FoundFile, Folder as FoundFolder, Missing as FoundMissing}
use Rattle.pkg_world.specs.declared.tree.Placed.{Placed}
use Rattle.pkg_world.specs.declared.tree.Placed.TheVariants.{Done, Blocked, Memory}
use Rattle.pkg_world.specs.Path.{Path}
use Rattle.pkg_world.specs.Tree.{Node, file, folder, Files, no_files, entry, find, insert, Leaf, a_file, some_folder, placed}

abbrev pub files_of : List (String Global × Node) → Files
files_of [] = no_files
files_of (m ∷ ms) = entry (string_bytes m.0) m.1 (files_of ms)

-- one level, with each node inside already seen
abbrev pub node_step : Node-F Node → Node
node_step (Node-F.File v) = file v.items
node_step (Node-F.Folder m) = folder (files_of m.entries)

abbrev pub node_view : Kept → Node
node_view = fold-Node Node node_step

abbrev pub entries_view : List (String Global × Kept) → Files
entries_view ms = files_of (map (λ m. (m.0, node_view m.1)) ms)

-- the files of a folder in memory
abbrev pub files_view : BTreeMap (String Global) Kept → Files
files_view m = entries_view m.entries

abbrev pub leaf_view : KeptLeaf → Leaf
leaf_view (FileLeaf v) = a_file v.items
leaf_view FolderLeaf = some_folder

-- what a look-up found
abbrev pub FoundGives : Option Node → Found → Type 0
FoundGives there (FoundFile b) = there ≡ Some (file b.now.items)
FoundGives there (FoundFolder m) = there ≡ Some (folder (files_view m.now))
FoundGives there FoundMissing = there ≡ None

-- what stands in place of a node, by what is to stand there: every answer but Done leaves it
abbrev pub PlacedGives : {T : Type 0} → Option T → T → T → Placed → Type 0
PlacedGives wanted old new Done = wanted ≡ Some new
PlacedGives wanted old new Blocked = (wanted ≡ None) × (new ≡ old)
PlacedGives wanted old new Memory = new ≡ old

-- a folder with a leaf at a path below a name in it
abbrev pub entered : Leaf → List ℕ → Path → Files → Option Files
entered leaf name path files = option_map (λ node. insert name node files) (placed leaf path (find name files))

-- a folder with a new name, and a leaf at a path below it
abbrev pub added : Leaf → List ℕ → Path → Files → Option Files
added leaf name path files = option_map (λ node. insert name node files) (placed leaf path None)
