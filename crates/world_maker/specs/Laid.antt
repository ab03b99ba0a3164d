-- Which files a store has.
use Rattle.std.specs.Prelude.{◌≡◌, ℕ, ◌<◌, ◌≤◌, ◌⊎◌, [], ◌∷◌, true, List, length, take, Some, IsSome, Ok}
use Rattle.std.specs.List.{AllByRecursion}
use Rattle.toml.specs.Data.{Members, members_depth, members_have_valid_dates}
use Rattle.toml.specs.View.{table_view}
use Rattle.pkg_world.specs.Path.{Path}
use Rattle.pkg_world.specs.Tree.{Files, bytes, a_folder, nothing, holds, a_file, with_leaf}
use Rattle.toml_view.specs.Document.{viewed}
use Rattle.world_maker.specs.declared.files.TableFile.{TableFile}
use Rattle.world_maker.specs.World.{Tabled}

-- a file whose text reads as its table is there, and each path above it is a folder
pub record IsLaid (files : Files) (file : Tabled) : Type 0 where
  pub text : List ℕ
  pub there : holds file.path files ≡ bytes text
  pub reads : viewed text ≡ Ok file.members
  pub folders : (k : ℕ) → k < length file.path → holds (take k file.path) files ≡ a_folder

-- a path is neither a file's nor that of a folder above it
abbrev pub IsApartFrom : Path → Tabled → Type 0
IsApartFrom path file = (k : ℕ) → path ≡ take k file.path → ⊥

-- the store has these files, their folders, and nothing else below the root
pub record HasExactly (those : List Tabled) (files : Files) : Type 0 where
  pub each : AllByRecursion (IsLaid files) those
  pub nothing_else : (path : Path) → 0 < length path → AllByRecursion (IsApartFrom path) those → holds path files ≡ nothing

-- a file of the code
abbrev pub file_of : TableFile → Tabled
file_of file = record { path = file.path; members = table_view file.table }

-- neither path is the other, nor above it
abbrev pub DoPart : Path → Path → Type 0
DoPart [] q = ⊥
DoPart (a ∷ p) [] = ⊥
DoPart (a ∷ p) (b ∷ q) = (a ≡ b → ⊥) ⊎ ((a ≡ b) × DoPart p q)

abbrev pub ArePartedFrom : Tabled → List Tabled → Type 0
ArePartedFrom file files = AllByRecursion (λ other. DoPart file.path other.path) files

-- none is the root, nor another one's path, nor above it
abbrev pub AreParted : List Tabled → Type 0
AreParted [] = Unit {0}
AreParted (file ∷ files) = (0 < length file.path) × ArePartedFrom file files × AreParted files

-- a table that nests three deep at most, without a date
pub record IsPlain (members : Members) : Type 0 where
  pub flat : members_depth members ≤ 3
  pub dated : members_have_valid_dates members ≡ true

abbrev pub ArePlain : List Tabled → Type 0
ArePlain files = AllByRecursion (λ file. IsPlain file.members) files

-- a file of any bytes can be put there
abbrev pub IsFree : Path → Files → Type 0
IsFree path files = (text : List ℕ) → IsSome (with_leaf (a_file text) path files)

-- a file with that table was put there
pub record Lays (file : Tabled) (old new : Files) : Type 0 where
  pub text : List ℕ
  pub put_there : with_leaf (a_file text) file.path old ≡ Some new
  pub reads : viewed text ≡ Ok file.members
