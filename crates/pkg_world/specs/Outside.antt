-- What the answers of a store and of a sink say. A store may not tell its files, a sink not its text: then they say nothing of them.
use Rattle.std.specs.Prelude.{◌≡◌, ℕ, ◌+◌, ◌-◌, ◌^◌, ◌≤◌, min, List, ◌++◌, take, Option, Some, None, option_map}
use Rattle.std.specs.List.Sorted.{IsStrictlySortedBy}
use Rattle.std.specs.Ordering.{nat_cmp}
use Rattle.std.specs.Cmp.Lexicographic.{slice_cmp}
use Rattle.pkg_world.specs.declared.store.ReadAnswer.{ReadAnswer}
use Rattle.pkg_world.specs.declared.store.ReadAnswer.TheVariants.{Bytes as ReadBytes, Missing as ReadMissing, Folder as ReadFolder, Failed as ReadFailed, Memory as ReadMemory}
use Rattle.pkg_world.specs.declared.store.KindAnswer.{KindAnswer}
use Rattle.pkg_world.specs.declared.store.KindAnswer.TheVariants.{File as KindFile, Folder as KindFolder, Missing as KindMissing, Failed as KindFailed, Memory as KindMemory}
use Rattle.pkg_world.specs.declared.store.ListAnswer.{ListAnswer}
use Rattle.pkg_world.specs.declared.store.ListAnswer.TheVariants.{Names as ListNames, Missing as ListMissing, File as ListFile, Failed as ListFailed, Memory as ListMemory}
use Rattle.pkg_world.specs.declared.store.WriteAnswer.{WriteAnswer}
use Rattle.pkg_world.specs.declared.store.WriteAnswer.TheVariants.{Done as WriteDone, Blocked as WriteBlocked, Failed as WriteFailed, Memory as WriteMemory}
use Rattle.pkg_world.specs.declared.sink.PutAnswer.{PutAnswer}
use Rattle.pkg_world.specs.declared.sink.PutAnswer.TheVariants.{Done as PutDone, Failed as PutFailed, Memory as PutMemory}
use Rattle.pkg_world.specs.declared.asking.Unread.{Unread}
use Rattle.pkg_world.specs.declared.asking.Unread.TheVariants.{Failed as UnreadFailed, Memory as UnreadMemory}
use Rattle.pkg_world.specs.Listing.{Listing}
use Rattle.pkg_world.specs.Path.{Path}
use Rattle.pkg_world.specs.Tree.{Node, file, folder, Files, names, Content, bytes, a_folder, nothing, a_file, with_leaf}

-- a count rose: it is greater than before, or stands at its type's end
abbrev pub Rose : ℕ → ℕ → Type 0
Rose before now = min (before + 1) (2 ^ 64 - 1) ≤ now

abbrev pub ReadGives : Content → ReadAnswer → Type 0
ReadGives there (ReadBytes found) = there ≡ bytes found.items
ReadGives there ReadMissing = there ≡ nothing
ReadGives there ReadFolder = there ≡ a_folder
ReadGives there ReadFailed = Unit {0}
ReadGives there ReadMemory = Unit {0}

-- where a read failed, the count rose
abbrev pub ReadFaultRose : ReadAnswer → ℕ → ℕ → Type 0
ReadFaultRose ReadFailed before now = Rose before now
ReadFaultRose _ before now = Unit {0}

abbrev pub KindGives : Content → KindAnswer → Type 0
KindGives there KindFile = (b : List ℕ) × (there ≡ bytes b)
KindGives there KindFolder = there ≡ a_folder
KindGives there KindMissing = there ≡ nothing
KindGives there KindFailed = Unit {0}
KindGives there KindMemory = Unit {0}

abbrev pub KindFaultRose : KindAnswer → ℕ → ℕ → Type 0
KindFaultRose KindFailed before now = Rose before now
KindFaultRose _ before now = Unit {0}

-- what a listing gives: the names of a folder, in the order of their bytes
pub data Listed : Type 0 where
  the_names : List (List ℕ) → Listed
  no_folder : Listed
  not_there : Listed

abbrev pub listing : Option Node → Listed
listing None = not_there
listing (Some (file b)) = no_folder
listing (Some (folder files)) = the_names (names files)

abbrev pub ListGives : Option Node → ListAnswer → Type 0
ListGives there (ListNames found) = (listing there ≡ the_names found.items) × IsStrictlySortedBy (slice_cmp nat_cmp) found.items
ListGives there ListMissing = listing there ≡ not_there
ListGives there ListFile = listing there ≡ no_folder
ListGives there ListFailed = Unit {0}
ListGives there ListMemory = Unit {0}

abbrev pub ListFaultRose : ListAnswer → ℕ → ℕ → Type 0
ListFaultRose ListFailed before now = Rose before now
ListFaultRose _ before now = Unit {0}

-- the files after a file's bytes were written; None where the path is blocked
abbrev pub written : Path → List ℕ → Option Files → Option (Option Files)
written path b None = Some None
written path b (Some files) = option_map Some (with_leaf (a_file b) path files)

-- Done sets the path; every other answer leaves all files; Blocked comes only where the told files block the path
abbrev pub ReplaceGives : Path → List ℕ → Option Files → Option Files → WriteAnswer → Type 0
ReplaceGives path b old new WriteDone = written path b old ≡ Some new
ReplaceGives path b old new WriteBlocked = (written path b old ≡ None) × (new ≡ old)
ReplaceGives path b old new WriteFailed = new ≡ old
ReplaceGives path b old new WriteMemory = new ≡ old

abbrev pub WriteFaultRose : WriteAnswer → ℕ → ℕ → Type 0
WriteFaultRose WriteFailed before now = Rose before now
WriteFaultRose _ before now = Unit {0}

-- Done appends the piece, Failed a prefix of it, Memory nothing
abbrev pub PutGives : List ℕ → Option (List ℕ) → Option (List ℕ) → PutAnswer → Type 0
PutGives piece old new PutDone = new ≡ option_map (λ text. text ++ piece) old
PutGives piece old new PutFailed = (kept : ℕ) × (new ≡ option_map (λ text. text ++ take kept piece) old)
PutGives piece old new PutMemory = new ≡ old

abbrev pub PutFaultRose : PutAnswer → ℕ → ℕ → Type 0
PutFaultRose PutFailed before now = Rose before now
PutFaultRose _ before now = Unit {0}

-- a store that told nothing of the asked path: it names the path, and the count rose
abbrev pub UnreadRose : Path → ℕ → ℕ → Unread → Type 0
UnreadRose asked before now (UnreadFailed path) = (path ≡ asked) × Rose before now
UnreadRose asked before now UnreadMemory = Unit {0}

-- listed names strictly rise by their bytes
abbrev pub AreInOrder : Option (Listing (List ℕ)) → Type 0
AreInOrder None = Unit {0}
AreInOrder (Some found) = IsStrictlySortedBy (slice_cmp nat_cmp) found.items
