-- Which faults a call answers.
use Rattle.std.specs.Prelude.{◌≡◌, ℕ}
use Rattle.pkg_world.specs.Outside.{Rose}
use Rattle.pkg_world.specs.declared.asking.Unread.{Unread}
use Rattle.pkg_world.specs.declared.asking.Unread.TheVariants.{Failed, Memory as UnreadMemory}
use Rattle.depot_hash.specs.declared.fault.FolderFault.{FolderFault}
use Rattle.depot_hash.specs.declared.fault.FolderFault.TheVariants.{ReadFault, MissingFile, Limit, Memory}

abbrev pub MeansUnread : Unread → FolderFault → Type 0
MeansUnread (Failed path) fault = fault ≡ ReadFault path
MeansUnread UnreadMemory fault = fault ≡ Memory

-- a failed read, only where the store's count of them rose, or want of memory
abbrev pub OnlyReadFault : ℕ → ℕ → FolderFault → Type 0
OnlyReadFault before now (ReadFault path) = Rose before now
OnlyReadFault before now (MissingFile path) = ⊥
OnlyReadFault before now (Limit kind count) = ⊥
OnlyReadFault before now Memory = Unit {0}

-- where the answer is a failed read, the count rose
abbrev pub ReadFaultRose : ℕ → ℕ → FolderFault → Type 0
ReadFaultRose before now (ReadFault path) = Rose before now
ReadFaultRose before now (MissingFile path) = Unit {0}
ReadFaultRose before now (Limit kind count) = Unit {0}
ReadFaultRose before now Memory = Unit {0}
