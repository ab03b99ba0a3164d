-- What the answers of this crate's calls tell of the files.
use Rattle.std.specs.Prelude.{◌≡◌, ℕ, Err}
use Rattle.pkg_world.specs.Outside.{Rose}
use Rattle.registry_tables.specs.Answers.{Read, missing, bad}
use Rattle.offer_catalog.specs.declared.fault.BookFault.{BookFault}
use Rattle.offer_catalog.specs.declared.fault.BookFault.TheVariants.{ReadFault, MissingFile, BadFile, UnknownPackage, Limit, Memory}

-- the file that is missing or refused and why; a failed read and want of memory tell nothing of the files
abbrev pub Refuses : {T : Type 0} → Read T → BookFault → Type 0
Refuses reading (ReadFault path) = Unit {0}
Refuses reading (MissingFile path) = reading ≡ Err (missing path)
Refuses reading (BadFile path cause) = reading ≡ Err (bad path cause)
Refuses reading (UnknownPackage uuid) = ⊥
Refuses reading (Limit kind count) = ⊥
Refuses reading Memory = Unit {0}

-- where the answer is a failed read, the count rose
abbrev pub ReadFaultRose : ℕ → ℕ → BookFault → Type 0
ReadFaultRose before now (ReadFault path) = Rose before now
ReadFaultRose before now (MissingFile path) = Unit {0}
ReadFaultRose before now (BadFile path cause) = Unit {0}
ReadFaultRose before now (UnknownPackage uuid) = Unit {0}
ReadFaultRose before now (Limit kind count) = Unit {0}
ReadFaultRose before now Memory = Unit {0}
