-- Which faults a call answers.
use Rattle.std.specs.Prelude.{ℕ}
use Rattle.project_places.specs.declared.fault.EnvFault.{EnvFault}
use Rattle.project_places.specs.declared.fault.EnvFault.TheVariants.{ReadFault, BadFile, Memory}
use Rattle.pkg_world.specs.Outside.{Rose}

-- a failed read, only where the store's count of them rose
abbrev pub OnlyReadFault : ℕ → ℕ → EnvFault → Type 0
OnlyReadFault before now (ReadFault path) = Rose before now
OnlyReadFault before now (BadFile path cause) = ⊥
OnlyReadFault before now Memory = Unit {0}

-- where the answer is a failed read, the count rose
abbrev pub ReadFaultRose : ℕ → ℕ → EnvFault → Type 0
ReadFaultRose before now (ReadFault path) = Rose before now
ReadFaultRose before now (BadFile path cause) = Unit {0}
ReadFaultRose before now Memory = Unit {0}

-- no failed read
abbrev pub NoReadFault : EnvFault → Type 0
NoReadFault (ReadFault path) = ⊥
NoReadFault (BadFile path cause) = Unit {0}
NoReadFault Memory = Unit {0}
