-- When a text is refused.
use Rattle.std.specs.Prelude.{ℕ, List}
use Rattle.compat_spec.specs.declared.fault.SpecFault.{SpecFault}
use Rattle.compat_spec.specs.declared.fault.SpecFault.TheVariants.{BadSpec, Memory}
use Rattle.jl_versions.specs.Machine.{IsFirstBadOf}

-- The text isn't one of P, and place is the length of its longest prefix that begins a text of P. Want of memory is free.
abbrev pub Refuses : (List ℕ → Type 0) → List ℕ → SpecFault → Type 0
Refuses P text (BadSpec place) = IsFirstBadOf P text place
Refuses P text Memory = Unit {0}
