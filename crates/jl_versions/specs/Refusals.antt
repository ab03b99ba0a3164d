-- What a refusal of `read` says of the text.
use Rattle.std.specs.Prelude.{ℕ, List}
use Rattle.jl_versions.specs.Machine.{IsFirstBadOf}
use Rattle.jl_versions.specs.Grammar.{IsVersionText}
use Rattle.jl_versions.specs.declared.fault.VersionFault.{VersionFault}
use Rattle.jl_versions.specs.declared.fault.VersionFault.TheVariants.{BadVersion, Memory}

-- BadVersion: the text is no version text, and the place is where its longest good front ends. Memory says nothing of it.
abbrev pub Refuses : List ℕ → VersionFault → Type 0
Refuses text (BadVersion place) = IsFirstBadOf IsVersionText text place
Refuses text Memory = Unit {0}
