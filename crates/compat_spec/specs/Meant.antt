-- What a text means as a specifier or as a range, as functions of the text: the value, or the first bad place. They are
-- what the grammars of Specifiers and Ranges say, and `IsFirstBadOf` of the place: the laws
-- `specifier_meaning_is_the_grammars` and `range_meaning_is_the_grammars`.
--     specifier_meant text   the parts of a specifier, or the length of the longest front with which one begins
--     range_meant text       the bounds of a range, or the length of the longest front with which one begins
use Rattle.std.specs.Prelude.{◌≡◌, ℕ, List, Result, Err}
use Rattle.jl_versions.specs.Machine.{meant_by}
use Rattle.compat_spec.specs.declared.part.Part.{Part}
use Rattle.compat_spec.specs.declared.fault.SpecFault.{SpecFault}
use Rattle.compat_spec.specs.declared.fault.SpecFault.TheVariants.{BadSpec, Memory}
use Rattle.compat_spec.specs.SpecMachine.{specifier_step, specifier_end, specifier_start}
use Rattle.compat_spec.specs.RangeMachine.{range_step, range_end, range_start}
use Rattle.compat_spec.specs.Ranges.{Bounds}

unfoldable pub specifier_meant : List ℕ → Result (List Part) ℕ
specifier_meant text = meant_by specifier_step specifier_end specifier_start text

unfoldable pub range_meant : List ℕ → Result Bounds ℕ
range_meant text = meant_by range_step range_end range_start text

-- a refusal that names the place; want of memory tells nothing
abbrev pub RefusesAt : {V : Type 0} → Result V ℕ → SpecFault → Type 0
RefusesAt meant (BadSpec place) = meant ≡ Err place
RefusesAt meant Memory = Unit {0}
