-- The steps of reading numbers, byte by byte.
use Rattle.std.specs.Prelude.{ℕ, ◌+◌, ◌-◌, ◌*◌, ◌^◌, Option, None, Some, nat_lt, ◌==◌, if◌then◌else◌}
use Rattle.std.specs.Char.{is_ascii_digit}
use Rattle.compat_spec.specs.declared.numbers.Numbers.{Numbers}
use Rattle.compat_spec.specs.declared.numbers.Numbers.TheVariants.{Major, Minor, Patch}
use Rattle.compat_spec.specs.declared.numbers.Begun.{Begun}
use Rattle.compat_spec.specs.declared.numbers.Begun.TheVariants.{Nothing, AfterMajor, AfterMinor}
use Rattle.compat_spec.specs.declared.numbers.Reading.{Reading}
use Rattle.compat_spec.specs.declared.numbers.Reading.TheVariants.{Awaiting, Digits}

-- a dot ends a number, and a further one has to follow
abbrev pub dot_step : Begun → ℕ → Option Reading
dot_step Nothing value = Some (Awaiting (AfterMajor value))
dot_step (AfterMajor major) value = Some (Awaiting (AfterMinor major value))
dot_step (AfterMinor major minor) value = None

-- a digit goes on a number, where its value stays below 2^32
abbrev pub digit_step : Begun → ℕ → Option Reading
digit_step begun value = if nat_lt value (2 ^ 32) then Some (Digits begun value) else None

unfoldable pub numbers_step : Reading → ℕ → Option Reading
numbers_step (Awaiting begun) byte = if is_ascii_digit byte then Some (Digits begun (byte - 48)) else None
numbers_step (Digits begun value) byte =
    if byte == 46 then dot_step begun value else
    if is_ascii_digit byte then digit_step begun (10 * value + (byte - 48)) else None

abbrev pub numbers_end : Reading → Option Numbers
numbers_end (Awaiting begun) = None
numbers_end (Digits Nothing value) = Some (Major value)
numbers_end (Digits (AfterMajor major) value) = Some (Minor major value)
numbers_end (Digits (AfterMinor major minor) value) = Some (Patch major minor value)
