-- The steps of reading one part of a specifier, byte by byte.
use Rattle.std.specs.Prelude.{ℕ, Option, None, Some, ◌==◌, if◌then◌else◌}
use Rattle.compat_spec.specs.declared.numbers.Numbers.{Numbers}
use Rattle.compat_spec.specs.declared.numbers.Begun.TheVariants.{Nothing}
use Rattle.compat_spec.specs.declared.numbers.Reading.{Reading}
use Rattle.compat_spec.specs.declared.numbers.Reading.TheVariants.{Awaiting}
use Rattle.compat_spec.specs.declared.part.Part.{Part}
use Rattle.compat_spec.specs.declared.part.Part.TheVariants as parts
use Rattle.compat_spec.specs.declared.part.Lead.{Lead}
use Rattle.compat_spec.specs.declared.part.Lead.TheVariants as leads
use Rattle.compat_spec.specs.declared.part.Stage.{Stage}
use Rattle.compat_spec.specs.declared.part.Stage.TheVariants.{Before, Greater, Wide, Wider, Signed, Within, Spaced, Hyphen, Done}
use Rattle.compat_spec.specs.Pieces.{◌>>=◌}
use Rattle.compat_spec.specs.NumberMachine.{numbers_step, numbers_end}

abbrev pub made_by : Lead → Numbers → Part
made_by leads.Bare numbers = parts.Caret numbers
made_by leads.Caret numbers = parts.Caret numbers
made_by leads.Tilde numbers = parts.Tilde numbers
made_by leads.Equal numbers = parts.Equal numbers
made_by leads.AtLeast numbers = parts.AtLeast numbers
made_by leads.Below numbers = parts.Below numbers
made_by (leads.Upper low) numbers = parts.Between low numbers

-- behind numbers without an operator a hyphen may follow
abbrev pub stage_after : Lead → Numbers → Stage
stage_after leads.Bare numbers = Spaced numbers
stage_after leads.Caret numbers = Done (parts.Caret numbers)
stage_after leads.Tilde numbers = Done (parts.Tilde numbers)
stage_after leads.Equal numbers = Done (parts.Equal numbers)
stage_after leads.AtLeast numbers = Done (parts.AtLeast numbers)
stage_after leads.Below numbers = Done (parts.Below numbers)
stage_after (leads.Upper low) numbers = Done (parts.Between low numbers)

abbrev pub awaiting : Reading
awaiting = Awaiting Nothing

abbrev pub within_step : Lead → Reading → ℕ → Option Stage
within_step lead reading byte = numbers_step reading byte >>= λ after. Some (Within lead after)

abbrev pub operand_step : Lead → ℕ → Option Stage
operand_step lead byte = if byte == 118 then Some (Within lead awaiting) else within_step lead awaiting byte

abbrev pub first_step : ℕ → Option Stage
first_step byte =
    if byte == 94 then Some (Signed leads.Caret) else
    if byte == 126 then Some (Signed leads.Tilde) else
    if byte == 61 then Some (Signed leads.Equal) else
    if byte == 62 then Some Greater else
    if byte == 226 then Some Wide else
    if byte == 60 then Some (Signed leads.Below) else
    if byte == 42 then Some (Done parts.Every) else
    operand_step leads.Bare byte

abbrev pub space_step : Stage → Option Stage
space_step Before = Some Before
space_step Greater = None
space_step Wide = None
space_step Wider = None
space_step (Signed lead) = Some (Signed lead)
space_step (Within lead reading) = numbers_end reading >>= λ numbers. Some (stage_after lead numbers)
space_step (Spaced numbers) = Some (Spaced numbers)
space_step (Hyphen low) = Some (Signed (leads.Upper low))
space_step (Done part) = Some (Done part)

-- a byte that is no space
abbrev pub byte_step : Stage → ℕ → Option Stage
byte_step Before byte = first_step byte
byte_step Greater byte = if byte == 61 then Some (Signed leads.AtLeast) else None
byte_step Wide byte = if byte == 137 then Some Wider else None
byte_step Wider byte = if byte == 165 then Some (Signed leads.AtLeast) else None
byte_step (Signed lead) byte = operand_step lead byte
byte_step (Within lead reading) byte = within_step lead reading byte
byte_step (Spaced numbers) byte = if byte == 45 then Some (Hyphen numbers) else None
byte_step (Hyphen low) byte = None
byte_step (Done part) byte = None

unfoldable pub part_step : Stage → ℕ → Option Stage
part_step stage byte = if byte == 32 then space_step stage else byte_step stage byte

unfoldable pub part_end : Stage → Option Part
part_end Before = None
part_end Greater = None
part_end Wide = None
part_end Wider = None
part_end (Signed lead) = None
part_end (Within lead reading) = numbers_end reading >>= λ numbers. Some (made_by lead numbers)
part_end (Spaced numbers) = Some (parts.Caret numbers)
part_end (Hyphen low) = None
part_end (Done part) = Some part
