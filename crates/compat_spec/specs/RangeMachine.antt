-- The steps of reading a range, byte by byte.
use Rattle.std.specs.Prelude.{◌≡◌, ℕ, Option, None, Some, ◌==◌, if◌then◌else◌}
use Rattle.compat_spec.specs.declared.numbers.Reading.{Reading}
use Rattle.compat_spec.specs.declared.range.Bound.{Bound}
use Rattle.compat_spec.specs.declared.range.Bound.TheVariants.{Any, Of}
use Rattle.compat_spec.specs.declared.range.Piece.{Piece}
use Rattle.compat_spec.specs.declared.range.Piece.TheVariants.{Open, Within, Closed}
use Rattle.compat_spec.specs.declared.range.Side.{Side}
use Rattle.compat_spec.specs.declared.range.Side.TheVariants.{Lower, Upper}
use Rattle.compat_spec.specs.declared.range.Stage.{Stage}
use Rattle.compat_spec.specs.Pieces.{◌>>=◌}
use Rattle.compat_spec.specs.NumberMachine.{numbers_step, numbers_end}
use Rattle.compat_spec.specs.PartMachine.{awaiting}
use Rattle.compat_spec.specs.Ranges.{Bounds, bounds}

abbrev pub within_step : Reading → ℕ → Option Piece
within_step reading byte = numbers_step reading byte >>= λ after. Some (Within after)

-- a bound's first byte that is no space
abbrev pub open_step : ℕ → Option Piece
open_step byte =
    if byte == 42 then Some (Closed Any) else
    if byte == 118 then Some (Within awaiting) else
    within_step awaiting byte

abbrev pub piece_space : Piece → Option Piece
piece_space Open = Some Open
piece_space (Within reading) = numbers_end reading >>= λ numbers. Some (Closed (Of numbers))
piece_space (Closed bound) = Some (Closed bound)

-- a byte that is no space
abbrev pub piece_byte : Piece → ℕ → Option Piece
piece_byte Open byte = open_step byte
piece_byte (Within reading) byte = within_step reading byte
piece_byte (Closed bound) byte = None

unfoldable pub piece_step : Piece → ℕ → Option Piece
piece_step piece byte = if byte == 32 then piece_space piece else piece_byte piece byte

unfoldable pub piece_end : Piece → Option Bound
piece_end Open = None
piece_end (Within reading) = numbers_end reading >>= λ numbers. Some (Of numbers)
piece_end (Closed bound) = Some bound

abbrev pub stage : Side → Piece → Stage
stage side piece = record { side = side; piece = piece }

-- a hyphen ends the lower bound
abbrev pub hyphen_step : Side → Bound → Option Stage
hyphen_step Lower bound = Some (stage (Upper bound) Open)
hyphen_step (Upper low) bound = None

unfoldable pub range_step : Stage → ℕ → Option Stage
range_step now byte =
    if byte == 45 then (piece_end now.piece >>= λ bound. hyphen_step now.side bound)
    else (piece_step now.piece byte >>= λ piece. Some (stage now.side piece))

abbrev pub closed : Side → Bound → Bounds
closed Lower bound = bounds bound bound
closed (Upper low) bound = bounds low bound

unfoldable pub range_end : Stage → Option Bounds
range_end now = piece_end now.piece >>= λ bound. Some (closed now.side bound)

abbrev pub range_start : Stage
range_start = stage Lower Open

-- two bounds as the code has them
abbrev pub MatchesBounds : Option (Bound × Bound) → Option Bounds → Type 0
MatchesBounds None found = found ≡ None
MatchesBounds (Some ends) found = found ≡ Some (bounds ends.0 ends.1)
