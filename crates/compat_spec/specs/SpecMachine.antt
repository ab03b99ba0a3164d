-- The steps of reading a whole specifier, byte by byte.
use Rattle.std.specs.Prelude.{◌≡◌, ℕ, List, [], ◌∷◌, ◌++◌, Option, None, Some, ◌==◌, if◌then◌else◌}
use Rattle.compat_spec.specs.declared.part.Part.{Part}
use Rattle.compat_spec.specs.declared.part.Stage.{Stage}
use Rattle.compat_spec.specs.declared.part.Stage.TheVariants.{Before}
use Rattle.compat_spec.specs.Pieces.{◌>>=◌}
use Rattle.compat_spec.specs.PartMachine.{part_step, part_end}

-- the parts that have ended, and the stage of the one that is being read
pub record Progress : Type 0 where
  pub parts : List Part
  pub stage : Stage

abbrev pub progress : List Part → Stage → Progress
progress parts stage = record { parts = parts; stage = stage }

-- a comma ends a part
unfoldable pub specifier_step : Progress → ℕ → Option Progress
specifier_step now byte =
    if byte == 44 then (part_end now.stage >>= λ part. Some (progress (now.parts ++ part ∷ []) Before))
    else (part_step now.stage byte >>= λ stage. Some (progress now.parts stage))

abbrev pub specifier_end : Progress → Option (List Part)
specifier_end now = part_end now.stage >>= λ part. Some (now.parts ++ part ∷ [])

abbrev pub specifier_start : Progress
specifier_start = progress [] Before

-- what one byte makes of the parts and the stage
abbrev pub Stands : List Part → Stage → ℕ → List Part → Option Stage → Type 0
Stands parts stage byte new None = specifier_step (progress parts stage) byte ≡ None
Stands parts stage byte new (Some after) = specifier_step (progress parts stage) byte ≡ Some (progress new after)
