-- What the machine of Stages gives for the bytes that are left, and small tools for its tests.
use Rattle.std.proofs.Common.{◌≡◌, ℕ, ◌⊎◌, Bool, true, false, List, [], ◌∷◌, Option, Some, None, cond, refl, ap, inl, inr}
use Rattle.std.specs.Option.{option_and_then}
use Rattle.std.proofs.lemmas.Option.{none-some}
use Rattle.jl_versions.specs.Machine.{run}
use Rattle.jl_versions.specs.Stages.{step, finish}
use Rattle.jl_versions.specs.declared.reader.Stage.{Stage}
use Rattle.jl_versions.specs.declared.version.Version.{Version}

-- the version that the machine gives for the bytes, from a stage on
abbrev pub give : Stage → List ℕ → Option Version
give stage [] = finish stage
give stage (byte ∷ bytes) = option_and_then (λ next. give next bytes) (step stage byte)

pub give_is_run : (stage : Stage) (bytes : List ℕ) → give stage bytes ≡ option_and_then finish (run step stage bytes)
give_is_run stage [] = refl
give_is_run stage (byte ∷ bytes) =
    elim (step stage byte) as (λ o. option_and_then (λ next. give next bytes) o ≡ option_and_then finish (option_and_then (λ next. run step next bytes) o)) [
      | None ↦ refl
      | Some next ↦ give_is_run next bytes
    ]

-- a step that is known
pub give_step : (stage next : Stage) (byte : ℕ) (bytes : List ℕ) → step stage byte ≡ Some next → give stage (byte ∷ bytes) ≡ give next bytes
give_step stage next byte bytes e = ap (option_and_then (λ s. give s bytes)) e

-- which way a test went
pub chosen : {A : Type 0} (b : Bool) (x y z : A) → cond b x y ≡ z → ((b ≡ true) × (x ≡ z)) ⊎ ((b ≡ false) × (y ≡ z))
chosen true x y z e = inl (refl, e)
chosen false x y z e = inr (refl, e)

-- what a chain that gives something went through
pub went : {A B : Type 0} (f : A → Option B) (o : Option A) (y : B) → option_and_then f o ≡ Some y → (x : A) × (o ≡ Some x) × (f x ≡ Some y)
went f None y e = absurd (none-some y e)
went f (Some x) y e = (x, refl, e)
