-- What the functions of texts mean is what the grammars say.
use Rattle.std.proofs.Common.{◌≡◌, ◌↔◌, ℕ, List, Option, Some, Ok, Err, refl, sym, ◌∙◌}
use Rattle.std.specs.Prelude.{IsSome}
use Rattle.jl_versions.specs.Machine.{IsFirstBadOf}
use Rattle.jl_versions.specs.FirstBad.{Ends, value_meant, place_meant}
use Rattle.compat_spec.specs.declared.part.Part.{Part}
use Rattle.compat_spec.specs.Meant.{specifier_meant, range_meant}
use Rattle.compat_spec.specs.Ranges.{Bounds, range_of, IsRange}
use Rattle.compat_spec.specs.RangeMachine.{range_step, range_end, range_start}
use Rattle.compat_spec.specs.Specifiers.{specifier_of, IsSpecifier}
use Rattle.compat_spec.specs.SpecMachine.{specifier_step, specifier_end, specifier_start}
use Rattle.compat_spec.proofs.Machines.{no_end}
use Rattle.compat_spec.proofs.RangeReads.{range_reads, range_accepts}
use Rattle.compat_spec.proofs.SpecReads.{specifier_reads, specifier_accepts}

there : {V : Type 0} (o : Option V) (value : V) → o ≡ Some value → IsSome o
there o value e = rw e refl

some_ends : {S V : Type 0} (end : S → Option V) → Ends end (λ s. IsSome (end s))
some_ends end = record { to = λ s value e. there (end s) value e; not_at = λ s none some. no_end (end s) none some }

pub parts_are_read : (text : List ℕ) (parts : List Part) → (specifier_meant text ≡ Ok parts) ↔ (specifier_of text ≡ Some parts)
unfolding specifier_meant
parts_are_read text parts = (
  λ e. specifier_reads text ∙ (value_meant specifier_step specifier_end specifier_start text parts).0 e,
  λ e. (value_meant specifier_step specifier_end specifier_start text parts).1 (sym (specifier_reads text) ∙ e),
)

pub specifier_place_is_first_bad : (text : List ℕ) (place : ℕ) → (specifier_meant text ≡ Err place) ↔ IsFirstBadOf IsSpecifier text place
unfolding specifier_meant
specifier_place_is_first_bad text place = place_meant specifier_end (some_ends specifier_end) specifier_accepts text place

pub bounds_are_read : (text : List ℕ) (bounds : Bounds) → (range_meant text ≡ Ok bounds) ↔ (range_of text ≡ Some bounds)
unfolding range_meant
bounds_are_read text bounds = (
  λ e. range_reads text ∙ (value_meant range_step range_end range_start text bounds).0 e,
  λ e. (value_meant range_step range_end range_start text bounds).1 (sym (range_reads text) ∙ e),
)

pub range_place_is_first_bad : (text : List ℕ) (place : ℕ) → (range_meant text ≡ Err place) ↔ IsFirstBadOf IsRange text place
unfolding range_meant
range_place_is_first_bad text place = place_meant range_end (some_ends range_end) range_accepts text place
