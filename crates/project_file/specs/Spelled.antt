-- A compatibility text with the specifier that it means (Pkg, Compatibility).
use Rattle.std.specs.Prelude.{◌≡◌, ℕ, List, None, Result, Ok, Err}
use Rattle.compat_spec.specs.declared.part.Part.{Part}
use Rattle.compat_spec.specs.Meant.{specifier_meant}
use Rattle.toml.specs.Data.{Data}
use Rattle.toml_view.specs.Reading.{text_of, chained}
use Rattle.toml_view.specs.declared.refusal.Flaw.TheVariants.{Spec}
use Rattle.toml_view.specs.declared.refusal.Refusal.{Refusal}

-- the text as it stands in the file, and the parts of its specifier
pub record Spelled : Type 0 where
  pub text : List ℕ
  pub parts : List Part

-- the parts are what the text means
abbrev pub IsSpelled : Spelled → Type 0
IsSpelled it = specifier_meant it.text ≡ Ok it.parts

abbrev pub with_meaning : List ℕ → Result (List Part) ℕ → Result Spelled Refusal
with_meaning text (Ok parts) = Ok (record { text = text; parts = parts })
with_meaning text (Err place) = Err (record { path = None; flaw = Spec place })

-- a text that is a specifier, or its first bad place
abbrev pub spelled : List ℕ → Result Spelled Refusal
spelled text = with_meaning text (specifier_meant text)

abbrev pub spec_of : Data → Result Spelled Refusal
spec_of value = chained spelled (text_of value)
