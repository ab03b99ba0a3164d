-- Which texts are specifiers, and which parts each has (the forms are those of Pkg, Compatibility; where
-- spaces may stand is an own rule). A specifier is one or more parts joined by commas. A part is an operator
-- and one word of numbers; or a star; or numbers; or numbers, a hyphen and numbers, three words.
--     specifier_of text   the parts of a specifier, None where the text is none
use Rattle.std.specs.Prelude.{ℕ, List, [], ◌∷◌, map, Option, None, Some, if◌then◌else◌, codes, IsSome}
use Rattle.compat_spec.specs.declared.numbers.Numbers.{Numbers}
use Rattle.compat_spec.specs.declared.part.Part.{Part}
use Rattle.compat_spec.specs.declared.part.Part.TheVariants.{Caret, Tilde, Equal, AtLeast, Below, Between, Every}
use Rattle.compat_spec.specs.Pieces.{◌>>=◌, pieces, words, all_some, is_text, without_prefix, without_spaces}
use Rattle.compat_spec.specs.Numbers.{numbers_of}

-- the bytes of an operator, and the part that it makes of its numbers
pub record Operator : Type 0 where
  pub bytes : List ℕ
  pub make : Numbers → Part

abbrev pub operator : List ℕ → (Numbers → Part) → Operator
operator bytes make = record { bytes = bytes; make = make }

-- ^ ~ = >= ≥ <
abbrev pub operators : List Operator
operators =
    operator (codes "^") (λ a. Caret a) ∷ operator (codes "~") (λ a. Tilde a) ∷ operator (codes "=") (λ a. Equal a) ∷
    operator (codes ">=") (λ a. AtLeast a) ∷ operator (226 ∷ 137 ∷ 165 ∷ []) (λ a. AtLeast a) ∷ operator (codes "<") (λ a. Below a) ∷ []

-- an operator has one word of numbers behind it
abbrev pub operand : (Numbers → Part) → List (List ℕ) → Option Part
operand make (word ∷ []) = do
  numbers ← numbers_of word
  Some (make numbers)
operand make _ = None

-- a part without an operator, by its words
unfoldable pub plain : List (List ℕ) → Option Part
plain (word ∷ []) = if is_text (codes "*") word then Some Every else do
  numbers ← numbers_of word
  Some (Caret numbers)
plain (lower ∷ hyphen ∷ upper ∷ []) = if is_text (codes "-") hyphen then (do
  low ← numbers_of lower
  high ← numbers_of upper
  Some (Between low high)) else None
plain _ = None

-- a part by the first of the operators with which it begins
abbrev pub by_operators : List Operator → List ℕ → Option Part
by_operators [] text = plain (words text)
by_operators (first ∷ others) text = elim (without_prefix first.bytes text) [ Some operand_text ↦ operand first.make (words operand_text) | None ↦ by_operators others text ]

unfoldable pub part_of : List ℕ → Option Part
part_of text = by_operators operators (without_spaces text)

unfoldable pub specifier_of : List ℕ → Option (List Part)
specifier_of text = all_some (map part_of (pieces 44 text))

abbrev pub IsSpecifier : List ℕ → Type 0
IsSpecifier text = IsSome (specifier_of text)
