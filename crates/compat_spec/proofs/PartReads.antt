-- A part that is read byte by byte is the part of its text.
use Rattle.std.proofs.Common.{◌≡◌, ℕ, true, false, cond, eqb, List, [], ◌∷◌, Option, Some, None, refl, sym, ap, subst, ◌∙◌, inl, inr}
use Rattle.std.specs.Prelude.{codes}
use Rattle.std.proofs.lemmas.Bool.{cond-false}
use Rattle.std.proofs.lemmas.Bool.Decides.{eqb_tells}
use Rattle.std.specs.Char.{is_ascii_digit}
use Rattle.compat_spec.specs.declared.numbers.Numbers.{Numbers}
use Rattle.compat_spec.specs.declared.numbers.Reading.{Reading}
use Rattle.compat_spec.specs.declared.part.Part.{Part}
use Rattle.compat_spec.specs.declared.part.Part.TheVariants as parts
use Rattle.compat_spec.specs.declared.part.Lead.{Lead}
use Rattle.compat_spec.specs.declared.part.Lead.TheVariants as leads
use Rattle.compat_spec.specs.declared.part.Stage.{Stage}
use Rattle.compat_spec.specs.declared.part.Stage.TheVariants.{Before, Greater, Wide, Wider, Signed, Within, Spaced, Hyphen, Done}
use Rattle.compat_spec.specs.Pieces.{◌>>=◌, filled, words, is_text, without_prefix}
use Rattle.compat_spec.specs.Numbers.{numbers_of}
use Rattle.compat_spec.specs.NumberMachine.{numbers_step, numbers_end}
use Rattle.compat_spec.specs.PartMachine.{made_by, stage_after, awaiting, within_step, operand_step, byte_step, part_step, part_end}
use Rattle.compat_spec.specs.Specifiers.{Operator, operator, operators, operand, plain, by_operators, part_of}
use Rattle.compat_spec.proofs.Cuts.{before, behind, words_are, words_begin, nothing, bind_none, bind_through}
use Rattle.compat_spec.proofs.NumberReads.{numbers_from, numbers_from-end, numbers_from-step, numbers_of-v, numbers_of-plain, numbers_of-none}

-- a part after which there are no more words
unfoldable pub alone : Part → List (List ℕ) → Option Part
alone part [] = Some part
alone part (word ∷ others) = None

-- what the words behind numbers without an operator make of them
unfoldable pub bare : Numbers → List (List ℕ) → Option Part
bare low [] = Some (parts.Caret low)
bare low (hyphen ∷ upper ∷ []) = cond (is_text (codes "-") hyphen) (numbers_of upper >>= λ high. Some (parts.Between low high)) None
bare low _ = None

-- what the words behind numbers make of them
unfoldable pub behind_numbers : Lead → Numbers → List (List ℕ) → Option Part
behind_numbers leads.Bare numbers others = bare numbers others
behind_numbers leads.Caret numbers others = alone (parts.Caret numbers) others
behind_numbers leads.Tilde numbers others = alone (parts.Tilde numbers) others
behind_numbers leads.Equal numbers others = alone (parts.Equal numbers) others
behind_numbers leads.AtLeast numbers others = alone (parts.AtLeast numbers) others
behind_numbers leads.Below numbers others = alone (parts.Below numbers) others
behind_numbers (leads.Upper low) numbers others = alone (parts.Between low numbers) others

-- numbers are the first word
unfoldable pub first_word : Lead → List (List ℕ) → Option Part
first_word lead [] = None
first_word lead (word ∷ others) = numbers_of word >>= λ numbers. behind_numbers lead numbers others

-- the part of a text of which the bytes before these have been read
unfoldable pub part_from : Stage → List ℕ → Option Part
part_from Before bytes = part_of bytes
part_from Greater bytes = without_prefix (61 ∷ []) bytes >>= λ text. first_word leads.AtLeast (words text)
part_from Wide bytes = without_prefix (137 ∷ 165 ∷ []) bytes >>= λ text. first_word leads.AtLeast (words text)
part_from Wider bytes = without_prefix (165 ∷ []) bytes >>= λ text. first_word leads.AtLeast (words text)
part_from (Signed lead) bytes = first_word lead (words bytes)
part_from (Within lead reading) bytes = numbers_from reading (before 32 bytes) >>= λ numbers. behind_numbers lead numbers (filled (behind 32 bytes))
part_from (Spaced low) bytes = bare low (words bytes)
part_from (Hyphen low) bytes = bare low ((45 ∷ before 32 bytes) ∷ filled (behind 32 bytes))
part_from (Done part) bytes = alone part (words bytes)

abbrev pub Goes : Stage → List ℕ → ℕ → Type 0
Goes stage bytes b = part_from stage (b ∷ bytes) ≡ (part_step stage b >>= λ after. part_from after bytes)

-- ---- numbers as the first word

within_goes : (lead : Lead) (reading : Reading) (b : ℕ) (bytes : List ℕ) →
    (numbers_from reading (b ∷ before 32 bytes) >>= λ numbers. behind_numbers lead numbers (filled (behind 32 bytes))) ≡ (within_step lead reading b >>= λ after. part_from after bytes)
unfolding part_from
within_goes lead reading b bytes =
    ap (λ (o : Option Numbers). o >>= λ numbers. behind_numbers lead numbers (filled (behind 32 bytes))) (numbers_from-step reading b (before 32 bytes))
    ∙ bind_through (numbers_step reading b) (λ after. numbers_from after (before 32 bytes)) (λ numbers. behind_numbers lead numbers (filled (behind 32 bytes))) (λ after. Within lead after) (λ after. part_from after bytes) (λ after. refl)

abbrev OperandGoes : Lead → List ℕ → ℕ → Type 0
OperandGoes lead bytes b = (numbers_of (b ∷ before 32 bytes) >>= λ numbers. behind_numbers lead numbers (filled (behind 32 bytes))) ≡ (operand_step lead b >>= λ after. part_from after bytes)

operand_at_v : (lead : Lead) (bytes : List ℕ) → OperandGoes lead bytes 118
unfolding part_from
operand_at_v lead bytes = rw (numbers_of-v (before 32 bytes)) refl

operand_goes : (lead : Lead) (b : ℕ) (bytes : List ℕ) → OperandGoes lead bytes b
operand_goes lead b bytes =
    elim (eqb_tells b 118) [
      | inl v ↦ subst (OperandGoes lead bytes) (sym v.1) (operand_at_v lead bytes)
      | inr other ↦ rw (other.0, numbers_of-plain b (before 32 bytes) other.0) (within_goes lead awaiting b bytes)
    ]

signed_goes : (lead : Lead) (b : ℕ) (bytes : List ℕ) → eqb b 32 ≡ false → part_from (Signed lead) (b ∷ bytes) ≡ (operand_step lead b >>= λ after. part_from after bytes)
unfolding part_from first_word
signed_goes lead b bytes e = rw (words_begin b bytes e) (operand_goes lead b bytes)

-- ---- a part's first byte

plain-none : (word : List ℕ) (others : List (List ℕ)) → is_text (codes "*") word ≡ false → numbers_of word ≡ None → plain (word ∷ others) ≡ None
unfolding plain
plain-none word [] star none = rw (star, none) refl
plain-none word (hyphen ∷ []) star none = refl
plain-none word (hyphen ∷ upper ∷ []) star none =
    rw none (elim (is_text (codes "-") hyphen) as (λ t. cond t (nothing Part) None ≡ None) [ true ↦ refl | false ↦ refl ])
plain-none word (hyphen ∷ upper ∷ more ∷ others) star none = refl

plain-numbers : (word : List ℕ) (others : List (List ℕ)) → is_text (codes "*") word ≡ false → plain (word ∷ others) ≡ first_word leads.Bare (word ∷ others)
unfolding plain first_word behind_numbers bare
plain-numbers word [] star = rw star refl
plain-numbers word (hyphen ∷ []) star = sym (bind_none Part (numbers_of word))
plain-numbers word (hyphen ∷ upper ∷ []) star =
    elim (is_text (codes "-") hyphen) as (λ t. cond t (numbers_of word >>= λ low. numbers_of upper >>= λ high. Some (parts.Between low high)) None ≡ (numbers_of word >>= λ low. cond t (numbers_of upper >>= λ high. Some (parts.Between low high)) None)) [
      | true ↦ refl
      | false ↦ sym (bind_none Part (numbers_of word))
    ]
plain-numbers word (hyphen ∷ upper ∷ more ∷ others) star = sym (bind_none Part (numbers_of word))

operand-caret : (others : List (List ℕ)) → operand (λ a. parts.Caret a) others ≡ first_word leads.Caret others
unfolding first_word behind_numbers alone
operand-caret [] = refl
operand-caret (word ∷ []) = refl
operand-caret (word ∷ more ∷ others) = sym (bind_none Part (numbers_of word))

operand-tilde : (others : List (List ℕ)) → operand (λ a. parts.Tilde a) others ≡ first_word leads.Tilde others
unfolding first_word behind_numbers alone
operand-tilde [] = refl
operand-tilde (word ∷ []) = refl
operand-tilde (word ∷ more ∷ others) = sym (bind_none Part (numbers_of word))

operand-equal : (others : List (List ℕ)) → operand (λ a. parts.Equal a) others ≡ first_word leads.Equal others
unfolding first_word behind_numbers alone
operand-equal [] = refl
operand-equal (word ∷ []) = refl
operand-equal (word ∷ more ∷ others) = sym (bind_none Part (numbers_of word))

operand-at_least : (others : List (List ℕ)) → operand (λ a. parts.AtLeast a) others ≡ first_word leads.AtLeast others
unfolding first_word behind_numbers alone
operand-at_least [] = refl
operand-at_least (word ∷ []) = refl
operand-at_least (word ∷ more ∷ others) = sym (bind_none Part (numbers_of word))

operand-below : (others : List (List ℕ)) → operand (λ a. parts.Below a) others ≡ first_word leads.Below others
unfolding first_word behind_numbers alone
operand-below [] = refl
operand-below (word ∷ []) = refl
operand-below (word ∷ more ∷ others) = sym (bind_none Part (numbers_of word))

wide_choice : (o : Option (List ℕ)) (text : List ℕ) → plain (words text) ≡ None
    → elim o [ Some operand_text ↦ operand (λ a. parts.AtLeast a) (words operand_text) | None ↦ plain (words text) ] ≡ (o >>= λ operand_text. first_word leads.AtLeast (words operand_text))
wide_choice None text none = none
wide_choice (Some operand_text) text none = operand-at_least (words operand_text)

plain_words-none : (b : ℕ) (bytes : List ℕ) → eqb b 32 ≡ false → eqb b 42 ≡ false → eqb b 118 ≡ false → eqb b 46 ≡ false → is_ascii_digit b ≡ false → plain (words (b ∷ bytes)) ≡ None
plain_words-none b bytes space star v dot digit =
    rw (words_begin b bytes space) (plain-none (b ∷ before 32 bytes) (filled (behind 32 bytes)) (rw star refl) (numbers_of-none b (before 32 bytes) v dot digit))

star_alone : (others : List (List ℕ)) → plain ((42 ∷ []) ∷ others) ≡ alone parts.Every others
unfolding plain alone
star_alone [] = refl
star_alone (hyphen ∷ []) = refl
star_alone (hyphen ∷ upper ∷ []) =
    rw (numbers_of-none 42 [] refl refl refl) (elim (is_text (codes "-") hyphen) as (λ t. cond t (nothing Part) None ≡ None) [ true ↦ refl | false ↦ refl ])
star_alone (hyphen ∷ upper ∷ more ∷ others) = refl

star_then : (first : List ℕ) (others : List (List ℕ)) → plain ((42 ∷ first) ∷ filled others) ≡ alone parts.Every (filled (first ∷ others))
unfolding alone
star_then [] others = star_alone (filled others)
star_then (b ∷ bytes) others = plain-none (42 ∷ b ∷ bytes) (filled others) refl (numbers_of-none 42 (b ∷ bytes) refl refl refl)

at_space : (bytes : List ℕ) → Goes Before bytes 32
unfolding part_from part_step part_of
at_space bytes = refl

at_caret : (bytes : List ℕ) → Goes Before bytes 94
unfolding part_from part_step part_of
at_caret bytes = operand-caret (words bytes)

at_tilde : (bytes : List ℕ) → Goes Before bytes 126
unfolding part_from part_step part_of
at_tilde bytes = operand-tilde (words bytes)

at_equal : (bytes : List ℕ) → Goes Before bytes 61
unfolding part_from part_step part_of
at_equal bytes = operand-equal (words bytes)

at_greater : (bytes : List ℕ) → Goes Before bytes 62
unfolding part_from part_step part_of
at_greater bytes = wide_choice (without_prefix (61 ∷ []) bytes) (62 ∷ bytes) (plain_words-none 62 bytes refl refl refl refl refl)

at_wide : (bytes : List ℕ) → Goes Before bytes 226
unfolding part_from part_step part_of
at_wide bytes = wide_choice (without_prefix (137 ∷ 165 ∷ []) bytes) (226 ∷ bytes) (plain_words-none 226 bytes refl refl refl refl refl)

at_below : (bytes : List ℕ) → Goes Before bytes 60
unfolding part_from part_step part_of
at_below bytes = operand-below (words bytes)

at_star : (bytes : List ℕ) → Goes Before bytes 42
unfolding part_from part_step part_of
at_star bytes = rw (words_begin 42 bytes refl, words_are bytes) (star_then (before 32 bytes) (behind 32 bytes))

-- an operator with which the text doesn't begin
skips : (p : ℕ) (prefix : List ℕ) (make : Numbers → Part) (others : List Operator) (b : ℕ) (bytes : List ℕ) → eqb b p ≡ false
    → by_operators (operator (p ∷ prefix) make ∷ others) (b ∷ bytes) ≡ by_operators others (b ∷ bytes)
skips p prefix make others b bytes e =
    ap (λ (o : Option (List ℕ)). elim o [ Some text ↦ operand make (words text) | None ↦ by_operators others (b ∷ bytes) ]) (cond-false (eqb b p) (without_prefix prefix bytes) None e)

-- a byte with which no operator and no star begins, and no space
record IsOther (b : ℕ) : Type 0 where
  space : eqb b 32 ≡ false
  caret : eqb b 94 ≡ false
  tilde : eqb b 126 ≡ false
  equal : eqb b 61 ≡ false
  greater : eqb b 62 ≡ false
  wide : eqb b 226 ≡ false
  below : eqb b 60 ≡ false
  star : eqb b 42 ≡ false

other_is_plain : (b : ℕ) (bytes : List ℕ) → IsOther b → by_operators operators (b ∷ bytes) ≡ plain (words (b ∷ bytes))
other_is_plain b bytes other =
    let below : List Operator = operator (codes "<") (λ a. parts.Below a) ∷ [] in
    let wide : List Operator = operator (226 ∷ 137 ∷ 165 ∷ []) (λ a. parts.AtLeast a) ∷ below in
    let greater : List Operator = operator (codes ">=") (λ a. parts.AtLeast a) ∷ wide in
    let equal : List Operator = operator (codes "=") (λ a. parts.Equal a) ∷ greater in
    let tilde : List Operator = operator (codes "~") (λ a. parts.Tilde a) ∷ equal in
    skips 94 [] (λ a. parts.Caret a) tilde b bytes other.caret ∙ skips 126 [] (λ a. parts.Tilde a) equal b bytes other.tilde
    ∙ skips 61 [] (λ a. parts.Equal a) greater b bytes other.equal ∙ skips 62 (61 ∷ []) (λ a. parts.AtLeast a) wide b bytes other.greater
    ∙ skips 226 (137 ∷ 165 ∷ []) (λ a. parts.AtLeast a) below b bytes other.wide ∙ skips 60 [] (λ a. parts.Below a) [] b bytes other.below

other_steps : (b : ℕ) → IsOther b → part_step Before b ≡ operand_step leads.Bare b
unfolding part_step
other_steps b other = rw (other.space, other.caret, other.tilde, other.equal, other.greater, other.wide, other.below, other.star) refl

at_other : (b : ℕ) (bytes : List ℕ) → IsOther b → Goes Before bytes b
unfolding part_from part_of first_word
at_other b bytes other =
    let word = b ∷ before 32 bytes in
    let others = filled (behind 32 bytes) in
    ap (by_operators operators) (cond-false _ _ _ other.space)
    ∙ other_is_plain b bytes other ∙ ap plain (words_begin b bytes other.space) ∙ plain-numbers word others (rw other.star refl)
    ∙ operand_goes leads.Bare b bytes ∙ ap (λ (o : Option Stage). o >>= λ after. part_from after bytes) (sym (other_steps b other))

before_goes : (b : ℕ) (bytes : List ℕ) → Goes Before bytes b
before_goes b bytes =
    elim (eqb_tells b 32) [
      | inl e ↦ subst (Goes Before bytes) (sym e.1) (at_space bytes)
      | inr space ↦
          elim (eqb_tells b 94) [
            | inl e ↦ subst (Goes Before bytes) (sym e.1) (at_caret bytes)
            | inr caret ↦
                elim (eqb_tells b 126) [
                  | inl e ↦ subst (Goes Before bytes) (sym e.1) (at_tilde bytes)
                  | inr tilde ↦
                      elim (eqb_tells b 61) [
                        | inl e ↦ subst (Goes Before bytes) (sym e.1) (at_equal bytes)
                        | inr equal ↦
                            elim (eqb_tells b 62) [
                              | inl e ↦ subst (Goes Before bytes) (sym e.1) (at_greater bytes)
                              | inr greater ↦
                                  elim (eqb_tells b 226) [
                                    | inl e ↦ subst (Goes Before bytes) (sym e.1) (at_wide bytes)
                                    | inr wide ↦
                                        elim (eqb_tells b 60) [
                                          | inl e ↦ subst (Goes Before bytes) (sym e.1) (at_below bytes)
                                          | inr below ↦
                                              elim (eqb_tells b 42) [
                                                | inl e ↦ subst (Goes Before bytes) (sym e.1) (at_star bytes)
                                                | inr star ↦
                                                    at_other b bytes (record { space = space.0; caret = caret.0; tilde = tilde.0; equal = equal.0; greater = greater.0; wide = wide.0; below = below.0; star = star.0 })
                                              ]
                                        ]
                                  ]
                            ]
                      ]
                ]
          ]
    ]

-- ---- the other stages at a space

numbers_then_space : (lead : Lead) (numbers : Numbers) (bytes : List ℕ) → behind_numbers lead numbers (words bytes) ≡ part_from (stage_after lead numbers) bytes
unfolding part_from behind_numbers
numbers_then_space leads.Bare numbers bytes = refl
numbers_then_space leads.Caret numbers bytes = refl
numbers_then_space leads.Tilde numbers bytes = refl
numbers_then_space leads.Equal numbers bytes = refl
numbers_then_space leads.AtLeast numbers bytes = refl
numbers_then_space leads.Below numbers bytes = refl
numbers_then_space (leads.Upper low) numbers bytes = refl

end_then_space : (lead : Lead) (o : Option Numbers) (bytes : List ℕ) → (o >>= λ numbers. behind_numbers lead numbers (words bytes)) ≡ ((o >>= λ numbers. Some (stage_after lead numbers)) >>= λ after. part_from after bytes)
end_then_space lead None bytes = refl
end_then_space lead (Some numbers) bytes = numbers_then_space lead numbers bytes

within_at_space : (lead : Lead) (reading : Reading) (bytes : List ℕ) → Goes (Within lead reading) bytes 32
unfolding part_from part_step
within_at_space lead reading bytes = rw (numbers_from-end reading, ← words_are bytes) (end_then_space lead (numbers_end reading) bytes)

-- behind a hyphen and a space stands the upper end
upper_end : (low : Numbers) (others : List (List ℕ)) → bare low ((45 ∷ []) ∷ others) ≡ first_word (leads.Upper low) others
unfolding bare first_word behind_numbers alone
upper_end low [] = refl
upper_end low (upper ∷ []) = refl
upper_end low (upper ∷ more ∷ others) = sym (bind_none Part (numbers_of upper))

space_goes : (stage : Stage) (bytes : List ℕ) → Goes stage bytes 32
unfolding part_from part_step
space_goes Before bytes = at_space bytes
space_goes Greater bytes = refl
space_goes Wide bytes = refl
space_goes Wider bytes = refl
space_goes (Signed lead) bytes = refl
space_goes (Within lead reading) bytes = within_at_space lead reading bytes
space_goes (Spaced low) bytes = refl
space_goes (Hyphen low) bytes = rw (← words_are bytes) (upper_end low (words bytes))
space_goes (Done part) bytes = refl

-- ---- the other stages at a byte that is no space

alone-none : (part : Part) (word : List ℕ) (others : List (List ℕ)) → alone part (word ∷ others) ≡ None
unfolding alone
alone-none part word others = refl

bare-none : (low : Numbers) (word : List ℕ) (others : List (List ℕ)) → is_text (codes "-") word ≡ false → bare low (word ∷ others) ≡ None
unfolding bare
bare-none low word [] e = refl
bare-none low word (upper ∷ []) e = rw e refl
bare-none low word (upper ∷ more ∷ others) e = refl

spaced_goes : (low : Numbers) (b : ℕ) (bytes : List ℕ) → eqb b 32 ≡ false → part_from (Spaced low) (b ∷ bytes) ≡ (byte_step (Spaced low) b >>= λ after. part_from after bytes)
unfolding part_from
spaced_goes low b bytes space =
    elim (eqb_tells b 45) [
      | inl hyphen ↦ subst (λ c. part_from (Spaced low) (c ∷ bytes) ≡ (byte_step (Spaced low) c >>= λ after. part_from after bytes)) (sym hyphen.1) (ap (bare low) (words_begin 45 bytes refl))
      | inr other ↦ rw (other.0, words_begin b bytes space) (bare-none low (b ∷ before 32 bytes) (filled (behind 32 bytes)) (rw other.0 refl))
    ]

no_space : (b : ℕ) (stage : Stage) → eqb b 32 ≡ false → part_step stage b ≡ byte_step stage b
unfolding part_step
no_space b stage e = cond-false _ _ _ e

wide_prefix : (p b : ℕ) (prefix bytes : List ℕ) (after : Stage) → part_from after bytes ≡ (without_prefix prefix bytes >>= λ text. first_word leads.AtLeast (words text))
    → (without_prefix (p ∷ prefix) (b ∷ bytes) >>= λ text. first_word leads.AtLeast (words text)) ≡ (cond (eqb b p) (Some after) None >>= λ stage. part_from stage bytes)
wide_prefix p b prefix bytes after same =
    elim (eqb b p) as (λ t. (cond t (without_prefix prefix bytes) None >>= λ text. first_word leads.AtLeast (words text)) ≡ (cond t (Some after) None >>= λ stage. part_from stage bytes)) [
      | true ↦ sym same
      | false ↦ refl
    ]

byte_goes : (stage : Stage) (b : ℕ) (bytes : List ℕ) → eqb b 32 ≡ false → part_from stage (b ∷ bytes) ≡ (byte_step stage b >>= λ after. part_from after bytes)
unfolding part_from
byte_goes Before b bytes space = before_goes b bytes ∙ ap (λ (o : Option Stage). o >>= λ after. part_from after bytes) (no_space b Before space)
byte_goes Greater b bytes space = wide_prefix 61 b [] bytes (Signed leads.AtLeast) refl
byte_goes Wide b bytes space = wide_prefix 137 b (165 ∷ []) bytes Wider refl
byte_goes Wider b bytes space = wide_prefix 165 b [] bytes (Signed leads.AtLeast) refl
byte_goes (Signed lead) b bytes space = signed_goes lead b bytes space
byte_goes (Within lead reading) b bytes space = rw space (within_goes lead reading b bytes)
byte_goes (Spaced low) b bytes space = spaced_goes low b bytes space
byte_goes (Hyphen low) b bytes space = rw space (bare-none low (45 ∷ b ∷ before 32 bytes) (filled (behind 32 bytes)) refl)
byte_goes (Done part) b bytes space = rw (words_begin b bytes space) (alone-none part (b ∷ before 32 bytes) (filled (behind 32 bytes)))

-- The part of a text goes on as the stages do.
pub part_from-step : (stage : Stage) (b : ℕ) (bytes : List ℕ) → Goes stage bytes b
part_from-step stage b bytes =
    elim (eqb_tells b 32) [
      | inl e ↦ subst (Goes stage bytes) (sym e.1) (space_goes stage bytes)
      | inr e ↦ byte_goes stage b bytes e.0 ∙ ap (λ (o : Option Stage). o >>= λ after. part_from after bytes) (sym (no_space b stage e.0))
    ]

made : (lead : Lead) (o : Option Numbers) → (o >>= λ numbers. behind_numbers lead numbers []) ≡ (o >>= λ numbers. Some (made_by lead numbers))
unfolding behind_numbers bare alone
made lead None = refl
made leads.Bare (Some numbers) = refl
made leads.Caret (Some numbers) = refl
made leads.Tilde (Some numbers) = refl
made leads.Equal (Some numbers) = refl
made leads.AtLeast (Some numbers) = refl
made leads.Below (Some numbers) = refl
made (leads.Upper low) (Some numbers) = refl

pub part_from-end : (stage : Stage) → part_from stage [] ≡ part_end stage
unfolding part_from part_end part_of plain first_word bare alone behind_numbers
part_from-end Before = refl
part_from-end Greater = refl
part_from-end Wide = refl
part_from-end Wider = refl
part_from-end (Signed lead) = refl
part_from-end (Within lead reading) = rw (numbers_from-end reading) (made lead (numbers_end reading))
part_from-end (Spaced low) = refl
part_from-end (Hyphen low) = refl
part_from-end (Done part) = refl
