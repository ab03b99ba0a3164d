-- Numbers that are read byte by byte are those of the word.
use Rattle.std.proofs.Common.{◌≡◌, ℕ, ◌+◌, ◌-◌, ◌*◌, ◌^◌, ◌<◌, ◌≤◌, Bool, true, false, cond, eqb, ltb, ◌&&◌, List, [], ◌∷◌, map, Option, Some, None, refl, sym, ap, subst, ◌∙◌, arith, inl, inr}
use Rattle.std.specs.List.{list_all}
use Rattle.std.specs.Char.{is_ascii_digit}
use Rattle.std.proofs.lemmas.Bool.{le-ltb, lt-ltb, ltb-false, cases_Bool}
use Rattle.std.proofs.lemmas.Bool.Decides.{eqb_tells, nat_tests}
use Rattle.compat_spec.specs.declared.numbers.Numbers.{Numbers}
use Rattle.compat_spec.specs.declared.numbers.Begun.{Begun}
use Rattle.compat_spec.specs.declared.numbers.Begun.TheVariants.{Nothing, AfterMajor, AfterMinor}
use Rattle.compat_spec.specs.declared.numbers.Reading.{Reading}
use Rattle.compat_spec.specs.declared.numbers.Reading.TheVariants.{Awaiting, Digits}
use Rattle.compat_spec.specs.Pieces.{◌>>=◌}
use Rattle.compat_spec.specs.Numbers.{value_after, number_of, gathered, numbers_of}
use Rattle.compat_spec.specs.NumberMachine.{numbers_step, numbers_end, dot_step, digit_step}
use Rattle.compat_spec.proofs.Cuts.{before, behind, pieces_are}

-- a number that goes on with digits after its value so far
unfoldable pub number_from : ℕ → List ℕ → Option ℕ
number_from n [] = Some n
number_from n (d ∷ ds) = cond (list_all is_ascii_digit (d ∷ ds) && ltb (value_after n (d ∷ ds)) (2 ^ 32)) (Some (value_after n (d ∷ ds))) None

value_grows : (n : ℕ) (ds : List ℕ) → n ≤ value_after n ds
value_grows n [] = omega arith
value_grows n (d ∷ ds) = omega (arith, value_grows (10 * n + (d - 48)) ds)

and_false : (b : Bool) → (b && false) ≡ false
and_false true = refl
and_false false = refl

too_large : (m : ℕ) (ds : List ℕ) → ltb m (2 ^ 32) ≡ false → ltb (value_after m ds) (2 ^ 32) ≡ false
too_large m ds e = le-ltb _ _ (omega (arith, ltb-false m (2 ^ 32) e, value_grows m ds))

-- one digit further
number_from-digit : (n d : ℕ) (ds : List ℕ) → is_ascii_digit d ≡ true
    → number_from n (d ∷ ds) ≡ cond (ltb (10 * n + (d - 48)) (2 ^ 32)) (number_from (10 * n + (d - 48)) ds) None
unfolding number_from
number_from-digit n d [] e = rw e refl
number_from-digit n d (c ∷ ds) e =
    let m = 10 * n + (d - 48) in
    elim (cases_Bool (ltb m (2 ^ 32))) [
      | inl lt ↦ rw (e, lt) refl
      | inr ge ↦ rw (e, ge, too_large m (c ∷ ds) ge, and_false) refl
    ]

number_from-other : (n d : ℕ) (ds : List ℕ) → is_ascii_digit d ≡ false → number_from n (d ∷ ds) ≡ None
unfolding number_from
number_from-other n d ds e = rw e refl

digit_small : (d : ℕ) → is_ascii_digit d ≡ true → d - 48 < 2 ^ 32
digit_small d e = grind (arith, nat_tests)

-- a number's first digit
number_of-digit : (d : ℕ) (ds : List ℕ) → is_ascii_digit d ≡ true → number_of (d ∷ ds) ≡ number_from (d - 48) ds
unfolding number_of number_from
number_of-digit d ds e =
    let same : 10 * 0 + (d - 48) ≡ d - 48 = omega arith in
    let small : ltb (d - 48) (2 ^ 32) ≡ true = lt-ltb _ _ (digit_small d e) in
    number_from-digit 0 d ds e ∙ subst (λ m. cond (ltb m (2 ^ 32)) (number_from m ds) None ≡ number_from (d - 48) ds) (sym same) (rw small refl)

number_of-other : (d : ℕ) (ds : List ℕ) → is_ascii_digit d ≡ false → number_of (d ∷ ds) ≡ None
unfolding number_of
number_of-other d ds e = rw e refl

-- ---- numbers after what has been read

unfoldable pub gathered_after : Begun → List (Option ℕ) → Option Numbers
gathered_after Nothing numbers = gathered numbers
gathered_after (AfterMajor a) numbers = gathered (Some a ∷ numbers)
gathered_after (AfterMinor a b) numbers = gathered (Some a ∷ Some b ∷ numbers)

-- the numbers of a word of which the bytes before these have been read
unfoldable pub numbers_from : Reading → List ℕ → Option Numbers
numbers_from (Awaiting begun) bytes = gathered_after begun (number_of (before 46 bytes) ∷ map number_of (behind 46 bytes))
numbers_from (Digits begun n) bytes = gathered_after begun (number_from n (before 46 bytes) ∷ map number_of (behind 46 bytes))

gathered_after-none : (begun : Begun) (numbers : List (Option ℕ)) → gathered_after begun (None ∷ numbers) ≡ None
unfolding gathered_after gathered
gathered_after-none Nothing numbers = refl
gathered_after-none (AfterMajor a) numbers = refl
gathered_after-none (AfterMinor a b) numbers = refl

pub numbers_from-end : (reading : Reading) → numbers_from reading [] ≡ numbers_end reading
unfolding numbers_from number_of number_from gathered_after gathered
numbers_from-end (Awaiting begun) = gathered_after-none begun []
numbers_from-end (Digits Nothing n) = refl
numbers_from-end (Digits (AfterMajor a) n) = refl
numbers_from-end (Digits (AfterMinor a b) n) = refl

numbers_from-dot : (begun : Begun) (n : ℕ) (bytes : List ℕ) → numbers_from (Digits begun n) (46 ∷ bytes) ≡ (dot_step begun n >>= λ after. numbers_from after bytes)
unfolding numbers_from number_of number_from gathered_after gathered
numbers_from-dot Nothing n bytes = refl
numbers_from-dot (AfterMajor a) n bytes = refl
numbers_from-dot (AfterMinor a b) n bytes = refl

numbers_from-no_digit : (begun : Begun) (bytes : List ℕ) → numbers_from (Awaiting begun) (46 ∷ bytes) ≡ None
unfolding numbers_from number_of
numbers_from-no_digit begun bytes = gathered_after-none begun (map number_of (before 46 bytes ∷ behind 46 bytes))

numbers_from-digits : (begun : Begun) (m : ℕ) (bytes : List ℕ) →
    gathered_after begun (cond (ltb m (2 ^ 32)) (number_from m (before 46 bytes)) None ∷ map number_of (behind 46 bytes)) ≡ (digit_step begun m >>= λ after. numbers_from after bytes)
unfolding numbers_from
numbers_from-digits begun m bytes =
    elim (ltb m (2 ^ 32)) as (λ t. gathered_after begun (cond t (number_from m (before 46 bytes)) None ∷ map number_of (behind 46 bytes)) ≡ (cond t (Some (Digits begun m)) None >>= λ after. numbers_from after bytes)) [
      | true ↦ refl
      | false ↦ gathered_after-none begun (map number_of (behind 46 bytes))
    ]

abbrev Continues : Reading → List ℕ → ℕ → Type 0
Continues reading bytes b = numbers_from reading (b ∷ bytes) ≡ (numbers_step reading b >>= λ after. numbers_from after bytes)

pub numbers_from-step : (reading : Reading) (b : ℕ) (bytes : List ℕ) → Continues reading bytes b
unfolding numbers_from numbers_step
numbers_from-step (Awaiting begun) b bytes =
    elim (eqb_tells b 46) [
      | inl dot ↦ subst (Continues (Awaiting begun) bytes) (sym dot.1) (numbers_from-no_digit begun bytes)
      | inr other ↦ elim (cases_Bool (is_ascii_digit b)) [
        | inl digit ↦ rw (other.0, digit, number_of-digit b (before 46 bytes) digit) refl
        | inr no_digit ↦ rw (other.0, no_digit, number_of-other b (before 46 bytes) no_digit) (gathered_after-none begun (map number_of (behind 46 bytes)))
      ]
    ]
numbers_from-step (Digits begun n) b bytes =
    elim (eqb_tells b 46) [
      | inl dot ↦ subst (Continues (Digits begun n) bytes) (sym dot.1) (numbers_from-dot begun n bytes)
      | inr other ↦ elim (cases_Bool (is_ascii_digit b)) [
        | inl digit ↦ rw (other.0, digit, number_from-digit n b (before 46 bytes) digit) (numbers_from-digits begun (10 * n + (b - 48)) bytes)
        | inr no_digit ↦ rw (other.0, no_digit, number_from-other n b (before 46 bytes) no_digit) (gathered_after-none begun (map number_of (behind 46 bytes)))
      ]
    ]

-- ---- a word's numbers, with an optional v

pub numbers_of-v : (bytes : List ℕ) → numbers_of (118 ∷ bytes) ≡ numbers_from (Awaiting Nothing) bytes
unfolding numbers_of numbers_from gathered_after
numbers_of-v bytes = ap (λ ps. gathered (map number_of ps)) (pieces_are 46 bytes)

pub numbers_of-plain : (b : ℕ) (bytes : List ℕ) → eqb b 118 ≡ false → numbers_of (b ∷ bytes) ≡ numbers_from (Awaiting Nothing) (b ∷ bytes)
unfolding numbers_of numbers_from gathered_after
numbers_of-plain b bytes e = rw e (ap (λ ps. gathered (map number_of ps)) (pieces_are 46 (b ∷ bytes)))

-- no numbers begin so
pub numbers_of-none : (b : ℕ) (bytes : List ℕ) → eqb b 118 ≡ false → eqb b 46 ≡ false → is_ascii_digit b ≡ false → numbers_of (b ∷ bytes) ≡ None
unfolding numbers_of number_of gathered
numbers_of-none b bytes v dot digit = rw v (ap (λ ps. gathered (map number_of ps)) (pieces_are 46 (b ∷ bytes)) ∙ rw (dot, digit) refl)
