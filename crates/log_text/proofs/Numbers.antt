-- A word means a number exactly where it is the number's decimal digits.
use Rattle.std.proofs.Common.{◌≡◌, ℕ, ◌+◌, ◌-◌, ◌*◌, ◌^◌, ◌<◌, ◌≤◌, true, false, ◌&&◌, List, [], ◌∷◌, length, get_or, drop, None, Some, rules, refl, sym, ◌∙◌, ap, subst, arith, inl, inr}
use Rattle.std.specs.Prelude.{◌==◌, nat_lt, nat_le}
use Rattle.std.specs.Fmt.{decimal}
use Rattle.std.specs.List.{list_all}
use Rattle.std.proofs.lemmas.Bool.{and_parts, and_from, cases_Bool, cases_lt, eq-eqb, leb-true, ltb-true, lt-ltb, ne_eqb, not-true, both_ways}
use Rattle.std.proofs.lemmas.Fmt.{decimal-digits_value, decimal_digit, decimal_nonempty, digits_decimal, digits_value-decimal, first_decimal}
use Rattle.std.proofs.lemmas.List.{drop_all, drop_more}
use Rattle.std.proofs.lemmas.Option.{none-some, same_Some}
use Rattle.std.proofs.lemmas.Str.Parse.{IsNumeralModel, numerals_by_fold}
use Rattle.log_text.specs.Meant.{is_digit, is_plain, value_with, value_after, number_meant}
use Rattle.log_text.proofs.Cuts.{is_free}

-- the number that digits mean behind others that mean n
abbrev number_after : ℕ → List ℕ → ℕ
number_after n [] = n
number_after n (digit ∷ digits) = number_after (10 * n + (digit - 48)) digits

own : IsNumeralModel (λ ds. list_all is_digit ds ≡ true) (number_after 0)
own = numerals_by_fold _ (search rules) number_after (search rules)

-- one digit of many
pub value_goes : (n next : ℕ) (xs : List ℕ) (i : ℕ) → i < length xs → Some next ≡ value_with n (get_or xs i 0) → value_after n (drop i xs) ≡ value_after next (drop (i + 1) xs)
unfolding value_after
value_goes n next xs i lt step = rw (drop_more xs i 0 lt) (rw (← step) refl)

pub value_ends : (n : ℕ) (xs : List ℕ) (i : ℕ) → i < length xs → None ≡ value_with n (get_or xs i 0) → value_after n (drop i xs) ≡ None
unfolding value_after
value_ends n xs i lt step = rw (drop_more xs i 0 lt) (rw (← step) refl)

pub value_done : (n : ℕ) (xs : List ℕ) (i : ℕ) → length xs ≤ i → value_after n (drop i xs) ≡ Some n
unfolding value_after
value_done n xs i le = ap (value_after n) (drop_all i xs le)

value_gives : (n v : ℕ) (ds : List ℕ) → n < 2 ^ 32 → value_after n ds ≡ Some v → (list_all is_digit ds ≡ true) × (number_after n ds ≡ v) × (v < 2 ^ 32)
unfolding value_after
value_gives n v [] small e = let same = same_Some n v e in (refl, same, subst (λ k. k < 2 ^ 32) same small)
value_gives n v (d ∷ ds) small e = elim (cases_Bool (is_digit d && nat_lt (10 * n + (d - 48)) (2 ^ 32))) [
  | inl fits ↦
      let parts = and_parts (is_digit d) (nat_lt (10 * n + (d - 48)) (2 ^ 32)) fits in
      let next : value_after (10 * n + (d - 48)) ds ≡ Some v = rw fits at e in
      let rest = value_gives (10 * n + (d - 48)) v ds (ltb-true (10 * n + (d - 48)) (2 ^ 32) parts.1) next in
      (and_from (is_digit d) (list_all is_digit ds) parts.0 rest.0, rest.1, rest.2)
  | inr misfit ↦ let none : None ≡ Some v = rw misfit at e in absurd (none-some v none)
]

grows : (n : ℕ) (ds : List ℕ) → n ≤ number_after n ds
grows n [] = omega arith
grows n (d ∷ ds) = let more = grows (10 * n + (d - 48)) ds in omega arith

value_from : (n : ℕ) (ds : List ℕ) → list_all is_digit ds ≡ true → number_after n ds < 2 ^ 32 → value_after n ds ≡ Some (number_after n ds)
unfolding value_after
value_from n [] digits small = refl
value_from n (d ∷ ds) digits small =
    let parts = and_parts (is_digit d) (list_all is_digit ds) digits in
    let more = grows (10 * n + (d - 48)) ds in
    let fits : nat_lt (10 * n + (d - 48)) (2 ^ 32) ≡ true = lt-ltb (10 * n + (d - 48)) (2 ^ 32) (omega arith) in
    rw (parts.0, fits) (value_from (10 * n + (d - 48)) ds parts.1 small)

plain_long : (w : List ℕ) → is_plain w ≡ true → 0 < length w
plain_long [] plain = absurd (both_ways false refl plain)
plain_long (b ∷ bs) plain = omega arith

plain_first : (w : List ℕ) → is_plain w ≡ true → get_or w 0 0 ≡ 48 → length w ≡ 1
plain_first [] plain zero_first = absurd (both_ways false refl plain)
plain_first (b ∷ []) plain zero_first = refl
plain_first (b ∷ c ∷ cs) plain zero_first = absurd (both_ways (b == 48) (not-true (b == 48) plain) (eq-eqb b 48 zero_first))

plain_from : (w : List ℕ) → 0 < length w → 48 < get_or w 0 0 → is_plain w ≡ true
plain_from [] long first = absurd (omega arith)
plain_from (b ∷ []) long first = refl
plain_from (b ∷ c ∷ cs) long first = rw (ne_eqb b 48 (λ e. absurd (omega (arith, e)))) refl

plain_decimal : (n : ℕ) → n < 2 ^ 32 → is_plain (decimal n) ≡ true
plain_decimal n small = elim (cases_lt 0 n) [
  | inl some ↦ plain_from (decimal n) (decimal_nonempty n (omega arith)) (first_decimal n some (omega arith))
  | inr none ↦ let nil : n ≡ 0 = omega arith in rw (nil, decimal_digit 0 (omega arith)) refl
]

-- a word that means a number is its decimal digits
pub number_to : (w : List ℕ) (n : ℕ) → number_meant w ≡ Some n → (w ≡ decimal n) × (n < 2 ^ 32)
unfolding number_meant
number_to w n e = elim (cases_Bool (is_plain w)) [
  | inl plain ↦
      let value : value_after 0 w ≡ Some n = rw plain at e in
      let given = value_gives 0 n w (omega arith) value in
      let small : number_after 0 w < 2 ^ 64 = omega (arith, given.1, given.2) in
      (sym (decimal-digits_value own w given.0 (plain_long w plain) (plain_first w plain) small) ∙ ap decimal given.1, given.2)
  | inr other ↦ let none : None ≡ Some n = rw other at e in absurd (none-some n none)
]

-- the decimal digits of a number mean it
pub number_from : (n : ℕ) → n < 2 ^ 32 → number_meant (decimal n) ≡ Some n
unfolding number_meant
number_from n small =
    let fits : n < 2 ^ 64 = omega arith in
    let same : number_after 0 (decimal n) ≡ n = digits_value-decimal own n fits in
    let value : value_after 0 (decimal n) ≡ Some (number_after 0 (decimal n)) = value_from 0 (decimal n) (digits_decimal own n fits) (omega (arith, same, small)) in
    rw (plain_decimal n small) (value ∙ ap Some same)

digits_free : (m : ℕ) (ds : List ℕ) → m < 48 → list_all is_digit ds ≡ true → is_free m ds ≡ true
digits_free m [] low digits = refl
digits_free m (d ∷ ds) low digits =
    let parts = and_parts (is_digit d) (list_all is_digit ds) digits in
    let above : 48 ≤ d = leb-true 48 d (and_parts (nat_le 48 d) (nat_le d 57) parts.0).0 in
    rw (ne_eqb d m (λ e. absurd (omega (arith, e, above)))) (digits_free m ds low parts.1)

-- decimal digits are free of a lower byte
pub decimal_free : (m n : ℕ) → m < 48 → n < 2 ^ 32 → is_free m (decimal n) ≡ true
decimal_free m n low small = digits_free m (decimal n) low (digits_decimal own n (omega arith))
