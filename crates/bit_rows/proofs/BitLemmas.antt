-- The bits of words.
use Rattle.std.proofs.Common.{◌≡◌, ◌≢◌, ℕ, zero, suc, ◌+◌, ◌*◌, ◌/◌, ◌%◌, ◌^◌, ◌-◌, ◌<◌, ◌≤◌, Bool, true, false, cond, ◌&&◌, List, [], ◌∷◌, length, get_or, set, map, replicate, refl, sym, ◌∙◌, ap, arith, inl, inr, eqb, min, count_by, sum_by, count_ones, bit_and, bit_or, w64}
use Rattle.std.specs.Int.{bit_at, bit_not}
use Rattle.std.specs.Int.Bits.{bit_xor}
use Rattle.std.specs.List.{range_with_len}
use Rattle.std.specs.Simd.Lanes.{mask_l}
use Rattle.std.proofs.lemmas.Bool.{cases_lt, cases_eq, eq-eqb, eqb-true}
use Rattle.std.proofs.lemmas.List.{get_or_past, get_or-set_same, get_or-set_other, length-set, get_or-map, length-replicate, get_or-replicate}
use Rattle.std.proofs.lemmas.List.FromFn.{length-range_with_len, get_or-range_with_len}
use Rattle.std.proofs.lemmas.List.Sums.{sum_by-cons}
use Rattle.std.proofs.lemmas.Nat.Bits.{bit_at-zero, bit_at_and, bit_at_xor, bit_at-lt, bit_at-trailing_zeros, bit_at_set_same, bit_at_set_other, bit_at_clear_same, bit_at_clear_other, bit_at_ones, same_from_bits_below, shr_and_one}
use Rattle.std.specs.Int.{trailing_zeros}
use Rattle.std.proofs.lemmas.Nat.{and_le_r}
use Rattle.std.proofs.lemmas.Simd.{bit_mask_l, mask_l-lt, ones-mask_l}
use Rattle.bit_rows.specs.Stored.{is_set, meet_at, differ_at, SomeFrom, NoneFrom, ShareBit, ShareNone, DifferInBit, DifferInNone, HasMet, HasBit}

-- ---- one bit

is_one : (n : ℕ) → n < 2 → (eqb n 1 ≡ true → n ≡ 1) × (n ≡ 1 → eqb n 1 ≡ true)
is_one n h = (eqb-true n 1, eq-eqb n 1)

pub set_from_bit : (words : List ℕ) (w i : ℕ) → i < 64 → bit_at (get_or words w 0) i ≡ 1 → is_set words (64 * w + i) ≡ true
unfolding is_set
set_from_bit words w i h e =
    let a : (64 * w + i) / 64 ≡ w = omega (arith, h) in
    let b : (64 * w + i) % 64 ≡ i = omega (arith, h) in
    rw (a, b) (eq-eqb _ 1 e)

pub bit_from_set : (words : List ℕ) (k : ℕ) → is_set words k ≡ true → bit_at (get_or words (k / 64) 0) (k % 64) ≡ 1
unfolding is_set
bit_from_set words k e = eqb-true _ 1 e

pub is_set-word : (words : List ℕ) (k : ℕ) → is_set words k ≡ eqb (bit_at (get_or words (k / 64) 0) (k % 64)) 1
unfolding is_set
is_set-word words k = refl

-- a bit that is set is in the words
pub set_known : (words : List ℕ) (k : ℕ) → is_set words k ≡ true → k / 64 < length words
set_known words k e =
    elim (cases_lt (k / 64) (length words)) [
      | inl h ↦ h
      | inr h ↦
          let past : get_or words (k / 64) 0 ≡ 0 = get_or_past words (k / 64) 0 h in
          let none : bit_at (get_or words (k / 64) 0) (k % 64) ≡ 0 = ap (λ n. bit_at n (k % 64)) past ∙ bit_at-zero (k % 64) in
          absurd (omega (arith, none, bit_from_set words k e))
    ]

-- a number that isn't 0 has a bit
some_bit : (n : ℕ) → n ≢ 0 → n < 2 ^ 64 → (i : ℕ) × (i < 64) × (bit_at n i ≡ 1)
some_bit n some fits =
    let t = bit_at-trailing_zeros w64 n (omega (arith, some)) fits in
    (trailing_zeros w64 n, t.0, t.1)

both_set : (a b i : ℕ) → bit_at (bit_and a b) i ≡ 1 → (bit_at a i ≡ 1) × (bit_at b i ≡ 1)
both_set a b i e =
    let m = bit_at_and a b i in
    (omega (arith, m, e, bit_at-lt a i, bit_at-lt b i), omega (arith, m, e, bit_at-lt a i, bit_at-lt b i))

-- ---- what is told of words is told of bits

pub shares_bit : (a b : List ℕ) (from to : ℕ) → ((k : ℕ) → get_or b k 0 < 2 ^ 64) → SomeFrom (meet_at a b) from to → ShareBit a b
shares_bit a b from to fits s =
    let word = meet_at a b s.at in
    let low : word < 2 ^ 64 = omega (arith, and_le_r (get_or a s.at 0) (get_or b s.at 0), fits s.at) in
    let t = some_bit word s.some low in
    let both = both_set (get_or a s.at 0) (get_or b s.at 0) t.0 t.2 in
    record { bit = 64 * s.at + t.0; first = set_from_bit a s.at t.0 t.1 both.0; second = set_from_bit b s.at t.0 t.1 both.1 }

pub shares_none : (a b : List ℕ) → NoneFrom (meet_at a b) 0 (length a) → ShareNone a b
shares_none a b none k first second =
    let here = bit_at_and (get_or a (k / 64) 0) (get_or b (k / 64) 0) (k % 64) in
    let empty : bit_at (meet_at a b (k / 64)) (k % 64) ≡ 0 =
    ap (λ n. bit_at n (k % 64)) (none (k / 64) (omega arith) (set_known a k first)) ∙ bit_at-zero (k % 64) in
    omega (arith, here, empty, bit_from_set a k first, bit_from_set b k second)

bool_apart : (x y : ℕ) → x < 2 → y < 2 → (x + y) % 2 ≡ 1 → eqb x 1 ≢ eqb y 1
bool_apart zero zero h i e s = absurd (omega (arith, e))
bool_apart zero (suc zero) h i e s = absurd (cc)
bool_apart (suc zero) zero h i e s = absurd (cc)
bool_apart (suc zero) (suc zero) h i e s = absurd (omega (arith, e))
bool_apart (suc (suc x)) y h i e s = absurd (omega (arith, h))
bool_apart zero (suc (suc y)) h i e s = absurd (omega (arith, i))
bool_apart (suc zero) (suc (suc y)) h i e s = absurd (omega (arith, i))

pub differs_in_bit : (a b mask : List ℕ) (from to : ℕ) → ((k : ℕ) → get_or mask k 0 < 2 ^ 64) → SomeFrom (differ_at a b mask) from to → DifferInBit a b mask
differs_in_bit a b mask from to fits s =
    let w = s.at in
    let low : differ_at a b mask w < 2 ^ 64 = omega (arith, and_le_r (bit_xor (get_or a w 0) (get_or b w 0)) (get_or mask w 0), fits w) in
    let t = some_bit (differ_at a b mask w) s.some low in
    let both = both_set (bit_xor (get_or a w 0) (get_or b w 0)) (get_or mask w 0) t.0 t.2 in
    let odd : (bit_at (get_or a w 0) t.0 + bit_at (get_or b w 0) t.0) % 2 ≡ 1 = sym (bit_at_xor (get_or a w 0) (get_or b w 0) t.0) ∙ both.0 in
    let x : (64 * w + t.0) / 64 ≡ w = omega (arith, t.1) in
    let y : (64 * w + t.0) % 64 ≡ t.0 = omega (arith, t.1) in
    let apart = bool_apart (bit_at (get_or a w 0) t.0) (bit_at (get_or b w 0) t.0) (bit_at-lt (get_or a w 0) t.0) (bit_at-lt (get_or b w 0) t.0) odd in
    record {
      bit = 64 * w + t.0;
      masked = set_from_bit mask w t.0 t.1 both.1;
      apart = λ e. apart (sym (at a w t.0 x y) ∙ e ∙ at b w t.0 x y);
    }
  where
    at : (words : List ℕ) (w i : ℕ) → (64 * w + i) / 64 ≡ w → (64 * w + i) % 64 ≡ i → is_set words (64 * w + i) ≡ eqb (bit_at (get_or words w 0) i) 1
    at words w i x y = is_set-word words (64 * w + i) ∙ (λ k. eqb (bit_at (get_or words (x k) 0) (y k)) 1)

pub differs_in_none : (a b mask : List ℕ) → length a ≡ length mask → NoneFrom (differ_at a b mask) 0 (length a) → DifferInNone a b mask
differs_in_none a b mask long none k masked =
    let w = k / 64 in
    let i = k % 64 in
    let here = bit_at_and (bit_xor (get_or a w 0) (get_or b w 0)) (get_or mask w 0) i in
    let empty : bit_at (differ_at a b mask w) i ≡ 0 =
    ap (λ n. bit_at n i) (none w (omega arith) (omega (arith, set_known mask k masked, long))) ∙ bit_at-zero i in
    let even = bit_at_xor (get_or a w 0) (get_or b w 0) i in
    let same : bit_at (get_or a w 0) i ≡ bit_at (get_or b w 0) i =
    omega (arith, here, empty, even, bit_from_set mask k masked, bit_at-lt (get_or a w 0) i, bit_at-lt (get_or b w 0) i) in
    is_set-word a k ∙ ap (λ n. eqb n 1) same ∙ sym (is_set-word b k)

eqb-min : (x y : ℕ) → x < 2 → y < 2 → eqb (min x y) 1 ≡ (eqb x 1 && eqb y 1)
eqb-min zero zero h i = refl
eqb-min zero (suc zero) h i = refl
eqb-min (suc zero) zero h i = refl
eqb-min (suc zero) (suc zero) h i = refl
eqb-min (suc (suc x)) y h i = absurd (omega (arith, h))
eqb-min zero (suc (suc y)) h i = absurd (omega (arith, i))
eqb-min (suc zero) (suc (suc y)) h i = absurd (omega (arith, i))

pub met_bits : (old other new : List ℕ) → length old ≡ length other → HasMet old other new 0 (length old) → (k : ℕ) → is_set new k ≡ (is_set old k && is_set other k)
met_bits old other new long m k =
    is_set-word new k ∙ ap (λ n. eqb (bit_at n (k % 64)) 1) (at (k / 64))
    ∙ ap (λ n. eqb n 1) (bit_at_and (get_or old (k / 64) 0) (get_or other (k / 64) 0) (k % 64))
    ∙ eqb-min (bit_at (get_or old (k / 64) 0) (k % 64)) (bit_at (get_or other (k / 64) 0) (k % 64)) (bit_at-lt (get_or old (k / 64) 0) (k % 64)) (bit_at-lt (get_or other (k / 64) 0) (k % 64))
    ∙ (λ i. sym (is_set-word old k) i && sym (is_set-word other k) i)
  where
    at : (w : ℕ) → get_or new w 0 ≡ bit_and (get_or old w 0) (get_or other w 0)
    at w = elim (cases_lt w (length old)) [
      | inl h ↦ m.inside w (omega arith) h
      | inr h ↦
          let none : bit_and (get_or old w 0) (get_or other w 0) ≡ 0 = λ i. bit_and (get_or_past old w 0 h i) (get_or_past other w 0 (omega (arith, h, long)) i) in
          get_or_past new w 0 (omega (arith, h, m.long)) ∙ sym none
    ]

-- ---- one bit is written

written : (words : List ℕ) (w i v : ℕ) (value : Bool) → w < length words → i < 64 → eqb (bit_at v i) 1 ≡ value →
    ((j : ℕ) → j < 64 → j ≢ i → bit_at v j ≡ bit_at (get_or words w 0) j) → HasBit words (set words w v) (64 * w + i) value
written words w i v value known low here others = record {
  long = length-set words w v;
  here =
      let a : (64 * w + i) / 64 ≡ w = omega (arith, low) in
      let b : (64 * w + i) % 64 ≡ i = omega (arith, low) in
      is_set-word (set words w v) (64 * w + i)
      ∙ (λ k. eqb (bit_at (get_or (set words w v) (a k) 0) (b k)) 1)
      ∙ ap (λ n. eqb (bit_at n i) 1) (get_or-set_same words w v 0 known) ∙ here;
  others = λ k apart.
      is_set-word (set words w v) k
      ∙ elim (cases_eq (k / 64) w) [
        | inl same ↦
            let bit : k % 64 ≢ i = λ e. apart (omega (arith, same, e)) in
            ap (λ n. eqb (bit_at (get_or (set words w v) n 0) (k % 64)) 1) same
            ∙ ap (λ n. eqb (bit_at n (k % 64)) 1) (get_or-set_same words w v 0 known)
            ∙ ap (λ n. eqb n 1) (others (k % 64) (omega arith) bit)
            ∙ ap (λ n. eqb (bit_at (get_or words n 0) (k % 64)) 1) (sym same)
        | inr other ↦ ap (λ n. eqb (bit_at n (k % 64)) 1) (get_or-set_other words w (k / 64) v 0 other)
      ]
      ∙ sym (is_set-word words k);
}

pub bit_set : (words : List ℕ) (w i : ℕ) → w < length words → i < 64 → HasBit words (set words w (bit_or (get_or words w 0) (1 * 2 ^ i % 2 ^ 64))) (64 * w + i) true
bit_set words w i known low =
    written words w i _ true known low (eq-eqb _ 1 (bit_at_set_same w64 (get_or words w 0) i low)) (λ j h apart. bit_at_set_other w64 (get_or words w 0) i low j apart)

pub bit_cleared : (words : List ℕ) (w i : ℕ) → w < length words → i < 64 → HasBit words (set words w (bit_and (get_or words w 0) (bit_not w64 (1 * 2 ^ i % 2 ^ 64)))) (64 * w + i) false
bit_cleared words w i known low =
    written words w i _ false known low (ap (λ n. eqb n 1) (bit_at_clear_same w64 (get_or words w 0) i low)) (λ j h apart. bit_at_clear_other w64 (get_or words w 0) i low j h apart)

pub bit_read : (words : List ℕ) (w i : ℕ) → i < 64 → eqb (bit_and (get_or words w 0 / 2 ^ i) 1) 1 ≡ is_set words (64 * w + i)
bit_read words w i low =
    let a : (64 * w + i) / 64 ≡ w = omega (arith, low) in
    let b : (64 * w + i) % 64 ≡ i = omega (arith, low) in
    ap (λ n. eqb n 1) (shr_and_one (get_or words w 0) i)
    ∙ sym (is_set-word words (64 * w + i) ∙ (λ k. eqb (bit_at (get_or words (a k) 0) (b k)) 1))

pub all_set : (words : List ℕ) (k : ℕ) → get_or words (k / 64) 0 ≡ 2 ^ 64 - 1 → is_set words k ≡ true
all_set words k e =
    is_set-word words k ∙ ap (λ n. eqb (bit_at n (k % 64)) 1) e ∙ eq-eqb _ 1 (bit_at_ones 64 (k % 64) (omega arith))

zero_word : (n w : ℕ) (zeros : List ℕ) → zeros ≡ replicate n 0 → get_or zeros w 0 ≡ 0
zero_word n w zeros e =
    elim (cases_lt w n) [
      | inl h ↦ ap (λ (xs : List ℕ). get_or xs w 0) e ∙ get_or-replicate n w 0 0 h
      | inr h ↦ get_or_past zeros w 0 (omega (arith, h, ap length e, length-replicate {A = ℕ} n 0))
    ]

pub none_set : (n : ℕ) (zeros : List ℕ) (k : ℕ) → zeros ≡ replicate n 0 → is_set zeros k ≡ false
none_set n zeros k e =
    is_set-word zeros k
    ∙ ap (λ m. eqb (bit_at m (k % 64)) 1) (zero_word n (k / 64) zeros e)
    ∙ ap (λ m. eqb m 1) (bit_at-zero (k % 64))

-- ---- counting

-- how many of n numbers pass a test
abbrev pub count_in : (ℕ → Bool) → ℕ → ℕ → ℕ
count_in f from n = count_by f (range_with_len from n)

count-cons : (f : ℕ → Bool) (from n : ℕ) → count_in f from (suc n) ≡ cond (f from) 1 0 + count_in f (from + 1) n
count-cons f from n = sum_by-cons (λ x. cond (f x) 1 0) from (range_with_len (from + 1) n)

pub count-alike : (f g : ℕ → Bool) (a b n : ℕ) → ((k : ℕ) → k < n → f (a + k) ≡ g (b + k)) → count_in f a n ≡ count_in g b n
count-alike f g a b zero e = refl
count-alike f g a b (suc n) e =
    let first : f a ≡ g b = ap f (let z : a ≡ a + 0 = omega arith in z) ∙ e 0 (omega arith) ∙ ap g (let z : b + 0 ≡ b = omega arith in z) in
    let rest = count-alike f g (a + 1) (b + 1) n (λ k h.
    ap f (let z : (a + 1) + k ≡ a + suc k = omega arith in z) ∙ e (suc k) (omega (arith, h)) ∙ ap g (let z : b + suc k ≡ (b + 1) + k = omega arith in z)) in
    count-cons f a n ∙ (λ i. cond (first i) 1 0 + rest i) ∙ sym (count-cons g b n)

pub count-none : (f : ℕ → Bool) (a n : ℕ) → ((k : ℕ) → a ≤ k → f k ≡ false) → count_in f a n ≡ 0
count-none f a zero e = refl
count-none f a (suc n) e =
    count-cons f a n ∙ (λ i. cond (e a (omega arith) i) 1 0 + count-none f (a + 1) n (λ k h. e k (omega (arith, h))) i)

pub count-split : (f : ℕ → Bool) (a m n : ℕ) → count_in f a (m + n) ≡ count_in f a m + count_in f (a + m) n
count-split f a zero n =
    (let z : count_in f a (0 + n) ≡ count_in f (a + 0) n = λ i. count_in f ((let y : a ≡ a + 0 = omega arith in y) i) ((let y : 0 + n ≡ n = omega arith in y) i) in z)
    ∙ (let z : count_in f (a + 0) n ≡ 0 + count_in f (a + 0) n = omega arith in z)
count-split f a (suc m) n =
    let next : suc m + n ≡ suc (m + n) = omega arith in
    let rest = count-split f (a + 1) m n in
    let moved : count_in f ((a + 1) + m) n ≡ count_in f (a + suc m) n = ap (λ k. count_in f k n) (let y : (a + 1) + m ≡ a + suc m = omega arith in y) in
    ap (count_in f a) next ∙ count-cons f a (m + n) ∙ omega (arith, rest, moved, count-cons f a m)

-- whether each bit of a word is set
abbrev word_flag : ℕ → ℕ → Bool
word_flag v i = eqb (bit_at v i) 1

abbrev word_flags : ℕ → List Bool
word_flags v = map (word_flag v) (range_with_len 0 64)

bit_back : (n : ℕ) → n < 2 → n ≡ cond (eqb n 1) 1 0
bit_back zero h = refl
bit_back (suc zero) h = refl
bit_back (suc (suc n)) h = absurd (omega (arith, h))

same_flags : (v i : ℕ) → i < 64 → bit_at v i ≡ bit_at (mask_l (word_flags v)) i
same_flags v i h =
    let at : i ≡ get_or (range_with_len 0 64) i 0 = (let z : i ≡ 0 + i = omega arith in z) ∙ sym (get_or-range_with_len 0 64 i 0 h) in
    bit_back (bit_at v i) (bit_at-lt v i)
    ∙ ap (λ n. cond (word_flag v n) 1 0) at
    ∙ ap (λ b. cond b 1 0) (sym (get_or-map (word_flag v) (range_with_len 0 64) i 0 false (omega (arith, h, length-range_with_len 0 64))))
    ∙ sym (bit_mask_l (word_flags v) i)

word_bits : (v : ℕ) → v < 2 ^ 64 → count_ones v ≡ count_in (word_flag v) 0 64
word_bits v fits =
    ap count_ones (same_from_bits_below 64 v (mask_l (word_flags v)) fits (mask_l-lt (word_flags v)) (same_flags v)) ∙ ones-mask_l (word_flag v) (range_with_len 0 64)

pub words_bits : (words : List ℕ) → ((k : ℕ) → get_or words k 0 < 2 ^ 64) → sum_by count_ones words ≡ count_in (is_set words) 0 (64 * length words)
words_bits [] fits = refl
words_bits (v ∷ vs) fits =
    let long : 64 * length (v ∷ vs) ≡ 64 + 64 * length vs = omega arith in
    sum_by-cons count_ones v vs
    ∙ (λ i. (word_bits v (fits 0) ∙ count-alike (word_flag v) (is_set (v ∷ vs)) 0 0 64 first) i + (words_bits vs (λ k. fits (suc k)) ∙ count-alike (is_set vs) (is_set (v ∷ vs)) 0 (0 + 64) (64 * length vs) rest) i)
    ∙ sym (ap (count_in (is_set (v ∷ vs)) 0) long ∙ count-split (is_set (v ∷ vs)) 0 64 (64 * length vs))
  where
    first : (k : ℕ) → k < 64 → eqb (bit_at v (0 + k)) 1 ≡ is_set (v ∷ vs) (0 + k)
    first k h =
        let a : (0 + k) / 64 ≡ 0 = omega (arith, h) in
        let b : (0 + k) % 64 ≡ 0 + k = omega (arith, h) in
        sym (is_set-word (v ∷ vs) (0 + k) ∙ (λ i. eqb (bit_at (get_or (v ∷ vs) (a i) 0) (b i)) 1))

    rest : (k : ℕ) → k < 64 * length vs → is_set vs (0 + k) ≡ is_set (v ∷ vs) ((0 + 64) + k)
    rest k h =
        let a : ((0 + 64) + k) / 64 ≡ suc ((0 + k) / 64) = omega arith in
        let b : ((0 + 64) + k) % 64 ≡ (0 + k) % 64 = omega arith in
        is_set-word vs (0 + k) ∙ sym (is_set-word (v ∷ vs) ((0 + 64) + k) ∙ (λ i. eqb (bit_at (get_or (v ∷ vs) (a i) 0) (b i)) 1))
