-- Rows as lists: what is asked of them, place by place, and how the bits of words tell it.
use Rattle.std.proofs.Common.{◌≡◌, ◌≢◌, ℕ, zero, suc, ◌+◌, ◌*◌, ◌/◌, ◌%◌, ◌-◌, ◌<◌, ◌≤◌, Bool, true, false, not, cond, ◌&&◌, ◌||◌, MatchBool, List, [], ◌∷◌, ◌++◌, take, drop, length, get_or, set, map, replicate, refl, sym, ◌∙◌, ap, arith, inl, inr, eqb, count_by}
use Rattle.std.specs.List.{range_with_len}
use Rattle.std.specs.Int.{bit_at}
use Rattle.std.proofs.Math.Seq.{take-append_seam}
use Rattle.std.proofs.Math.Nat.{mul-le-mul_right, suc-mul}
use Rattle.std.proofs.lemmas.Bool.{cases_lt, cases_eq, cases_order, cases_Bool}
use Rattle.std.proofs.lemmas.List.{ext_get_or, get_or_past, get_or-map, get_or-set_same, get_or-set_other, length-set, length-map, length-replicate, get_or-replicate}
use Rattle.std.proofs.lemmas.List.FromFn.{length-range_with_len, get_or-range_with_len, length-map-range_with_len}
use Rattle.std.proofs.lemmas.List.Sums.{sum_by-cons}
use Rattle.bit_rows.specs.Rows.{row_at, truth_at, both, any_both, agree_under}
use Rattle.bit_rows.specs.Stored.{is_set, bits_from, words_of, rows_from, IsRow, IsTable, ShareBit, ShareNone, DifferInBit, DifferInNone, HasBit}
use Rattle.bit_rows.proofs.BitLemmas.{is_set-word, count_in, count-split, count-none}

-- ---- the plain definitions, place by place

pub truth-both : (xs ys : List Bool) (k : ℕ) → truth_at (both xs ys) k ≡ (truth_at xs k && truth_at ys k)
unfolding both
truth-both [] ys k = get_or_past [] k false (omega arith) ∙ sym (ap (λ b. b && get_or ys k false) (get_or_past [] k false (omega arith)))
truth-both (x ∷ xs) [] k =
    get_or_past [] k false (omega arith) ∙ sym (ap (λ b. get_or (x ∷ xs) k false && b) (get_or_past [] k false (omega arith)) ∙ off (get_or (x ∷ xs) k false))
  where
    off : (a : Bool) → (a && false) ≡ false
    off true = refl
    off false = refl
truth-both (x ∷ xs) (y ∷ ys) zero = refl
truth-both (x ∷ xs) (y ∷ ys) (suc k) = truth-both xs ys k

pub length-both : (xs ys : List Bool) → length xs ≡ length ys → length (both xs ys) ≡ length ys
unfolding both
length-both [] ys e = e
length-both (x ∷ xs) [] e = absurd (omega (arith, e))
length-both (x ∷ xs) (y ∷ ys) e = ap suc (length-both xs ys (omega (arith, e)))

or_true : (a b : Bool) → b ≡ true → (a || b) ≡ true
or_true true b e = refl
or_true false b e = e

-- a place that is true in both
pub any_from : (xs ys : List Bool) (k : ℕ) → truth_at xs k ≡ true → truth_at ys k ≡ true → any_both xs ys ≡ true
unfolding any_both
any_from [] ys k e f = let none : get_or [] k false ≡ false = get_or_past [] k false (omega arith) in absurd (cc)
any_from (x ∷ xs) [] k e f = let none : get_or [] k false ≡ false = get_or_past [] k false (omega arith) in absurd (cc)
any_from (x ∷ xs) (y ∷ ys) zero e f = λ i. ((e i && f i) || any_both xs ys)
any_from (x ∷ xs) (y ∷ ys) (suc k) e f = or_true (x && y) (any_both xs ys) (any_from xs ys k e f)

-- no place that is true in both
pub any_none : (xs ys : List Bool) → ((k : ℕ) → truth_at xs k ≡ true → truth_at ys k ≡ true → ⊥) → any_both xs ys ≡ false
unfolding any_both
any_none [] ys none = refl
any_none (x ∷ xs) [] none = refl
any_none (x ∷ xs) (y ∷ ys) none =
    (λ i. first x y (none 0) i || any_both xs ys) ∙ any_none xs ys (λ k. none (suc k))
  where
    first : (a b : Bool) → (a ≡ true → b ≡ true → ⊥) → (a && b) ≡ false
    first true true h = absurd (h refl refl)
    first true false h = refl
    first false b h = refl

-- where a place is true in both, there is one
pub any_some : (xs ys : List Bool) → any_both xs ys ≡ true → (k : ℕ) × (truth_at xs k ≡ true) × (truth_at ys k ≡ true)
unfolding any_both
any_some [] ys e = absurd (cc)
any_some (x ∷ xs) [] e = absurd (cc)
any_some (true ∷ xs) (true ∷ ys) e = (0, refl, refl)
any_some (true ∷ xs) (false ∷ ys) e = let r = any_some xs ys e in (suc r.0, r.1, r.2)
any_some (false ∷ xs) (y ∷ ys) e = let r = any_some xs ys e in (suc r.0, r.1, r.2)

same : Bool → Bool → Bool
same a b = cond a b (not b)

same_refl : (a b : Bool) → a ≡ b → cond a b (not b) ≡ true
same_refl true true e = refl
same_refl true false e = cc
same_refl false true e = cc
same_refl false false e = refl

same_apart : (a b : Bool) → a ≢ b → cond a b (not b) ≡ false
same_apart true true e = absurd (e refl)
same_apart true false e = refl
same_apart false true e = refl
same_apart false false e = absurd (e refl)

-- two rows that agree in every place of the mask
pub agree_from : (xs ys ms : List Bool) → ((k : ℕ) → truth_at ms k ≡ true → truth_at xs k ≡ truth_at ys k) → agree_under xs ys ms ≡ true
unfolding agree_under
agree_from [] ys ms e = refl
agree_from (x ∷ xs) [] ms e = refl
agree_from (x ∷ xs) (y ∷ ys) [] e = refl
agree_from (x ∷ xs) (y ∷ ys) (true ∷ ms) e = (λ i. same_refl x y (e 0 refl) i && agree_under xs ys ms) ∙ agree_from xs ys ms (λ k. e (suc k))
agree_from (x ∷ xs) (y ∷ ys) (false ∷ ms) e = agree_from xs ys ms (λ k. e (suc k))

-- two rows that differ in a place of the mask
pub agree_not : (xs ys ms : List Bool) (k : ℕ) → k < length xs → k < length ys → truth_at ms k ≡ true → truth_at xs k ≢ truth_at ys k → agree_under xs ys ms ≡ false
unfolding agree_under
agree_not [] ys ms k h l m e = absurd (omega (arith, h))
agree_not (x ∷ xs) [] ms k h l m e = absurd (omega (arith, l))
agree_not (x ∷ xs) (y ∷ ys) [] k h l m e = let none : get_or [] k false ≡ false = get_or_past [] k false (omega arith) in absurd (cc)
agree_not (x ∷ xs) (y ∷ ys) (n ∷ ms) zero h l m e = λ i. (not (m i) || same_apart x y e i) && agree_under xs ys ms
agree_not (x ∷ xs) (y ∷ ys) (n ∷ ms) (suc k) h l m e =
    ap (λ b. (not n || cond x y (not y)) && b) (agree_not xs ys ms k (omega (arith, h)) (omega (arith, l)) m e) ∙ off (not n || cond x y (not y))
  where
    off : (a : Bool) → (a && false) ≡ false
    off true = refl
    off false = refl

-- agreement, read back
pub agree_read : (xs ys ms : List Bool) → agree_under xs ys ms ≡ true → (k : ℕ) → k < length xs → k < length ys → truth_at ms k ≡ true → truth_at xs k ≡ truth_at ys k
agree_read xs ys ms e k h l m =
    elim (cases_Bool (cond (truth_at xs k) (truth_at ys k) (not (truth_at ys k)))) [
      | inl s ↦ equal (truth_at xs k) (truth_at ys k) s
      | inr d ↦ let no = agree_not xs ys ms k h l m (unequal (truth_at xs k) (truth_at ys k) d) in absurd (cc)
    ]
  where
    equal : (a b : Bool) → cond a b (not b) ≡ true → a ≡ b
    equal true true e = refl
    equal true false e = cc
    equal false true e = cc
    equal false false e = refl

    unequal : (a b : Bool) → cond a b (not b) ≡ false → a ≢ b
    unequal true true e s = absurd (cc)
    unequal true false e s = absurd (cc)
    unequal false true e s = absurd (cc)
    unequal false false e s = absurd (cc)

-- ---- bits as rows

-- what is written through a slice of all of a vector
pub back : (n : ℕ) (new old : List ℕ) → n ≡ length new → take n (new ++ drop (length new) old) ≡ new
back n new old e = ap (λ k. take k (new ++ drop (length new) old)) e ∙ take-append_seam new (drop (length new) old)

pub length-bits : (words : List ℕ) (start n : ℕ) → length (bits_from words start n) ≡ n
length-bits words start n = length-map-range_with_len (is_set words) start n

pub truth-bits : (words : List ℕ) (start n k : ℕ) → k < n → truth_at (bits_from words start n) k ≡ is_set words (start + k)
truth-bits words start n k h =
    get_or-map (is_set words) (range_with_len start n) k 0 false (omega (arith, h, length-range_with_len start n))
    ∙ ap (is_set words) (get_or-range_with_len start n k 0 h)

pub truth_first : (words : List ℕ) (n k : ℕ) → k < n → truth_at (bits_from words 0 n) k ≡ is_set words k
truth_first words n k h = truth-bits words 0 n k h ∙ ap (is_set words) (let z : 0 + k ≡ k = omega arith in z)

-- a place of a row that is true is one of the row
truth_known : (words : List ℕ) (n k : ℕ) → truth_at (bits_from words 0 n) k ≡ true → (k < n) × (is_set words k ≡ true)
truth_known words n k e =
    elim (cases_lt k n) [
      | inl h ↦ (h, sym (truth_first words n k h) ∙ e)
      | inr h ↦ let past : truth_at (bits_from words 0 n) k ≡ false = get_or_past (bits_from words 0 n) k false (omega (arith, h, length-bits words 0 n)) in absurd (cc)
    ]

pub bits-alike : (a b : List ℕ) (s t n : ℕ) → ((k : ℕ) → k < n → is_set a (s + k) ≡ is_set b (t + k)) → bits_from a s n ≡ bits_from b t n
bits-alike a b s t n e = ext_get_or false (bits_from a s n) (bits_from b t n) (length-bits a s n ∙ sym (length-bits b t n))
    (λ k h. let below : k < n = omega (arith, h, length-bits a s n) in truth-bits a s n k below ∙ e k below ∙ sym (truth-bits b t n k below))

pub bits-empty : (words : List ℕ) (s n : ℕ) → ((k : ℕ) → is_set words k ≡ false) → bits_from words s n ≡ replicate n false
bits-empty words s n e = ext_get_or false (bits_from words s n) (replicate n false) (length-bits words s n ∙ sym (length-replicate n false))
    (λ k h. let below : k < n = omega (arith, h, length-bits words s n) in truth-bits words s n k below ∙ e (s + k) ∙ sym (get_or-replicate n k false false below))

-- a bit that is written is a place that is written
pub bits-written : (old new : List ℕ) (start n place : ℕ) (value : Bool) (bit : ℕ) → bit ≡ start + place → HasBit old new bit value → place < n →
    bits_from new start n ≡ set (bits_from old start n) place value
bits-written old new start n place value bit at h inside =
    ext_get_or false (bits_from new start n) (set (bits_from old start n) place value)
    (length-bits new start n ∙ sym (length-set (bits_from old start n) place value ∙ length-bits old start n))
    (λ k l.
    let below : k < n = omega (arith, l, length-bits new start n) in
    truth-bits new start n k below
    ∙ elim (cases_eq k place) [
      | inl e ↦
          ap (is_set new) (let z : start + k ≡ bit = omega (arith, at, e) in z) ∙ h.here
          ∙ sym (ap (λ j. get_or (set (bits_from old start n) place value) j false) e
          ∙ get_or-set_same (bits_from old start n) place value false (omega (arith, inside, length-bits old start n)))
      | inr e ↦
          h.others (start + k) (λ s. e (omega (arith, at, s)))
          ∙ sym (get_or-set_other (bits_from old start n) place k value false e ∙ truth-bits old start n k below)
    ])

-- bits elsewhere are as they were
pub bits-kept : (old new : List ℕ) (start n bit : ℕ) (value : Bool) → HasBit old new bit value → ((k : ℕ) → k < n → start + k ≢ bit) →
    bits_from new start n ≡ bits_from old start n
bits-kept old new start n bit value h apart = bits-alike new old start start n (λ k l. h.others (start + k) (apart k l))

-- ---- what is told of the words

pub any-told : (a b : List ℕ) (n : ℕ) (r : Bool) → IsRow b n → MatchBool r (ShareBit a b) (ShareNone a b) → r ≡ any_both (bits_from a 0 n) (bits_from b 0 n)
any-told a b n true row s =
    let inside : s.bit < n = elim (cases_lt s.bit n) [ inl h ↦ h | inr h ↦ let off = row.clear s.bit h in let on = s.second in absurd (cc) ] in
    sym (any_from (bits_from a 0 n) (bits_from b 0 n) s.bit (truth_first a n s.bit inside ∙ s.first) (truth_first b n s.bit inside ∙ s.second))
any-told a b n false row none =
    sym (any_none (bits_from a 0 n) (bits_from b 0 n) (λ k e f. none k (truth_known a n k e).1 (truth_known b n k f).1))

pub equal-told : (a b mask : List ℕ) (n : ℕ) (r : Bool) → IsRow mask n → MatchBool r (DifferInBit a b mask) (DifferInNone a b mask) →
    not r ≡ agree_under (bits_from a 0 n) (bits_from b 0 n) (bits_from mask 0 n)
equal-told a b mask n true row d =
    let inside : d.bit < n = elim (cases_lt d.bit n) [ inl h ↦ h | inr h ↦ let off = row.clear d.bit h in let on = d.masked in absurd (cc) ] in
    sym (agree_not (bits_from a 0 n) (bits_from b 0 n) (bits_from mask 0 n) d.bit (omega (arith, inside, length-bits a 0 n)) (omega (arith, inside, length-bits b 0 n))
    (truth_first mask n d.bit inside ∙ d.masked) (λ e. d.apart (sym (truth_first a n d.bit inside) ∙ e ∙ truth_first b n d.bit inside)))
equal-told a b mask n false row none =
    sym (agree_from (bits_from a 0 n) (bits_from b 0 n) (bits_from mask 0 n) (λ k m.
    let known = truth_known mask n k m in
    truth_first a n k known.0 ∙ none k known.1 ∙ sym (truth_first b n k known.0)))

pub both-told : (old other new : List ℕ) (n : ℕ) → ((k : ℕ) → is_set new k ≡ (is_set old k && is_set other k)) →
    bits_from new 0 n ≡ both (bits_from other 0 n) (bits_from old 0 n)
both-told old other new n e =
    ext_get_or false (bits_from new 0 n) (both (bits_from other 0 n) (bits_from old 0 n))
    (length-bits new 0 n ∙ sym (length-both (bits_from other 0 n) (bits_from old 0 n) (length-bits other 0 n ∙ sym (length-bits old 0 n)) ∙ length-bits old 0 n))
    (λ k h.
    let below : k < n = omega (arith, h, length-bits new 0 n) in
    truth_first new n k below ∙ e k ∙ flip (is_set old k) (is_set other k)
    ∙ (λ i. sym (truth_first other n k below) i && sym (truth_first old n k below) i)
    ∙ sym (truth-both (bits_from other 0 n) (bits_from old 0 n) k))
  where
    flip : (a b : Bool) → (a && b) ≡ (b && a)
    flip true true = refl
    flip true false = refl
    flip false true = refl
    flip false false = refl

pub kept-row : (old other new : List ℕ) (n : ℕ) → IsRow old n → length new ≡ length old → ((k : ℕ) → is_set new k ≡ (is_set old k && is_set other k)) → IsRow new n
kept-row old other new n row long e = record {
  narrow = row.narrow;
  long = long ∙ row.long;
  clear = λ k h. e k ∙ ap (λ b. b && is_set other k) (row.clear k h);
}

pub written-row : (old new : List ℕ) (n place bit : ℕ) (value : Bool) → IsRow old n → HasBit old new bit value → bit ≡ place → place < n → IsRow new n
written-row old new n place bit value row h at inside = record {
  narrow = row.narrow;
  long = h.long ∙ row.long;
  clear = λ k past. h.others k (λ e. omega (arith, e, at, inside, past)) ∙ row.clear k past;
}

count-map : (f : ℕ → Bool) (xs : List ℕ) → count_by (λ b. b) (map f xs) ≡ count_by f xs
count-map f [] = refl
count-map f (x ∷ xs) =
    sum_by-cons (λ (b : Bool). cond b 1 0) (f x) (map f xs) ∙ ap (λ n. cond (f x) 1 0 + n) (count-map f xs) ∙ sym (sum_by-cons (λ y. cond (f y) 1 0) x xs)

pub count-told : (words : List ℕ) (n : ℕ) → IsRow words n → count_in (is_set words) 0 (64 * length words) ≡ count_by (λ b. b) (bits_from words 0 n)
count-told words n row =
    let rest = 64 * length words - n in
    let split : 64 * length words ≡ n + rest = omega (arith, row.long) in
    ap (count_in (is_set words) 0) split ∙ count-split (is_set words) 0 n rest
    ∙ (let none : count_in (is_set words) (0 + n) rest ≡ 0 = count-none (is_set words) (0 + n) rest (λ k h. row.clear k (omega (arith, h))) in
    let z : count_in (is_set words) 0 n + count_in (is_set words) (0 + n) rest ≡ count_in (is_set words) 0 n = omega (arith, none) in z)
    ∙ sym (count-map (is_set words) (range_with_len 0 n))

-- ---- the rows of a table

pub length-rows : (words : List ℕ) (stride width rows : ℕ) → length (rows_from words stride width rows) ≡ rows
length-rows words stride width rows = length-map-range_with_len (λ r. bits_from words (64 * (r * stride)) width) 0 rows

pub row-of : (words : List ℕ) (stride width rows r : ℕ) → r < rows → row_at (rows_from words stride width rows) r ≡ bits_from words (64 * (r * stride)) width
row-of words stride width rows r h =
    get_or-map (λ n. bits_from words (64 * (n * stride)) width) (range_with_len 0 rows) r 0 [] (omega (arith, h, length-range_with_len 0 rows))
    ∙ ap (λ n. bits_from words (64 * (n * stride)) width) (get_or-range_with_len 0 rows r 0 h ∙ (let z : 0 + r ≡ r = omega arith in z))

-- a row ends where the next one begins, or before
pub row_room : (a b s : ℕ) → a < b → a * s + s ≤ b * s
row_room a b s h = omega (arith, suc-mul a s, mul-le-mul_right {m = suc a} {n = b} s (omega (arith, h)))

-- places of two rows are two bits
apart_rows : (a b s k place width : ℕ) → a ≢ b → k < width → place < width → width ≤ 64 * s → 64 * (a * s) + k ≢ 64 * (b * s) + place
apart_rows a b s k place width apart below inside fits e =
    elim (cases_order a b) [
      | inl same ↦ apart same
      | inr o ↦ elim o [
        | inl l ↦ omega (arith, row_room a b s l, below, fits, e)
        | inr l ↦ omega (arith, row_room b a s l, inside, fits, e)
      ]
    ]

-- a bit that is written is a place of one row that is written
pub rows-written : (old new : List ℕ) (stride width rows r place : ℕ) (value : Bool) (bit : ℕ) → bit ≡ 64 * (r * stride) + place → HasBit old new bit value →
    r < rows → place < width → width ≤ 64 * stride →
    rows_from new stride width rows ≡ set (rows_from old stride width rows) r (set (row_at (rows_from old stride width rows) r) place value)
rows-written old new stride width rows r place value bit at h known inside fits =
    ext_get_or [] (rows_from new stride width rows) (set (rows_from old stride width rows) r (set (row_at (rows_from old stride width rows) r) place value))
    (length-rows new stride width rows ∙ sym (length-set (rows_from old stride width rows) r _ ∙ length-rows old stride width rows))
    (λ a l.
    let below : a < rows = omega (arith, l, length-rows new stride width rows) in
    row-of new stride width rows a below
    ∙ elim (cases_eq a r) [
      | inl e ↦
          ap (λ n. bits_from new (64 * (n * stride)) width) e
          ∙ bits-written old new (64 * (r * stride)) width place value bit at h inside
          ∙ ap (λ xs. set xs place value) (sym (row-of old stride width rows r known))
          ∙ sym (ap (λ n. get_or (set (rows_from old stride width rows) r (set (row_at (rows_from old stride width rows) r) place value)) n []) e
          ∙ get_or-set_same (rows_from old stride width rows) r _ [] (omega (arith, known, length-rows old stride width rows)))
      | inr e ↦
          bits-kept old new (64 * (a * stride)) width bit value h (λ k k_below s. apart_rows a r stride k place width e k_below inside fits (s ∙ at))
          ∙ sym (get_or-set_other (rows_from old stride width rows) r a _ [] e ∙ row-of old stride width rows a below)
    ])

pub rows-empty : (words : List ℕ) (stride width rows : ℕ) → ((k : ℕ) → is_set words k ≡ false) → rows_from words stride width rows ≡ replicate rows (replicate width false)
rows-empty words stride width rows e =
    ext_get_or [] (rows_from words stride width rows) (replicate rows (replicate width false)) (length-rows words stride width rows ∙ sym (length-replicate rows (replicate width false)))
    (λ r l.
    let below : r < rows = omega (arith, l, length-rows words stride width rows) in
    row-of words stride width rows r below ∙ bits-empty words (64 * (r * stride)) width e ∙ sym (get_or-replicate rows r (replicate width false) [] below))

pub rows-filled : (old new : List ℕ) (stride width rows : ℕ) → length old ≡ rows * stride → width ≤ 64 * stride → ((k : ℕ) → k < 64 * length old → is_set new k ≡ true) →
    rows_from new stride width rows ≡ map (λ xs. map (λ b. true) xs) (rows_from old stride width rows)
rows-filled old new stride width rows long fits e =
    ext_get_or [] (rows_from new stride width rows) (map (λ xs. map (λ b. true) xs) (rows_from old stride width rows))
    (length-rows new stride width rows ∙ sym (length-map (rows_from old stride width rows) (λ xs. map (λ b. true) xs) ∙ length-rows old stride width rows))
    (λ r l.
    let below : r < rows = omega (arith, l, length-rows new stride width rows) in
    row-of new stride width rows r below
    ∙ filled r below
    ∙ ap (map (λ b. true)) (sym (row-of old stride width rows r below))
    ∙ sym (get_or-map (λ xs. map (λ b. true) xs) (rows_from old stride width rows) r [] [] (omega (arith, below, length-rows old stride width rows))))
  where
    filled : (r : ℕ) → r < rows → bits_from new (64 * (r * stride)) width ≡ map (λ b. true) (bits_from old (64 * (r * stride)) width)
    filled r below =
        ext_get_or false (bits_from new (64 * (r * stride)) width) (map (λ b. true) (bits_from old (64 * (r * stride)) width))
        (length-bits new (64 * (r * stride)) width ∙ sym (length-map (bits_from old (64 * (r * stride)) width) (λ b. true) ∙ length-bits old (64 * (r * stride)) width))
        (λ k l.
        let inside : k < width = omega (arith, l, length-bits new (64 * (r * stride)) width) in
        truth-bits new (64 * (r * stride)) width k inside
        ∙ e (64 * (r * stride) + k) (omega (arith, row_room r rows stride below, long, fits, inside))
        ∙ sym (get_or-map (λ b. true) (bits_from old (64 * (r * stride)) width) k false false (omega (arith, inside, length-bits old (64 * (r * stride)) width))))

-- where a place of a row stands among the bits of the words
pub word_place : (start place : ℕ) → 64 * (start + place / 64) + place % 64 ≡ 64 * start + place
word_place start place = omega arith

pub wide_row : (words : List ℕ) (stride width rows r : ℕ) → r < rows → length (row_at (rows_from words stride width rows) r) ≡ width
wide_row words stride width rows r h = ap length (row-of words stride width rows r h) ∙ length-bits words (64 * (r * stride)) width

-- a row of a table that a caller names by its number
module _ (words : List ℕ) (stride width rows : ℕ) (now : List (List Bool)) (view : rows_from words stride width rows ≡ now) (table : IsTable words stride width rows)
    (r : ℕ) (h : r < length now) where
  pub known : r < rows
  known = omega (arith, h, ap length view, length-rows words stride width rows)

  pub at : row_at now r ≡ bits_from words (64 * (r * stride)) width
  at = ap (λ t. row_at t r) (sym view) ∙ row-of words stride width rows r known

  pub wide : length (row_at now r) ≡ width
  wide = ap length at ∙ length-bits words (64 * (r * stride)) width

  pub stride-of : words_of (length (row_at now r)) ≡ stride
  stride-of = ap words_of wide ∙ sym table.stride_is

  pub start : (s : ℕ) → s ≡ r * words_of (length (row_at now r)) → s ≡ r * stride
  start s e = e ∙ ap (λ n. r * n) stride-of

  pub room : r * stride + stride ≤ length words
  room = omega (arith, row_room r rows stride known, table.long)

  -- the word of a place of the row is one of the words
  pub word_known : (s place : ℕ) → s ≡ r * words_of (length (row_at now r)) → place < length (row_at now r) → s + place / 64 < length words
  word_known s place e inside = omega (arith, start s e, room, table.stride_is, inside, wide)

  -- where a place of the row stands among the bits
  pub bit_is : (s place : ℕ) → s ≡ r * words_of (length (row_at now r)) → 64 * (s + place / 64) + place % 64 ≡ 64 * (r * stride) + place
  bit_is s place e = ap (λ n. 64 * (n + place / 64) + place % 64) (start s e) ∙ word_place (r * stride) place

  -- the words of the row hold it
  pub held : (part : List ℕ) (s : ℕ) → s ≡ r * words_of (length (row_at now r)) → ((k : ℕ) → k < stride → get_or part k 0 ≡ get_or words (s + k) 0) →
      bits_from part 0 (length (row_at now r)) ≡ row_at now r
  held part s e each =
      ap (bits_from part 0) wide
      ∙ bits-alike part words 0 (64 * (r * stride)) width (λ k h.
      let a : (0 + k) / 64 ≡ k / 64 = omega arith in
      let b : (0 + k) % 64 ≡ k % 64 = omega arith in
      let x : (64 * (r * stride) + k) / 64 ≡ r * stride + k / 64 = omega arith in
      let y : (64 * (r * stride) + k) % 64 ≡ k % 64 = omega arith in
      is_set-word part (0 + k)
      ∙ (λ i. eqb (bit_at (get_or part (a i) 0) (b i)) 1)
      ∙ ap (λ n. eqb (bit_at n (k % 64)) 1) (each (k / 64) (omega (arith, h, table.stride_is)) ∙ ap (λ n. get_or words (n + k / 64) 0) (start s e))
      ∙ sym (is_set-word words (64 * (r * stride) + k) ∙ (λ i. eqb (bit_at (get_or words (x i) 0) (y i)) 1)))
      ∙ sym at

  pub alike : (a : ℕ) → a < length now → length (row_at now a) ≡ length (row_at now r)
  alike a l = (ap (λ t. length (row_at t a)) (sym view) ∙ wide_row words stride width rows a (omega (arith, l, ap length view, length-rows words stride width rows))) ∙ sym wide
