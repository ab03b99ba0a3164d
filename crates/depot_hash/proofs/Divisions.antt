-- The long division by steps of a register.
use Rattle.std.proofs.Common.{◌≡◌, ℕ, zero, suc, ◌+◌, ◌-◌, ◌*◌, ◌/◌, ◌%◌, ◌^◌, ◌<◌, ◌==◌, Bool, true, false, not, if◌then◌else◌, List, [], ◌∷◌, ◌++◌, map, length, replicate, refl, ap, sym, ◌∙◌, length-append, lit<, arith}
use Rattle.std.proofs.lemmas.List.{length-replicate}
use Rattle.std.specs.List.{All, flat_map}
use Rattle.std.proofs.lemmas.Bool.Decides.{nat_tests}
use Rattle.std.proofs.lemmas.List.Elements.{All-head, All-tail}
use Rattle.std.proofs.lemmas.List.Concat.{flat_map-append}
use Rattle.std.proofs.lemmas.Nat.{xor_comm, xor_shr, xor_mod, xor_lt, xor_block, pow_pos}
use Rattle.std.proofs.Math.Nat.{pow-suc}
use Rattle.std.specs.Int.Bits.{bit_xor, xor_assoc, xor_self, xor_zero_l, xor_zero_r}
use Rattle.depot_hash.specs.Checksum.{low_bits, number_of, added, divisor, divided, message_of, crc32c}
use Rattle.depot_hash.specs.Registers.{shifted, shifts, eight_shifts, next_register, registers}

-- ---- lists of bits

odd_of : (p q : ℕ) → p < 2 → q < 2 → (if p == 1 then not (q == 1) else (q == 1)) ≡ (bit_xor p q == 1)
odd_of zero zero h k = refl
odd_of zero (suc zero) h k = refl
odd_of (suc zero) zero h k = refl
odd_of (suc zero) (suc zero) h k = refl
odd_of (suc (suc p)) q h k = absurd (omega arith)
odd_of zero (suc (suc q)) h k = absurd (omega arith)
odd_of (suc zero) (suc (suc q)) h k = absurd (omega arith)

odd_xor : (a b : ℕ) → (if a % 2 == 1 then not (b % 2 == 1) else (b % 2 == 1)) ≡ (bit_xor a b % 2 == 1)
odd_xor a b = odd_of (a % 2) (b % 2) (omega arith) (omega arith) ∙ ap (λ n. n == 1) (sym (xor_mod a b 1))

half_xor : (a b : ℕ) → bit_xor a b / 2 ≡ bit_xor (a / 2) (b / 2)
half_xor a b = xor_shr a b 1

low_xor : (w a b : ℕ) → added (low_bits w a) (low_bits w b) ≡ low_bits w (bit_xor a b)
unfolding added low_bits
low_xor zero a b = refl
low_xor (suc w) a b = rw (low_xor w (a / 2) (b / 2), odd_xor a b, ← half_xor a b)

flip_assoc : (x y z : Bool) → (if (if x then not y else y) then not z else z) ≡ (if x then not (if y then not z else z) else (if y then not z else z))
flip_assoc true true true = refl
flip_assoc true true false = refl
flip_assoc true false z = refl
flip_assoc false y z = refl

added_assoc : (xs ys zs : List Bool) → added (added xs ys) zs ≡ added xs (added ys zs)
unfolding added
added_assoc [] ys zs = refl
added_assoc (x ∷ xs) [] zs = refl
added_assoc (x ∷ xs) (y ∷ ys) [] = refl
added_assoc (x ∷ xs) (y ∷ ys) (z ∷ zs) = rw (added_assoc xs ys zs, flip_assoc x y z)

added_pad : (xs ys : List Bool) → length xs < length ys → added (xs ++ false ∷ []) ys ≡ added xs ys
unfolding added
added_pad [] [] h = absurd (omega arith)
added_pad [] (y ∷ ys) h = refl
added_pad (x ∷ xs) [] h = absurd (omega arith)
added_pad (x ∷ xs) (y ∷ ys) h = let less : length xs < length ys = omega arith in rw (added_pad xs ys less)

low_pad : (w n : ℕ) → n < 2 ^ w → low_bits (suc w) n ≡ low_bits w n ++ false ∷ []
unfolding low_bits
low_pad zero n h = let none : n ≡ 0 = omega arith in rw none
low_pad (suc w) n h = let less : n / 2 < 2 ^ w = omega arith in rw (low_pad w (n / 2) less)

low_length : (w n : ℕ) → length (low_bits w n) ≡ w
unfolding low_bits
low_length zero n = refl
low_length (suc w) n = rw (low_length w (n / 2))

unset : (x : Bool) → (if x then not false else false) ≡ x
unset true = refl
unset false = refl

added_zeros : (xs : List Bool) → added xs (replicate (length xs) false) ≡ xs
unfolding added
added_zeros [] = refl
added_zeros (x ∷ xs) = rw (unset x, added_zeros xs)

low_number : (w n : ℕ) → n < 2 ^ w → number_of (low_bits w n) ≡ n
unfolding number_of low_bits
low_number zero n h = omega arith
low_number (suc w) n h =
    let less : n / 2 < 2 ^ w = omega arith in
    rw (low_number w (n / 2) less) (grind (arith, nat_tests))

low_not : (w n : ℕ) → n < 2 ^ w → map not (low_bits w n) ≡ low_bits w (2 ^ w - 1 - n)
unfolding low_bits
low_not zero n h = refl
low_not (suc w) n h =
    let less : n / 2 < 2 ^ w = omega arith in
    let half : (2 ^ suc w - 1 - n) / 2 ≡ 2 ^ w - 1 - n / 2 = omega arith in
    let odd : not (n % 2 == 1) ≡ ((2 ^ suc w - 1 - n) % 2 == 1) = grind (arith, nat_tests) in
    rw (low_not w (n / 2) less, half, odd)

-- ---- a step of the division

abbrev chosen : ℕ → Bool → ℕ
chosen r top = if top then r else 0

-- a register after one bit of the message
abbrev fed : ℕ → Bool → ℕ → ℕ
fed r m c = bit_xor (c / 2) (chosen r (if c % 2 == 1 then not m else m))

abbrev run : ℕ → List Bool → ℕ → ℕ
run r [] c = c
run r (m ∷ ms) c = run r ms (fed r m c)

-- what is left of the division once the front is gone
front_gone : (w r half : ℕ) (rest : List Bool) (top : Bool) → divisor ≡ low_bits (suc w) r → half < 2 ^ w → w < length rest
    → (if top then added divisor (added (low_bits w half) rest) else added (low_bits w half) rest) ≡ added (low_bits (suc w) (bit_xor half (chosen r top))) rest
front_gone w r half rest false d h long =
    let short : length (low_bits w half) < length rest = rw (low_length w half) long in
    rw (xor_zero_r half, low_pad w half h, added_pad (low_bits w half) rest short)
front_gone w r half rest true d h long =
    let short : length (low_bits w half) < length rest = rw (low_length w half) long in
    rw (xor_comm half r, ← low_xor (suc w) r half, ← d, added_assoc divisor (low_bits (suc w) half) rest, low_pad w half h, added_pad (low_bits w half) rest short)

chosen_below : (w r : ℕ) (top : Bool) → r < 2 ^ w → chosen r top < 2 ^ w
chosen_below w r true h = h
chosen_below w r false h = omega arith

fed_below : (w r c : ℕ) (m : Bool) → r < 2 ^ suc w → c < 2 ^ suc w → fed r m c < 2 ^ suc w
fed_below w r c m h k = xor_lt (suc w) (c / 2) _ (omega arith) (chosen_below (suc w) r (if c % 2 == 1 then not m else m) h)

last_zeros : (w c : ℕ) → divided 0 (added (low_bits (suc w) c) (replicate (suc w) false)) ≡ low_bits (suc w) c
unfolding divided
last_zeros w c = let all = added_zeros (low_bits (suc w) c) in rw low_length at all

long_rest : (w : ℕ) (ms : List Bool) → w < length (ms ++ replicate (suc w) false)
long_rest w ms = rw (length-append ms (replicate (suc w) false), length-replicate (suc w) false) (omega arith)

divided_front : (w : ℕ) (m : Bool) (c : ℕ) (rest : List Bool) (steps : ℕ)
    → divided (suc steps) (added (low_bits (suc w) c) (m ∷ rest))
    ≡ divided steps (if (if c % 2 == 1 then not m else m) then added divisor (added (low_bits w (c / 2)) rest) else added (low_bits w (c / 2)) rest)
unfolding divided added low_bits
divided_front w m c rest steps = refl

divided_once : (w r : ℕ) (m : Bool) (c : ℕ) (rest : List Bool) (steps : ℕ) → divisor ≡ low_bits (suc w) r → c / 2 < 2 ^ w → w < length rest
    → divided (suc steps) (added (low_bits (suc w) c) (m ∷ rest)) ≡ divided steps (added (low_bits (suc w) (fed r m c)) rest)
divided_once w r m c rest steps d h long =
    divided_front w m c rest steps ∙ ap (divided steps) (front_gone w r (c / 2) rest (if c % 2 == 1 then not m else m) d h long)

-- the division of a message, by the register
divisions : (w r : ℕ) (ms : List Bool) (c : ℕ) → divisor ≡ low_bits (suc w) r → r < 2 ^ suc w → c < 2 ^ suc w
    → divided (length ms) (added (low_bits (suc w) c) (ms ++ replicate (suc w) false)) ≡ low_bits (suc w) (run r ms c)
divisions w r [] c d h k = last_zeros w c
divisions w r (m ∷ ms) c d h k =
    divided_once w r m c (ms ++ replicate (suc w) false) (length ms) d (omega arith) (long_rest w ms) ∙ divisions w r ms (fed r m c) d h (fed_below w r c m h k)

bits_append : (r : ℕ) (ms ns : List Bool) (c : ℕ) → run r (ms ++ ns) c ≡ run r ns (run r ms c)
bits_append r [] ns c = refl
bits_append r (m ∷ ms) ns c = bits_append r ms ns (fed r m c)

-- ---- bytes

shifted_fed : (c b : ℕ) → shifted (bit_xor c b) ≡ bit_xor (fed 0x82F63B78 (b % 2 == 1) c) (b / 2)
unfolding shifted
shifted_fed c b =
    let turned = xor_assoc (c / 2) (b / 2) (chosen 0x82F63B78 (if c % 2 == 1 then not (b % 2 == 1) else (b % 2 == 1))) in
    let other = xor_assoc (c / 2) (chosen 0x82F63B78 (if c % 2 == 1 then not (b % 2 == 1) else (b % 2 == 1))) (b / 2) in
    rw (half_xor c b, ← odd_xor c b, turned, other, xor_comm (b / 2) _)

byte_run : (k b c : ℕ) → b < 2 ^ k → run 0x82F63B78 (low_bits k b) c ≡ shifts k (bit_xor c b)
unfolding low_bits shifts
byte_run zero b c h = let none : b ≡ 0 = omega arith in rw (none, xor_zero_r c)
byte_run (suc k) b c h = byte_run k (b / 2) (fed 0x82F63B78 (b % 2 == 1) c) (omega arith) ∙ ap (shifts k) (sym (shifted_fed c b))

message_length : (bytes : List ℕ) → length (message_of bytes) ≡ 8 * length bytes
unfolding message_of
message_length [] = refl
message_length (b ∷ bytes) = rw (length-append (low_bits 8 b) (flat_map (low_bits 8) bytes), low_length 8 b) (omega (arith, message_length bytes))

message_run : (bytes : List ℕ) (c : ℕ) → All (λ byte. byte < 2 ^ 8) bytes → run 0x82F63B78 (message_of bytes) c ≡ registers c bytes
unfolding message_of next_register eight_shifts
message_run [] c h = refl
message_run (b ∷ bytes) c h =
    bits_append 0x82F63B78 (low_bits 8 b) (flat_map (low_bits 8) bytes) c
    ∙ rw (byte_run 8 b c (All-head (λ byte. byte < 2 ^ 8) b bytes h)) (message_run bytes (next_register c b) (All-tail (λ byte. byte < 2 ^ 8) b bytes h))

-- ---- the table

spread : (a b c d : ℕ) → bit_xor (bit_xor a b) (bit_xor c d) ≡ bit_xor (bit_xor a c) (bit_xor b d)
spread a b c d = xor_assoc a b (bit_xor c d) ∙ ap (bit_xor a) (sym (xor_assoc b c d) ∙ ap (λ n. bit_xor n d) (xor_comm b c) ∙ xor_assoc c b d) ∙ sym (xor_assoc a c (bit_xor b d))

chosen_xor : (r : ℕ) (x y : Bool) → chosen r (if x then not y else y) ≡ bit_xor (chosen r x) (chosen r y)
chosen_xor r true true = sym (xor_self r)
chosen_xor r true false = sym (xor_zero_r r)
chosen_xor r false y = sym (xor_zero_l (chosen r y))

shifted_xor : (a b : ℕ) → shifted (bit_xor a b) ≡ bit_xor (shifted a) (shifted b)
unfolding shifted
shifted_xor a b =
    rw (half_xor a b, ← odd_xor a b, chosen_xor 0x82F63B78 (a % 2 == 1) (b % 2 == 1))
    (spread (a / 2) (b / 2) (chosen 0x82F63B78 (a % 2 == 1)) (chosen 0x82F63B78 (b % 2 == 1)))

shifts_xor : (k a b : ℕ) → shifts k (bit_xor a b) ≡ bit_xor (shifts k a) (shifts k b)
unfolding shifts
shifts_xor zero a b = refl
shifts_xor (suc k) a b = rw (shifted_xor a b) (shifts_xor k (shifted a) (shifted b))

even_shifted : (a : ℕ) → shifted (a * 2) ≡ a
unfolding shifted
even_shifted a =
    let even : (a * 2 % 2 == 1) ≡ false = grind (arith, nat_tests) in
    let half : a * 2 / 2 ≡ a = omega arith in
    rw (even, half, xor_zero_r a)

high_shifts : (k a : ℕ) → shifts k (a * 2 ^ k) ≡ a
unfolding shifts
high_shifts zero a = omega arith
high_shifts (suc k) a =
    let twice : a * 2 ^ suc k ≡ a * 2 ^ k * 2 = rw (pow-suc 2 k) (omega arith) in
    rw (twice, even_shifted (a * 2 ^ k)) (high_shifts k a)

parts_apart : (k a b : ℕ) → b < 2 ^ k → a * 2 ^ k + b ≡ bit_xor (a * 2 ^ k) b
parts_apart k a b h =
    let block = xor_block k a 0 0 b (omega (arith, pow_pos k)) h in
    let left : a * 2 ^ k + 0 ≡ a * 2 ^ k = omega arith in
    let right : 0 * 2 ^ k + b ≡ b = omega arith in
    sym (rw (xor_zero_r a, xor_zero_l b, left, right) at block)

-- a byte step by the table: eight shifts of the low byte, and the rest moved down
pub table_step : (c b : ℕ) → b < 2 ^ 8 → bit_xor (c / 2 ^ 8) (eight_shifts (bit_xor (c % 2 ^ 8) b)) ≡ next_register c b
unfolding next_register eight_shifts
table_step c b h =
    let low : bit_xor (c % 2 ^ 8) b < 2 ^ 8 = xor_lt 8 (c % 2 ^ 8) b (omega arith) h in
    let whole : c ≡ bit_xor (c / 2 ^ 8 * 2 ^ 8) (c % 2 ^ 8) = omega (arith, parts_apart 8 (c / 2 ^ 8) (c % 2 ^ 8) (omega arith)) in
    let halves : bit_xor c b ≡ bit_xor (c / 2 ^ 8 * 2 ^ 8) (bit_xor (c % 2 ^ 8) b) =
    ap (λ n. bit_xor n b) whole ∙ xor_assoc (c / 2 ^ 8 * 2 ^ 8) (c % 2 ^ 8) b in
    sym (ap (shifts 8) halves ∙ shifts_xor 8 (c / 2 ^ 8 * 2 ^ 8) (bit_xor (c % 2 ^ 8) b) ∙ ap (λ n. bit_xor n (shifts 8 (bit_xor (c % 2 ^ 8) b))) (high_shifts 8 (c / 2 ^ 8)))

-- ---- the checksum

reflected : divisor ≡ low_bits 32 0x82F63B78
unfolding divisor low_bits
reflected = refl

run_below : (ms : List Bool) (c : ℕ) → c < 2 ^ 32 → run 0x82F63B78 ms c < 2 ^ 32
run_below [] c h = h
run_below (m ∷ ms) c h = run_below ms (fed 0x82F63B78 m c) (fed_below 31 0x82F63B78 c m (lit< tt) h)

-- a checksum, bit by bit
by_bits : (start : ℕ) (bytes : List ℕ) → start < 2 ^ 32 → crc32c start bytes ≡ 2 ^ 32 - 1 - run 0x82F63B78 (message_of bytes) (2 ^ 32 - 1 - start)
unfolding crc32c
by_bits start bytes h =
    let begins : 2 ^ 32 - 1 - start < 2 ^ 32 = omega arith in
    let ends = run_below (message_of bytes) (2 ^ 32 - 1 - start) begins in
    rw (low_not 32 start h, ← message_length bytes, divisions 31 0x82F63B78 (message_of bytes) (2 ^ 32 - 1 - start) reflected (lit< tt) begins, low_not 32 _ ends)
    (low_number 32 _ (omega arith))

-- a checksum, byte by byte
pub checksum_is : (start : ℕ) (bytes : List ℕ) → start < 2 ^ 32 → All (λ byte. byte < 2 ^ 8) bytes
    → crc32c start bytes ≡ 2 ^ 32 - 1 - registers (2 ^ 32 - 1 - start) bytes
checksum_is start bytes h k = by_bits start bytes h ∙ rw (message_run bytes (2 ^ 32 - 1 - start) k)

message_append : (a b : List ℕ) → message_of (a ++ b) ≡ message_of a ++ message_of b
unfolding message_of
message_append a b = flat_map-append (low_bits 8) a b

pub checksum_goes_on : (start : ℕ) (a b : List ℕ) → start < 2 ^ 32 → crc32c (crc32c start a) b ≡ crc32c start (a ++ b)
checksum_goes_on start a b h =
    let begins : 2 ^ 32 - 1 - start < 2 ^ 32 = omega arith in
    let between = run_below (message_of a) (2 ^ 32 - 1 - start) begins in
    let stands = by_bits start a h in
    let low : crc32c start a < 2 ^ 32 = omega arith in
    let turned : 2 ^ 32 - 1 - crc32c start a ≡ run 0x82F63B78 (message_of a) (2 ^ 32 - 1 - start) = omega arith in
    by_bits (crc32c start a) b low
    ∙ rw (turned, ← bits_append 0x82F63B78 (message_of a) (message_of b) (2 ^ 32 - 1 - start), ← message_append a b)
    (sym (by_bits start (a ++ b) h))
