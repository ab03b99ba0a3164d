-- Pieces of a list between starts, and what is added behind them.
use Rattle.std.proofs.Common.{◌≡◌, ℕ, zero, suc, ◌+◌, ◌-◌, ◌<◌, ◌≤◌, List, [], ◌∷◌, ◌++◌, length, length-append, map, take, drop, get_or, refl, sym, ◌∙◌, ap, subst, arith, inl, inr}
use Rattle.std.specs.List.{range_with_len, slice_range}
use Rattle.std.proofs.lemmas.Bool.{cases_lt, cases_order}
use Rattle.std.proofs.lemmas.List.{length-map, map-append, get_or-map, get_or_append_left, drop-append-le, take-append-le, length-drop}
use Rattle.std.proofs.lemmas.List.FromFn.{length-range_with_len, get_or-range_with_len}
use Rattle.std.proofs.Math.Seq.{get_or-append_seam, drop-append_seam, take-length, drop-length}
use Rattle.version_graph.specs.Flat.{cut, end_of, AreStarts, Flat, flat_of, no_rows}
use Rattle.version_graph.proofs.ListLemmas.{range-more}

pub length-cut : {T : Type 0} (starts : List ℕ) (xs : List T) → length (cut starts xs) ≡ length starts - 1
unfolding cut
length-cut starts xs = length-map (range_with_len 0 (length starts - 1)) (λ k. slice_range xs (get_or starts k 0) (get_or starts (k + 1) 0)) ∙ length-range_with_len 0 (length starts - 1)

pub get-cut : {T : Type 0} (starts : List ℕ) (xs : List T) (k : ℕ) → k + 1 < length starts → get_or (cut starts xs) k [] ≡ slice_range xs (get_or starts k 0) (get_or starts (k + 1) 0)
unfolding cut
get-cut starts xs k h =
    let f : ℕ → List _ = λ n. slice_range xs (get_or starts n 0) (get_or starts (n + 1) 0) in
    let long = length-range_with_len 0 (length starts - 1) in
    get_or-map f (range_with_len 0 (length starts - 1)) k 0 [] (omega (arith, h, long))
    ∙ ap f (get_or-range_with_len 0 (length starts - 1) k 0 (omega (arith, h)) ∙ omega arith)

-- the starts don't fall
climb : (starts : List ℕ) (n : ℕ) → AreStarts starts n → (i d : ℕ) → i + d < length starts → get_or starts i 0 ≤ get_or starts (i + d) 0
climb starts n s i zero h = omega (arith, ap (λ k. get_or starts k 0) (let e : i + 0 ≡ i = omega arith in e))
climb starts n s i (suc d) h =
    let e : (i + d) + 1 ≡ i + suc d = omega arith in
    omega (arith, climb starts n s i d (omega (arith, h)), s.rising (i + d) (omega (arith, h)), ap (λ k. get_or starts k 0) e)

pub start_le : (starts : List ℕ) (n : ℕ) → AreStarts starts n → (k : ℕ) → k < length starts → get_or starts k 0 ≤ n
start_le starts n s k h =
    let d = (length starts - 1) - k in
    let e : k + d ≡ length starts - 1 = omega (arith, h) in
    omega (arith, climb starts n s k d (omega (arith, h, e)), ap (λ m. get_or starts m 0) e, s.last)

map-alike : {T : Type 0} (f g : ℕ → T) (a n : ℕ) → ((k : ℕ) → a ≤ k → k < a + n → f k ≡ g k) → map f (range_with_len a n) ≡ map g (range_with_len a n)
map-alike f g a zero h = refl
map-alike f g a (suc n) h =
    let here = h a (omega arith) (omega arith) in
    let rest = map-alike f g (a + 1) n (λ k low high. h k (omega (arith, low)) (omega (arith, high))) in
    λ i. here i ∷ rest i

piece-kept : {T : Type 0} (xs ys : List T) (a b : ℕ) → a ≤ b → b ≤ length xs → slice_range (xs ++ ys) a b ≡ slice_range xs a b
piece-kept xs ys a b low high =
    ap (take (b - a)) (drop-append-le a xs ys (omega (arith, low, high)))
    ∙ take-append-le (b - a) (drop a xs) ys (omega (arith, length-drop a xs, low, high))

-- what comes behind changes no piece
pub cut-kept : {T : Type 0} (starts : List ℕ) (xs ys : List T) → AreStarts starts (length xs) → cut starts (xs ++ ys) ≡ cut starts xs
unfolding cut
cut-kept starts xs ys s =
    map-alike (λ k. slice_range (xs ++ ys) (get_or starts k 0) (get_or starts (k + 1) 0)) (λ k. slice_range xs (get_or starts k 0) (get_or starts (k + 1) 0)) 0 (length starts - 1)
    (λ k low high. piece-kept xs ys (get_or starts k 0) (get_or starts (k + 1) 0) (s.rising k (omega (arith, high))) (start_le starts (length xs) s (k + 1) (omega (arith, high))))

-- one more piece
pub cut-ended : {T : Type 0} (starts : List ℕ) (n : ℕ) (xs : List T) → 0 < length starts → cut (starts ++ n ∷ []) xs ≡ cut starts xs ++ slice_range xs (end_of starts) n ∷ []
unfolding cut
cut-ended starts n xs some =
    let m = length starts - 1 in
    let more = starts ++ n ∷ [] in
    let f : ℕ → List _ = λ k. slice_range xs (get_or more k 0) (get_or more (k + 1) 0) in
    let g : ℕ → List _ = λ k. slice_range xs (get_or starts k 0) (get_or starts (k + 1) 0) in
    let long : length more - 1 ≡ suc m = omega (arith, length-append starts (n ∷ []), some) in
    let whole : m + 1 ≡ length starts = omega (arith, some) in
    let at : (k : ℕ) → k < length starts → get_or more k 0 ≡ get_or starts k 0 = λ k h. get_or_append_left starts (n ∷ []) 0 k h in
    let last : f (0 + m) ≡ slice_range xs (end_of starts) n =
    ap f (let e : 0 + m ≡ m = omega arith in e)
    ∙ (λ i. slice_range xs (at m (omega (arith, some)) i) ((ap (λ k. get_or more k 0) whole ∙ get_or-append_seam starts n [] 0) i)) in
    ap (λ k. map f (range_with_len 0 k)) long ∙ ap (map f) (range-more 0 m) ∙ map-append f (range_with_len 0 m) ((0 + m) ∷ [])
    ∙ (λ i. map-alike f g 0 m (λ k low high j. slice_range xs (at k (omega (arith, high)) j) (at (k + 1) (omega (arith, high)) j)) i ++ last i ∷ [])

-- the last piece of a list
pub piece-last : {T : Type 0} (xs ys : List T) → slice_range (xs ++ ys) (length xs) (length xs + length ys) ≡ ys
piece-last xs ys =
    ap (take ((length xs + length ys) - length xs)) (drop-append_seam xs ys)
    ∙ ap (λ n. take n ys) (let e : (length xs + length ys) - length xs ≡ length ys = omega arith in e) ∙ take-length ys

piece-rest : {T : Type 0} (xs : List T) (a : ℕ) → slice_range xs a (length xs) ≡ drop a xs
piece-rest xs a = ap (λ n. take n (drop a xs)) (sym (length-drop a xs)) ∙ take-length (drop a xs)

pub starts-more : (starts : List ℕ) (n m : ℕ) → AreStarts starts n → n ≤ m → AreStarts (starts ++ m ∷ []) m
starts-more starts n m s h =
    let long = length-append starts (m ∷ []) in
    let seam = get_or-append_seam starts m [] 0 in
    let at : (k : ℕ) → k < length starts → get_or (starts ++ m ∷ []) k 0 ≡ get_or starts k 0 = λ k l. get_or_append_left starts (m ∷ []) 0 k l in
    record {
      some = omega (arith, long);
      last = omega (arith, ap (λ k. get_or (starts ++ m ∷ []) k 0) (let e : length (starts ++ m ∷ []) - 1 ≡ length starts = omega (arith, long) in e), seam);
      rising = λ k l. elim (cases_lt (k + 1) (length starts)) [
        | inl b ↦ omega (arith, at k (omega (arith, b)), at (k + 1) b, s.rising k b)
        | inr b ↦
            let e : k + 1 ≡ length starts = omega (arith, l, long, b) in
            omega (arith, at k (omega (arith, e)), start_le starts n s k (omega (arith, e)), h, ap (λ x. get_or (starts ++ m ∷ []) x 0) e, seam)
      ];
    }

pub starts-wider : (starts : List ℕ) (n m : ℕ) → AreStarts starts n → n ≤ m → AreStarts starts m
starts-wider starts n m s h = record { some = s.some; rising = s.rising; last = omega (arith, s.last, h) }

pub end-more : (starts : List ℕ) (m : ℕ) → end_of (starts ++ m ∷ []) ≡ m
end-more starts m =
    ap (λ k. get_or (starts ++ m ∷ []) k 0) (let e : length (starts ++ m ∷ []) - 1 ≡ length starts = omega (arith, length-append starts (m ∷ [])) in e)
    ∙ get_or-append_seam starts m [] 0

-- ---- rows

pub first_start : AreStarts (0 ∷ []) 0
first_start = record { some = omega arith; rising = λ k h. absurd (omega (arith, h)); last = omega arith }

-- before the first row
pub none-cut : {T : Type 0} (xs : List T) → cut (0 ∷ []) xs ≡ []
unfolding cut
none-cut xs = refl

pub rest-pushed : (starts xs : List ℕ) (q : ℕ) → AreStarts starts (length xs) → drop (end_of starts) (xs ++ q ∷ []) ≡ drop (end_of starts) xs ++ q ∷ []
rest-pushed starts xs q s = drop-append-le (end_of starts) xs (q ∷ []) s.last

pub row-ended : (starts xs : List ℕ) → AreStarts starts (length xs) → cut (starts ++ length xs ∷ []) xs ≡ cut starts xs ++ drop (end_of starts) xs ∷ []
row-ended starts xs s = cut-ended starts (length xs) xs s.some ∙ ap (λ r. cut starts xs ++ r ∷ []) (piece-rest xs (end_of starts))

pub rest-ended : (starts xs : List ℕ) → drop (end_of (starts ++ length xs ∷ [])) xs ≡ []
rest-ended starts xs = ap (λ n. drop n xs) (end-more starts (length xs)) ∙ drop-length xs
