-- What is known of what is drawn.
use Rattle.std.proofs.Common.{◌≡◌, ℕ, ◌*◌, ◌<◌, Bool, true, false, not, ◌==◌, nat_lt, cond, List, [], ◌∷◌, map, length, get_or, Vec, Global, refl, sym, ap, ◌∙◌, arith}
use Rattle.std.proofs.Math.ListN.{get_or-map}
use Rattle.std.proofs.lemmas.Bool.Decides.{nat_tests}
use Rattle.std.proofs.lemmas.List.{length-map}
use Rattle.std.proofs.lemmas.List.FromFn.{length-map-range_with_len, get_or-map-range_with_len}
use Rattle.std.specs.List.{AllByRecursion, filter, range_with_len}
use Rattle.world_maker.specs.Draws.{drawn, state}
use Rattle.world_maker.specs.Drawn.{starts_from, distinct, candidate, needs_from, needs_at, all_needs, spans_from, span_of}

starts_below : (x : ℕ) (ks : List ℕ) → AllByRecursion (λ start. start < 8) (map (λ k. drawn (state x k) 8) ks)
starts_below x [] = tt
starts_below x (k ∷ ks) = (omega arith, starts_below x ks)

pub starts_small : (x count : ℕ) → AllByRecursion (λ start. start < 8) (starts_from x count)
starts_small x count = starts_below x (range_with_len 0 count)

pub length_starts : (x count : ℕ) → length (starts_from x count) ≡ count
length_starts x count = length-map-range_with_len (λ k. drawn (state x k) 8) 0 count

filter_all : (P : ℕ → Type 0) (test : ℕ → Bool) (xs : List ℕ) → AllByRecursion P xs → AllByRecursion P (filter test xs)
filter_all P test [] all = tt
filter_all P test (x ∷ xs) all = kept (test x) (filter_all P test xs all.1)
  where
    kept : (b : Bool) → AllByRecursion P (filter test xs) → AllByRecursion P (cond b (x ∷ filter test xs) (filter test xs))
    kept true rest = (all.0, rest)
    kept false rest = rest

distinct_all : (P : ℕ → Type 0) (xs : List ℕ) → AllByRecursion P xs → AllByRecursion P (distinct xs)
distinct_all P [] all = tt
distinct_all P (x ∷ xs) all = (all.0, filter_all P (λ y. not (y == x)) (distinct xs) (distinct_all P xs all.1))

is_below : (d count : ℕ) → nat_lt d count ≡ true → d < count
is_below d count e = grind (arith, nat_tests)

filter_below : (count : ℕ) (xs : List ℕ) → AllByRecursion (λ d. d < count) (filter (λ d. nat_lt d count) xs)
filter_below count [] = tt
filter_below count (x ∷ xs) = kept (nat_lt x count) refl (filter_below count xs)
  where
    kept : (b : Bool) → nat_lt x count ≡ b → AllByRecursion (λ d. d < count) (filter (λ d. nat_lt d count) xs)
        → AllByRecursion (λ d. d < count) (cond b (x ∷ filter (λ d. nat_lt d count) xs) (filter (λ d. nat_lt d count) xs))
    kept true e rest = (is_below x count e, rest)
    kept false e rest = rest

pub needs_known : (x k count : ℕ) → AllByRecursion (λ d. d < count) (needs_from x k count)
needs_known x k count = distinct_all (λ d. d < count) _ (filter_below count (map (candidate x k) (range_with_len 0 (drawn x 4))))

-- the rows that the code holds
abbrev pub Rows : Type 0
Rows = List (Vec ℕ Global)

pub length_rows : (all : Rows) (x count : ℕ) → map (λ needs. needs.items) all ≡ all_needs x count → length all ≡ count
length_rows all x count same = sym (length-map all (λ needs. needs.items)) ∙ ap length same ∙ length-map-range_with_len (needs_at x count) 0 count

pub row_at : (all : Rows) (x count k : ℕ) (d : Vec ℕ Global) → map (λ needs. needs.items) all ≡ all_needs x count → k < count → (get_or all k d).items ≡ needs_at x count k
row_at all x count k d same inside =
    sym (get_or-map (λ (needs : Vec ℕ Global). needs.items) all k d)
    ∙ ap (λ rows. get_or rows k d.items) same
    ∙ get_or-map-range_with_len (needs_at x count) 0 count k k d.items inside (omega arith)

pub length_spans : (x : ℕ) (starts needs : List ℕ) → length (spans_from x starts needs) ≡ 8 * length needs
length_spans x starts needs = length-map-range_with_len (span_of x starts needs) 0 (8 * length needs)
