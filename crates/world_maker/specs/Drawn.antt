-- What is drawn of a made world. (own rule)
--     starts_from x count       for each package, the version whose numbers meet every range on it
--     needs_at x k count        the dependencies of package k, x being the state at which those of the first are drawn
--     spans_from x starts needs the ranges of a package, x being the state at which they are drawn
use Rattle.std.specs.Prelude.{ℕ, zero, suc, ◌+◌, ◌-◌, ◌*◌, ◌/◌, ◌==◌, nat_lt, not, ◌&&◌, ◌++◌, if◌then◌else◌, List, [], ◌∷◌, map, length, get_or}
use Rattle.std.specs.List.{filter, list_any, range_with_len}
use Rattle.world_maker.specs.declared.ranges.Span.{Span}
use Rattle.world_maker.specs.Draws.{stepped, drawn, state}

abbrev pub starts_from : ℕ → ℕ → List ℕ
starts_from x count = map (λ k. drawn (state x k) 8) (range_with_len 0 count)

-- a list without what stands before in it
abbrev pub distinct : List ℕ → List ℕ
distinct [] = []
distinct (x ∷ xs) = x ∷ filter (λ y. not (y == x)) (distinct xs)

-- a list with one more at its end, where it isn't in it and is below a count
abbrev pub with_need : ℕ → ℕ → List ℕ → List ℕ
with_need count d needs = if nat_lt d count && not (list_any (λ y. y == d) needs) then needs ++ d ∷ [] else needs

-- Up to three numbers among the twenty behind k, drawn after how many they are; those of a known package count, and each
-- once.
abbrev pub candidate : ℕ → ℕ → ℕ → ℕ
candidate x k j = k + 1 + drawn (state x (j + 1)) 20

abbrev pub needs_from : ℕ → ℕ → ℕ → List ℕ
needs_from x k count = distinct (filter (λ d. nat_lt d count) (map (candidate x k) (range_with_len 0 (drawn x 4))))

-- how many draws the dependencies of the packages below k take
unfoldable pub asked : ℕ → ℕ → ℕ
asked x zero = 0
asked x (suc k) = asked x k + (1 + drawn (state x (asked x k)) 4)

abbrev pub needs_at : ℕ → ℕ → ℕ → List ℕ
needs_at x count k = needs_from (state x (asked x k)) k count

abbrev pub all_needs : ℕ → ℕ → List (List ℕ)
all_needs x count = map (needs_at x count) (range_with_len 0 count)

-- a range with the start of its package in it, by two draws
abbrev pub span_at : ℕ → ℕ → Span
span_at x start = record { low = drawn x (start + 1); high = start + drawn (stepped x) (8 - start) }

-- dependency by dependency, eight ranges each
abbrev pub span_of : ℕ → List ℕ → List ℕ → ℕ → Span
span_of x starts needs n = span_at (state x (2 * n)) (get_or starts (get_or needs (n / 8) 0) 0)

abbrev pub spans_from : ℕ → List ℕ → List ℕ → List Span
spans_from x starts needs = map (span_of x starts needs) (range_with_len 0 (8 * length needs))

-- how many draws the ranges of the packages below k take
unfoldable pub ranged : ℕ → ℕ → ℕ → ℕ
ranged x count zero = 0
ranged x count (suc k) = ranged x count k + 16 * length (needs_at x count k)
