-- The table of specifiers, as Pkg's page on compatibility and this project have it: texts, and the intervals
-- that each means.
use Rattle.std.specs.Prelude.{ℕ, List, [], ◌∷◌, map, Option, None, Some, codes}
use Rattle.std.specs.Option.{option_map}
use Rattle.compat_spec.specs.Meaning.{Interval, interval, interval_of}
use Rattle.compat_spec.specs.Specifiers.{specifier_of}

-- the intervals that a text means, one for each part
abbrev pub meaning : List ℕ → Option (List Interval)
meaning text = option_map (λ parts. map interval_of parts) (specifier_of text)

pub record Row : Type 0 where
  pub text : List ℕ
  pub intervals : List Interval

abbrev pub triple : ℕ → ℕ → ℕ → List ℕ
triple a b c = a ∷ b ∷ c ∷ []

-- from the first on, and below the second
abbrev pub up_to : List ℕ → List ℕ → Interval
up_to from to = interval from (Some to)

abbrev pub row : List ℕ → Interval → Row
row text meant = record { text = text; intervals = meant ∷ [] }

abbrev pub carets : List Row
carets =
    row (codes "^1.2.3") (up_to (triple 1 2 3) (triple 2 0 0)) ∷ row (codes "1.2.3") (up_to (triple 1 2 3) (triple 2 0 0)) ∷
    row (codes "^1.2") (up_to (triple 1 2 0) (triple 2 0 0)) ∷ row (codes "^1") (up_to (triple 1 0 0) (triple 2 0 0)) ∷
    row (codes "^0.2.3") (up_to (triple 0 2 3) (triple 0 3 0)) ∷ row (codes "^0.2") (up_to (triple 0 2 0) (triple 0 3 0)) ∷
    row (codes "^0.0.3") (up_to (triple 0 0 3) (triple 0 0 4)) ∷ row (codes "^0.0") (up_to (triple 0 0 0) (triple 0 1 0)) ∷
    row (codes "^0") (up_to (triple 0 0 0) (triple 1 0 0)) ∷ row (codes "0.0.0") (up_to (triple 0 0 0) (triple 0 0 1)) ∷ []

abbrev pub tildes : List Row
tildes =
    row (codes "~1.2.3") (up_to (triple 1 2 3) (triple 1 3 0)) ∷ row (codes "~1.2") (up_to (triple 1 2 0) (triple 1 3 0)) ∷
    row (codes "~1") (up_to (triple 1 0 0) (triple 2 0 0)) ∷ row (codes "~0.2.3") (up_to (triple 0 2 3) (triple 0 3 0)) ∷
    row (codes "~0.0.3") (up_to (triple 0 0 3) (triple 0 0 4)) ∷ row (codes "~0.0") (up_to (triple 0 0 0) (triple 0 1 0)) ∷
    row (codes "~0") (up_to (triple 0 0 0) (triple 1 0 0)) ∷ []

abbrev pub others : List Row
others =
    row (codes "=1.2") (up_to (triple 1 2 0) (triple 1 2 1)) ∷ row (codes ">=1.2") (interval (triple 1 2 0) None) ∷
    row (226 ∷ 137 ∷ 165 ∷ codes "1.2") (interval (triple 1 2 0) None) ∷ row (codes "<1.2") (up_to (triple 0 0 0) (triple 1 2 0)) ∷
    row (codes "1.2.3 - 4.5.6") (up_to (triple 1 2 3) (triple 4 5 7)) ∷ row (codes "1.2.3 - 4.5") (up_to (triple 1 2 3) (triple 4 6 0)) ∷
    row (codes "0.2 - 0") (up_to (triple 0 2 0) (triple 1 0 0)) ∷ row (codes "*") (interval (triple 0 0 0) None) ∷
    record { text = codes "1.2, 2"; intervals = up_to (triple 1 2 0) (triple 2 0 0) ∷ up_to (triple 2 0 0) (triple 3 0 0) ∷ [] } ∷ []
