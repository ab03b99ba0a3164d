-- First bad lines, for any set P of texts that are made of lines.
--     Begins P front               some text of P begins with front
--     IsFirstBadLine P text line   the text isn't one of P, and line is the number of the first line, counted from 1, with which
--                                  no text of P goes on behind the lines before it; a line that is missing counts as the next one
use Rattle.std.specs.Prelude.{◌≡◌, ℕ, ◌+◌, ◌==◌, Bool, not, List, [], ◌∷◌, ◌++◌, length, IsTrue}
use Rattle.std.specs.List.{list_all}
use Rattle.log_text.specs.Text.{ended_lines, IsLogText}
use Rattle.log_text.specs.declared.fault.LogFault.{LogFault}
use Rattle.log_text.specs.declared.fault.LogFault.TheVariants.{BadLog, Memory}

-- some text of P begins with front
abbrev pub Begins : (List ℕ → Type 0) → List ℕ → Type 0
Begins P front = (rest : List ℕ) × P (front ++ rest)

-- without a newline
abbrev pub is_line : List ℕ → Bool
is_line line = list_all (λ byte. not (byte == 10)) line

-- The text isn't one of P. It begins with whole lines, one fewer than the number, with which some text of P begins, and if
-- one more line stands behind them, then no text of P begins with that one too.
pub record IsFirstBadLine (P : List ℕ → Type 0) (text : List ℕ) (line : ℕ) : Type 0 where
  pub refused : P text → ⊥
  pub before : List (List ℕ)
  pub rest : List ℕ
  pub joined : text ≡ ended_lines before ++ rest
  pub whole : IsTrue (list_all is_line before)
  pub number : line ≡ length before + 1
  pub begun : Begins P (ended_lines before)
  pub ended : (next more : List ℕ) → rest ≡ next ++ 10 ∷ more → IsTrue (is_line next) → Begins P (ended_lines (before ++ next ∷ [])) → ⊥

-- the line that is told is the first bad one of the text
abbrev pub Refuses : List ℕ → LogFault → Type 0
Refuses text (BadLog line) = IsFirstBadLine IsLogText text line
Refuses text Memory = Unit {0}
