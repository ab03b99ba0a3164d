-- What is true of the texts of logs.
use Rattle.std.specs.Prelude.{◌≡◌, ◌↔◌, ℕ, List, Ok, Err}
use Rattle.refutation_log.specs.declared.node.Node.{Node}
use Rattle.log_text.specs.Text.{IsPrintable, IsTextOf, IsLogText, text_of}
use Rattle.log_text.specs.Bad.{IsFirstBadLine}
use Rattle.log_text.specs.Meant.{log_meant}

-- a text is that of one log
abbrev pub TextOfOne : Type 0
TextOfOne = (text : List ℕ) (nodes others : List Node) → IsTextOf text nodes → IsTextOf text others → nodes ≡ others

-- what is printed of a printable log reads back as that log
abbrev pub PrintedReadsBack : Type 0
PrintedReadsBack = (nodes others : List Node) → IsPrintable nodes → IsTextOf (text_of nodes) others → others ≡ nodes

-- a text has one first bad line
abbrev pub OneBadLine : Type 0
OneBadLine = (text : List ℕ) (line other : ℕ) → IsFirstBadLine IsLogText text line → IsFirstBadLine IsLogText text other → line ≡ other

-- nodes are meant exactly by their text, and a line is told exactly where it is the first bad one
abbrev pub MeaningIsTheTexts : Type 0
MeaningIsTheTexts = (text : List ℕ) → ((nodes : List Node) → (log_meant text ≡ Ok nodes) ↔ IsTextOf text nodes) × ((line : ℕ) → (log_meant text ≡ Err line) ↔ IsFirstBadLine IsLogText text line)
