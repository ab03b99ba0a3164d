-- What is true of the answers that are due, in the subject's words.
use Rattle.std.specs.Prelude.{◌≡◌, ℕ, List, Some, Result, Ok}
use Rattle.pkg_world.specs.Path.{Path}
use Rattle.pkg_world.specs.Tree.{Files, holds, file_bytes}
use Rattle.pkg_world.specs.declared.place.Place.{Place}
use Rattle.offer_terms.specs.Offered.{Selected}
use Rattle.offer_terms.specs.Booked.{Packed}
use Rattle.offer_terms.specs.Demanded.{Wanted}
use Rattle.offer_terms.specs.Feasible.{IsFeasible}
use Rattle.offer_catalog.specs.SaidCatalog.{SaidCatalog}
use Rattle.offer_book.specs.Scope.{scope}
use Rattle.offer_book.specs.AllOffers.{all_offers}
use Rattle.offer_book.specs.Gathered.{gathered}
use Rattle.book_graph.specs.Limits.{Fits}
use Rattle.refutation_log.specs.declared.node.Node.{Node}
use Rattle.log_text.specs.Text.{IsTextOf}
use Rattle.command_answers.specs.declared.status.Status.{Status}
use Rattle.log_check.specs.LogDue.{refuted_line, Certifies}
use Rattle.check_command.specs.CheckDue.{Claim, Judged, extra_of, judged_of, judged_by, checked_in, IsJudgement, IsDue}

-- no selection is feasible for the offers of the files and the demand of the project, and the file tells a log that shows it
pub record HasNone (files : Files) (place : Place) (path : Path) : Type 0 where
  pub it : Judged
  pub judged : checked_in files place (Some path) ≡ Ok it
  pub none : (s : Selected) → IsFeasible it.offers it.wanted s → ⊥
  pub text : List ℕ
  pub file : file_bytes (holds path files) ≡ Some text
  pub log : List Node
  pub read : IsTextOf text log
  pub certified : Certifies it.book it.wanted log

-- so it is where a line is due on a log, whoever made it
abbrev pub RefutedIsNone : Type 0
RefutedIsNone = (files : Files) (place : Place) (path : Path) (line : List ℕ) → IsDue files place (Some path) (Ok line) → HasNone files place path

-- where the file tells a log that refutes an instance which stands for the book and the demand, and no limit is passed, nothing
-- else is due than that it is refuted
abbrev pub CertificateIsRefuted : Type 0
CertificateIsRefuted = (files : Files) (place : Place) (path : Path) (it : Judged) (text : List ℕ) (log : List Node) (answer : Result (List ℕ) Status)
    → checked_in files place (Some path) ≡ Ok it → Fits it.book it.wanted → file_bytes (holds path files) ≡ Some text → IsTextOf text log → Certifies it.book it.wanted log
    → IsDue files place (Some path) answer → answer ≡ Ok refuted_line

-- ---- what is judged by the book that was gathered for the demand is due by the offers of all packages

abbrev pub JudgedIsDue : Type 0
JudgedIsDue = (files : Files) (catalog : SaidCatalog) (w : Wanted) (claim : Claim) (book : List Packed) (answer : Result (List ℕ) Status)
    → gathered files catalog (scope w) (extra_of claim) ≡ Ok book → IsJudgement files (judged_by book w claim) answer
    → IsJudgement files (judged_of (all_offers files catalog (scope w)) w claim book) answer
