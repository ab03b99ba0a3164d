-- The answer on the log of a file.
use Rattle.std.proofs.Common.{◌≡◌, ℕ, List, Option, Some, None, IfSome, Result, Ok, Err, String, inl, inr, subst}
use Rattle.std.specs.declared.alloc.Global.{Global}
use Rattle.pkg_world.specs.Path.{Path}
use Rattle.pkg_world.specs.Tree.{Files}
use Rattle.offer_terms.specs.Offered.{Offers}
use Rattle.offer_terms.specs.Booked.{Packed}
use Rattle.offer_terms.specs.Demanded.{Wanted}
use Rattle.refutation_log.specs.declared.node.Node.{Node}
use Rattle.log_text.specs.Text.{IsTextOf}
use Rattle.command_answers.specs.declared.status.Status.{Status}
use Rattle.log_check.specs.Answered.{AnswersBy}
use Rattle.log_check.specs.LogDue.{AreNodesJudged, IsLogJudged}
use Rattle.log_check.proofs.AnswerLemmas.{answers_as}

nodes : (o : Offers) (w : Wanted) (book : List Packed) (path : Path) (text : List ℕ) (log : List Node) → IsTextOf text log → (answer : Result (List ℕ) Status)
    → AreNodesJudged o w book path log answer → IsLogJudged o w book path (Some text) answer
nodes o w book path text log read (Ok line) (fits, is) = (fits, record { log = log; read = read; refuted = is })
nodes o w book path text log read (Err status) (inl past) = inl past
nodes o w book path text log read (Err status) (inr (fits, is)) = inr (fits, inr (record { log = log; read = read; unrefuted = is }))

-- the answer by the log that a text tells
pub by_nodes : (o : Offers) (w : Wanted) (book : List Packed) (path : Path) (text : List ℕ) (log : List Node) → IsTextOf text log → (answer : Result (String Global) Status)
    → AnswersBy (AreNodesJudged o w book path log) answer → AnswersBy (IsLogJudged o w book path (Some text)) answer
by_nodes o w book path text log read answer h = answers_as (AreNodesJudged o w book path log) (IsLogJudged o w book path (Some text)) (nodes o w book path text log read) answer h

-- the answer by what the file holds
pub by_file : (told : Option Files) (o : Offers) (w : Wanted) (book : List Packed) (path : Path) (found : Option (List ℕ)) (there : Files → Option (List ℕ))
    → IfSome told (λ files. found ≡ there files) → (answer : Result (String Global) Status) → AnswersBy (IsLogJudged o w book path found) answer
    → IfSome told (λ files. AnswersBy (IsLogJudged o w book path (there files)) answer)
by_file None o w book path found there is answer h = tt
by_file (Some files) o w book path found there is answer h = subst (λ file. AnswersBy (IsLogJudged o w book path file) answer) is h
