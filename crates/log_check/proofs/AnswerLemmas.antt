-- Answers that are due by two relations.
use Rattle.std.proofs.Common.{ℕ, List, Result, Ok, Err, String, string_bytes}
use Rattle.std.specs.declared.alloc.Global.{Global}
use Rattle.command_answers.proofs.Endings.{refuses_as}
use Rattle.command_answers.specs.declared.status.Status.{Status}
use Rattle.log_check.specs.Answered.{AnswersBy}

-- an answer that is due by one relation is due by another
pub answers_as : (One Other : Result (List ℕ) Status → Type 0) → ((answer : Result (List ℕ) Status) → One answer → Other answer) → (answer : Result (String Global) Status)
    → AnswersBy One answer → AnswersBy Other answer
answers_as One Other is (Ok text) h = is (Ok (string_bytes text)) h
answers_as One Other is (Err status) h = refuses_as One Other (λ refusal. is (Err refusal)) status h
