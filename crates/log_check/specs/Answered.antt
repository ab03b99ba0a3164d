-- What an answer says where it is due by a relation.
use Rattle.std.specs.Prelude.{ℕ, List, Result, Ok, MatchResult, String, string_bytes}
use Rattle.std.specs.declared.alloc.Global.{Global}
use Rattle.command_answers.specs.declared.status.Status.{Status}
use Rattle.command_answers.specs.Endings.{RefusesBy}

-- the text that is due, or the refusal
abbrev pub AnswersBy : (Result (List ℕ) Status → Type 0) → Result (String Global) Status → Type 0
AnswersBy IsDue answer = MatchResult answer (λ text. IsDue (Ok (string_bytes text))) (RefusesBy IsDue)
