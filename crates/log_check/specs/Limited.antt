-- An answer by a book and a demand, where no limit of the instance that stands for them is passed. (own rule)
--     IsJudgedBy book w Grants Denies answer     a line that is granted, a refusal that is due, or before both the limit that is passed
use Rattle.std.specs.Prelude.{◌≡◌, ◌⊎◌, ℕ, List, Result, Ok, Err}
use Rattle.pkg_world.specs.declared.cause.LimitKind.{LimitKind}
use Rattle.offer_terms.specs.Booked.{Packed}
use Rattle.offer_terms.specs.Demanded.{Wanted}
use Rattle.version_graph.specs.declared.fault.GraphFault.{GraphFault}
use Rattle.version_graph.specs.declared.fault.GraphFault.TheVariants as instance
use Rattle.book_graph.specs.Limits.{IsPast, Fits}
use Rattle.command_answers.specs.declared.status.Status.{Status}
use Rattle.command_answers.specs.declared.status.Status.TheVariants.{Limit, Memory}

-- the status that tells why there is no instance
abbrev pub limit_status : GraphFault → Status
limit_status (instance.Limit kind count) = Limit kind count
limit_status instance.Memory = Memory

-- the instance of the book and the demand passes a limit, and the first one that it passes is told
pub record IsTooMuch (book : List Packed) (w : Wanted) (status : Status) : Type 0 where
  pub kind : LimitKind
  pub count : ℕ
  pub past : IsPast book w (instance.Limit kind count)
  pub told : status ≡ Limit kind count

abbrev pub IsJudgedBy : List Packed → Wanted → (List ℕ → Type 0) → (Status → Type 0) → Result (List ℕ) Status → Type 0
IsJudgedBy book w Grants Denies (Ok line) = Fits book w × Grants line
IsJudgedBy book w Grants Denies (Err status) = IsTooMuch book w status ⊎ (Fits book w × Denies status)
