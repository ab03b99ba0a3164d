use Rattle.std.proofs.Common.{inl, inr, arith, Err}
use Rattle.std.proofs.lemmas.Bool.{cases_lt}
use Rattle.std.proofs.lemmas.List.Sorted.{searched}
use Rattle.maxsum_messages.proofs.Sums.{rising-ordered}
use Rattle.maxsum_messages.proofs.inbox.place_of.Goals as goal

pub returns-in-Err : goal.returns-in-Err
returns-in-Err c k h at =
    let s = searched c.args.senders.now c.args.q (Err c.in-Err.field-0) c.in-Err.ensures.position (rising-ordered c.args.senders.now c.requires) in
    elim (cases_lt k c.in-Err.field-0) [
      | inl l ↦ omega (arith, s.1 k l, at)
      | inr l ↦ omega (arith, s.2 k l h, at)
    ]
