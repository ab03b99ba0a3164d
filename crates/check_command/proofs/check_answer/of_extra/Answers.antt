-- by the book, or its refusal
use Rattle.offer_terms.specs.Demanded.{wanted}
use Rattle.log_check.specs.Answered.{AnswersBy}
use Rattle.check_command.specs.CheckDue.{judged_by, seen_claim, IsJudgement}
use Rattle.check_command.proofs.PhaseLemmas.{book_refuses, by_gathered, as_before}
use Rattle.check_command.proofs.check_answer.of_extra.Goals as goal

pub returns-in-Ok-clause-answer : goal.returns-in-Ok-clause-answer
returns-in-Ok-clause-answer g c =
    by_gathered c.judged_is_due.ensures (g.S.Store.files c.args.store.now) c.args.catalog.now (wanted c.args.demand.now) (seen_claim c.args.claim) _ c.requires c.in-Ok.book
    c.in-Ok.ensures.told _
    (as_before (λ all answer. AnswersBy (IsJudgement all (judged_by c.in-Ok.book (wanted c.args.demand.now) (seen_claim c.args.claim))) answer) _ _ c.gather_book.ensures.files _ c.of_gathered.ensures.answer)

pub returns-in-Err-clause-answer : goal.returns-in-Err-clause-answer
returns-in-Err-clause-answer g c =
    book_refuses (g.S.Store.files c.args.store.now) c.args.catalog.now (wanted c.args.demand.now) (seen_claim c.args.claim) _ c.requires c.in-Err.status c.in-Err.ensures.told
