-- a date that no text can tell
use Rattle.std.proofs.Common.{sym, ap, subst}
use Rattle.project_file.specs.Said.{said as said_project}
use Rattle.pkg_commands.specs.Edit.{seen as seen_edit}
use Rattle.edit_commands.specs.EditDue as spec
use Rattle.edit_commands.proofs.answering.of_resolved.Goals as goal

pub returns-in-Err-BadDate-clause-answer : goal.returns-in-Err-BadDate-clause-answer
returns-in-Err-BadDate-clause-answer c =
    c.bad_date.ensures.answer (spec.question_of (seen_edit c.args.edited.now) c.args.catalog.now.home c.args.book.now) c.args.options.now c.args.resolved.now
    c.requires.resolves (subst (spec.IsDateOf (spec.has_bad_date c.args.options.now.rewrites (said_project c.args.edited.now.project))) c.in-Err-BadDate.field-0-is c.in-Err-BadDate.ensures.date) (ap (λ home. home.project) (sym c.home.ensures))
