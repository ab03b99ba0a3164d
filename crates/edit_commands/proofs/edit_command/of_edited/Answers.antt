-- by the book, or its refusal
use Rattle.pkg_commands.specs.Edit.{seen as seen_edit}
use Rattle.edit_commands.proofs.EndLemmas.{book_refuses, by_gathered}
use Rattle.edit_commands.proofs.edit_command.of_edited.Goals as goal

pub returns-in-Ok-clause-answer : goal.returns-in-Ok-clause-answer
returns-in-Ok-clause-answer g c =
    by_gathered c.found_is_due.ensures (g.S.Store.files c.args.store.now) c.args.catalog.now (seen_edit c.args.edited.now) _ c.make.ensures.items c.in-Ok.book
    c.args.options.now c.in-Ok.ensures.told c.of_book.ensures.sound _ c.of_book.ensures.answer

pub returns-clause-answer : goal.returns-clause-answer
returns-clause-answer g c =
    book_refuses (g.S.Store.files c.args.store.now) c.args.catalog.now (seen_edit c.args.edited.now) _ c.make.ensures.items
    c.args.options.now c.in-Err.status c.in-Err.ensures.told
