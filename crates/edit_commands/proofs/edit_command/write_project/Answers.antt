-- by the parts of the order
use Rattle.edit_commands.specs.Orders.{said_order}
use Rattle.edit_commands.proofs.EndLemmas.{by_parts}
use Rattle.edit_commands.proofs.edit_command.write_project.Goals as goal

pub returns-clause-answer : goal.returns-clause-answer
returns-clause-answer g c =
    by_parts (g.S.Store.files c.args.store.now) c.args.place.now (said_order c.args.order) c.args.budget _ _ _
    c.parts_of.ensures.begun c.parts_of.ensures.wish c.parts_of.ensures.options _ c.of_parts.ensures.answer
