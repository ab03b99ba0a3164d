use Rattle.graph_tests.proofs.message_calls.said.Goals as goal

pub rounds-init : goal.rounds-init
rounds-init c = c.reset.ensures.made c.args.instance.now c.round.ensures.made
