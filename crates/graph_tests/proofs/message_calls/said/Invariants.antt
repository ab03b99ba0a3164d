use Rattle.maxsum_messages.specs.Post.{IsPostFor}
use Rattle.graph_tests.proofs.message_calls.said.Given as goal

abbrev pub invariant-rounds : goal.invariant-rounds
invariant-rounds l = IsPostFor l.instance l.messages
