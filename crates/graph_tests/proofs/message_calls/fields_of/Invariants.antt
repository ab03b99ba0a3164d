use Rattle.maxsum_messages.specs.Field.{AreFieldsFor}
use Rattle.graph_tests.proofs.message_calls.fields_of.Given as goal

abbrev pub invariant-loop-p : goal.invariant-loop-p
invariant-loop-p l = AreFieldsFor l.instance l.fields

abbrev pub invariant-loop-i : goal.invariant-loop-i
invariant-loop-i l = AreFieldsFor l.instance l.fields
