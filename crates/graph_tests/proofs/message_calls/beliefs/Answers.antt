use Rattle.std.proofs.Common.{ℕ, List, ap, arith, length, get_or}
use Rattle.graph_tests.proofs.message_calls.beliefs.Goals as goal

pub belief-requires-clause-known : goal.belief-requires-clause-known
belief-requires-clause-known c = omega (arith, ap length c.requires.messages.sizes)

pub belief-requires-clause-state : goal.belief-requires-clause-state
belief-requires-clause-state c = omega (arith, ap (λ (xs : List ℕ). get_or xs c.loop-p.p 0) c.requires.messages.sizes)

pub belief-requires-clause-field_row : goal.belief-requires-clause-field_row
belief-requires-clause-field_row c = omega (arith, c.requires.fields.each)

pub belief-requires-clause-field_place : goal.belief-requires-clause-field_place
belief-requires-clause-field_place c = omega (arith, c.requires.fields.wide c.loop-p.p (omega arith))
