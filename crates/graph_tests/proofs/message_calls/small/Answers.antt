use Rattle.std.proofs.Common.{arith}
use Rattle.std.proofs.lemmas.Int.{ints}
use Rattle.graph_tests.proofs.message_calls.small.Goals as goal

pub returns : goal.returns
returns c = (
  record { above = omega (arith, ints); below = omega (arith, ints) },
  (
    record { above = omega (arith, ints); below = omega (arith, ints) },
    record { above = omega (arith, ints); below = omega (arith, ints) },
  ),
)
