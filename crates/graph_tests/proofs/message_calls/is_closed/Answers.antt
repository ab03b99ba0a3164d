use Rattle.version_graph.specs.Domain.{has}
use Rattle.graph_tests.proofs.message_calls.is_closed.Goals as goal

pub returns-in-Stable-clause-settled : goal.returns-in-Stable-clause-settled
returns-in-Stable-clause-settled c =
    let answer = c.in-Stable.ensures.answer in
    λ _. record {
      stable = c.closure_is_stable.ensures c.args.instance.now (has c.args.domains.now) (has c.close.new.domains) answer.closure;
      filled = answer.filled;
    }
