use Rattle.std.proofs.Common.{ℕ, arith}
use Rattle.std.proofs.lemmas.List.Sums.{get_or-le-sum_by}
use Rattle.maxsum_messages.proofs.order.Order.make.Goals as goal

pub returns-clause-room : goal.returns-clause-room
returns-clause-room c = record { room = λ p h. (let part = get_or-le-sum_by (λ (n : ℕ). n) c.args.instance.now.sizes p 0 h in omega (arith, part, c.state_count.ensures.count, c.in_ok-states.ensures.capacity)) }
