use Rattle.std.proofs.Common.{◌<◌, ◌^◌, get_or}
use Rattle.std.proofs.lemmas.List.Sorted.{All-permutation}
use Rattle.maxsum_messages.proofs.weighed.weigh.Goals as goal

pub returns-clause-rising : goal.returns-clause-rising
returns-clause-rising g c = record {
  each = All-permutation (λ x. g.W.Weight.is_within (2 ^ 52) x.0 × (x.1 < get_or c.args.inbox.now.sizes c.args.p 0)) c.list.new.weighed.items c.sort_unstable.new.self.items c.sort_unstable.ensures.permutation c.list.ensures.each;
  sorted = c.sort_unstable.ensures.sorted;
}
