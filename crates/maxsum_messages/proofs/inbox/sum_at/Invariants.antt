use Rattle.std.proofs.Common.{◌≡◌, ◌≤◌, drop, length}
use Rattle.maxsum_messages.specs.Post.{heard}
use Rattle.maxsum_messages.proofs.inbox.sum_at.Given as goal

abbrev pub invariant-loop-k : goal.invariant-loop-k
invariant-loop-k g l = record {
  in_range : l.k ≤ length l.said;
  summed : l.sum ≡ heard g.W.Weight.none g.W.Weight.plus l.i (drop l.k l.said);
}

abbrev pub decreases-loop-k : goal.decreases-loop-k
decreases-loop-k g l = l.k
