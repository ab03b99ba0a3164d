use Rattle.std.proofs.Common.{◌≡◌, ◌<◌, ◌^◌, ◌&&◌, not, true, ℕ, length, get_or}
use Rattle.version_graph.specs.Graph.{is_forbidden}
use Rattle.version_graph.specs.Domain.{has}
use Rattle.maxsum_messages.specs.Greatest.{IsGreatest}
use Rattle.maxsum_messages.specs.Weighed.{AreWeighed}
use Rattle.maxsum_messages.proofs.saying.gather.Given as goal

abbrev pub invariant-loop-j : goal.invariant-loop-j
invariant-loop-j g l = record {
  same : length l.raw.items ≡ length l.initial.raw.items;
  best : (j : ℕ) → j < l.j → has l.domains l.q j ≡ true → (value : ℕ → _) → AreWeighed (has l.domains l.p) value l.weighed →
      IsGreatest g.W.Ord.cmp (λ i. has l.domains l.p i && not (is_forbidden l.instance l.p i l.q j)) value (get_or l.raw.items j g.W.Weight.none);
  small : (j : ℕ) → j < l.j → g.W.Weight.is_within (2 ^ 52) (get_or l.raw.items j g.W.Weight.none);
}
