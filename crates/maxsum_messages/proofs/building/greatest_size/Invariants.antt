use Rattle.std.proofs.Common.{ℕ, ◌<◌, ◌≤◌, get_or}
use Rattle.maxsum_messages.proofs.building.greatest_size.Given as goal

abbrev pub invariant-loop-size : goal.invariant-loop-size
invariant-loop-size l = (p : ℕ) → p < l.size-index → get_or l.sizes p 0 ≤ l.most
