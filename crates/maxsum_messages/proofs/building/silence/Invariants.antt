use Rattle.std.proofs.Common.{ℕ, ◌≡◌, ◌<◌, get_or, length, []}
use Rattle.version_graph.specs.Stored.{rows_of}
use Rattle.maxsum_messages.proofs.Rows.{cell}
use Rattle.maxsum_messages.proofs.building.silence.Given as goal

abbrev pub invariant-loop-q : goal.invariant-loop-q
invariant-loop-q g l = record {
  each : length l.said.items ≡ l.q;
  answered : (r : ℕ) → r < l.q → length (get_or l.said.items r []) ≡ length (get_or (rows_of l.senders) r []);
  wide : (r k : ℕ) → r < l.q → k < length (get_or l.said.items r []) → length (get_or (get_or l.said.items r []) k []) ≡ get_or l.sizes r 0;
  zero : (r k j : ℕ) → cell g.W.Weight.none (get_or l.said.items r []) k j ≡ g.W.Weight.none;
}
