use Rattle.std.proofs.Common.{◌≡◌, ◌<◌, ℕ, [], length, get_or}
use Rattle.version_graph.specs.Graph.{states}
use Rattle.maxsum_messages.proofs.Rows.{cell}
use Rattle.maxsum_messages.proofs.fields.Fields.make.Given as goal

abbrev pub invariant-loop-p : goal.invariant-loop-p
invariant-loop-p g l = record {
  each : length l.grid ≡ l.p;
  wide : (q : ℕ) → q < length l.grid → length (get_or l.grid q []) ≡ states l.instance q;
  zero : (q i : ℕ) → cell g.W.Weight.none l.grid q i ≡ g.W.Weight.none;
}
