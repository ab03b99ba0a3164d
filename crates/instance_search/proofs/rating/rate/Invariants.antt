use Rattle.std.proofs.Common.{ℕ, ◌<◌}
use Rattle.version_graph.specs.Graph.{states}
use Rattle.maxsum_messages.specs.Field.{AreFieldsFor}
use Rattle.instance_search.specs.Rated.{AreRatedAt}
use Rattle.instance_search.proofs.rating.rate.Given as goal

abbrev pub invariant-loop-p : goal.invariant-loop-p
invariant-loop-p l = record {
  shape : AreFieldsFor l.reduced.instance l.fields;
  rated : (q : ℕ) → q < l.p → AreRatedAt l.instance l.reduced.instance l.reduced.back l.fields q (states l.reduced.instance q);
}
