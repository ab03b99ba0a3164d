use Rattle.version_graph.specs.Copied.{HasPlaces, IsCopied, IsCopiedTo}
use Rattle.version_graph.proofs.graph.Instance.restricted.Given as goal

abbrev pub invariant-loop-p : goal.invariant-loop-p
invariant-loop-p l = record {
  places : HasPlaces l.part l.builder;
  copied : IsCopied l.self l.part l.builder;
  to : IsCopiedTo l.self l.part l.builder l.p;
}
