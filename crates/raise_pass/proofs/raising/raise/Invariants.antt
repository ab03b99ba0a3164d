use Rattle.version_graph.specs.Graph.{IsSolution}
use Rattle.raise_pass.specs.Finishing.{IsTrimmed}
use Rattle.raise_pass.specs.Scratch.{IsScratchFor, AreStuck, Leads}
use Rattle.raise_pass.specs.Changed.{below_last}
use Rattle.raise_pass.proofs.raising.raise.Given as goal

abbrev pub invariant-loop-p : goal.invariant-loop-p
invariant-loop-p l = record {
  made : IsScratchFor l.instance l.scratch;
  solution : IsSolution l.instance l.states.items;
  trimmed : IsTrimmed l.instance l.states.items;
  stuck : AreStuck l.instance l.states.items l.scratch.loose.marks.items;
  leads : Leads l.instance l.fn.states.items l.states.items;
}

abbrev pub decreases-loop-p : goal.decreases-loop-p
decreases-loop-p l = below_last l.instance l.states.items
