use Rattle.raise_pass.specs.Finishing.{IsReachedSet}
use Rattle.raise_pass.specs.Reached.{is_marked}
use Rattle.raise_pass.specs.Scratch.{IsScratchFor, AreStuck}
use Rattle.raise_pass.proofs.TrimLemmas.{IsCutBelow, IsDue}
use Rattle.raise_pass.proofs.trimming.trim.Given as goal

abbrev pub invariant-loop-p : goal.invariant-loop-p
invariant-loop-p l = record {
  made : IsScratchFor l.instance l.scratch;
  reached : IsReachedSet l.instance l.initial.states.items (is_marked l.scratch.reached.items);
  cut : IsCutBelow l.instance l.initial.states.items l.states.items (is_marked l.scratch.reached.items) l.p;
  due : IsDue l.instance l.initial.states.items (is_marked l.scratch.reached.items) l.p l.trimmed;
  stuck : AreStuck l.instance l.states.items l.scratch.loose.marks.items;
}
