use Rattle.std.proofs.Common.{sym, subst}
use Rattle.raise_pass.specs.Changed.{AreStates, IsNextRaise}
use Rattle.raise_pass.proofs.TrimLemmas.{solution-states}
use Rattle.raise_pass.proofs.FinishLemmas.{leads-none, trim-leads}
use Rattle.raise_pass.proofs.raising.raise.Goals as goal

pub loop-p-init : goal.loop-p-init
loop-p-init c = record {
  made = c.trim.ensures.made;
  solution = c.trim.ensures.solution;
  trimmed = c.trim.ensures.trimmed;
  stuck = c.trim.ensures.stuck;
  leads = trim-leads c.args.instance.now c.args.states.now.items c.args.states.now.items _ c.trim.result (leads-none _ _) c.trim.ensures.result;
}

pub next_raise-requires-clause-made : goal.next_raise-requires-clause-made
next_raise-requires-clause-made c = subst (AreStates c.args.instance.now) (sym c.items.ensures) (solution-states c.args.instance.now c.loop-p.states.items c.loop-p.invariant.solution)

pub raise_one-requires-clause-next : goal.raise_one-requires-clause-next
raise_one-requires-clause-next c = subst (λ xs. IsNextRaise c.args.instance.now xs c.in-Some.p c.in-Some.j) c.items.ensures c.in-Some.ensures.next

pub loop-p-smaller : goal.loop-p-smaller
loop-p-smaller c = c.raise_one.ensures.below

pub loop-p-preserved : goal.loop-p-preserved
loop-p-preserved c =
    let raised = c.raise_one.ensures in
    record {
      made = raised.made;
      solution = raised.solution;
      trimmed = raised.trimmed;
      stuck = raised.stuck;
      leads = raised.leads c.args.states.now.items c.loop-p.invariant.leads;
    }
