use Rattle.std.proofs.Common.{◌≡◌, ◌<◌, ◌+◌, true, false, not, ◌&&◌, cond, eqb, set, arith, sym, subst, ◌∙◌, get_or, length}
use Rattle.version_graph.specs.Graph.{packages, states, last}
use Rattle.raise_pass.specs.Finishing.{IsReachedSet}
use Rattle.raise_pass.specs.Reached.{is_marked}
use Rattle.raise_pass.proofs.TrimLemmas.{IsDue, cut-none, due-none, cut-more, due-now, due-later, cut-states, cut-whole, cut-trimmed, cut-solves, cut-below, trim-answer, solution-states}
use Rattle.raise_pass.proofs.trimming.trim.Goals as goal
use Rattle.raise_pass.proofs.trimming.trim.Goals.{then-drop_unreached, else-drop_unreached}

pub find_reached-requires-clause-states : goal.find_reached-requires-clause-states
find_reached-requires-clause-states c = λ p known.
    subst (λ xs. get_or xs p 0 < states c.args.instance.now p) (sym c.items.ensures) ((solution-states c.args.instance.now c.args.states.now.items c.requires.solution).known p known)

pub drop_unreached-requires-clause-made : goal.drop_unreached-requires-clause-made
drop_unreached-requires-clause-made c =
    let inv = c.loop-p.invariant in
    cut-states c.args.instance.now c.args.states.now.items c.loop-p.states.items (is_marked c.loop-p.scratch.reached.items) c.loop-p.p c.packages-p-end.ensures.sound
    (solution-states c.args.instance.now c.args.states.now.items c.requires.solution) inv.cut

pub loop-p-init : goal.loop-p-init
loop-p-init c = record {
  made = record { reached = c.find_reached.ensures.marks; room = c.find_reached.ensures.room; loose = c.requires.made.loose };
  reached = subst (λ xs. IsReachedSet c.args.instance.now xs (is_marked c.find_reached.new.reached.items)) c.items.ensures c.find_reached.ensures.reached;
  cut = cut-none c.args.instance.now c.args.states.now.items _;
  due = due-none c.args.instance.now c.args.states.now.items _;
  stuck = c.requires.stuck;
}

pub loop-p-preserved : goal.loop-p-preserved
loop-p-preserved c =
    let inv = c.loop-p.invariant in
    let g = c.args.instance.now in
    let old = c.args.states.now.items in
    let mid = c.loop-p.states.items in
    let marks = c.loop-p.scratch.reached.items in
    let p = c.loop-p.p in
    let inside : p < length mid = (let a = inv.cut.each in let b = c.requires.solution.each in omega (arith, a, b)) in
    let known : p < packages g = omega arith in
    let seen : c.deref.result.now ≡ marks = c.deref.ensures.value in
    record {
      made = record { reached = inv.made.reached; room = inv.made.room; loose = c.drop_unreached.ensures.loose };
      reached = inv.reached;
      cut = cut-more g old mid _ (is_marked marks) p inv.cut inside (subst (λ m. c.drop_unreached.new.states.items ≡ set mid p (cond (is_marked m p) (get_or mid p 0) (last g p))) seen c.drop_unreached.ensures.states);
      due = elim c.if-drop_unreached.branch [
        | then-drop_unreached w ↦
            let due = subst (λ m. (not (is_marked m p) && not (eqb (get_or mid p 0) (last g p))) ≡ true) seen (sym c.drop_unreached.ensures.result ∙ w.if-drop_unreached.true) in
            subst (IsDue g old (is_marked marks) (p + 1)) (sym w.trimmed-is) (due-now g old mid (is_marked marks) p inv.cut known due)
        | else-drop_unreached w ↦
            let kept = subst (λ m. (not (is_marked m p) && not (eqb (get_or mid p 0) (last g p))) ≡ false) seen (sym c.drop_unreached.ensures.result ∙ w.if-drop_unreached.false) in
            subst (IsDue g old (is_marked marks) (p + 1)) (sym w.trimmed-is) (due-later g old mid (is_marked marks) p c.loop-p.trimmed inv.cut kept inv.due)
      ];
      stuck = c.drop_unreached.ensures.stuck;
    }

pub returns-clause-result : goal.returns-clause-result
returns-clause-result c =
    let inv = c.loop-p.invariant in
    trim-answer c.args.instance.now c.args.states.now.items c.loop-p.states.items (is_marked c.loop-p.scratch.reached.items) c.loop-p.p c.loop-p.trimmed inv.reached inv.cut (omega arith) c.requires.solution.each inv.due

pub returns-clause-trimmed : goal.returns-clause-trimmed
returns-clause-trimmed c =
    let inv = c.loop-p.invariant in
    cut-trimmed c.args.instance.now c.args.states.now.items _ (is_marked c.loop-p.scratch.reached.items) (cut-whole c.args.instance.now c.args.states.now.items _ _ c.loop-p.p inv.reached inv.cut (omega arith))

pub returns-clause-solution : goal.returns-clause-solution
returns-clause-solution c =
    let inv = c.loop-p.invariant in
    cut-solves c.args.instance.now c.args.states.now.items _ (is_marked c.loop-p.scratch.reached.items) c.packages-p-end.ensures.sound c.requires.plain c.requires.solution
    (cut-whole c.args.instance.now c.args.states.now.items _ _ c.loop-p.p inv.reached inv.cut (omega arith))

pub returns-clause-below : goal.returns-clause-below
returns-clause-below c =
    let inv = c.loop-p.invariant in
    cut-below c.args.instance.now c.args.states.now.items _ (is_marked c.loop-p.scratch.reached.items) (cut-whole c.args.instance.now c.args.states.now.items _ _ c.loop-p.p inv.reached inv.cut (omega arith))
