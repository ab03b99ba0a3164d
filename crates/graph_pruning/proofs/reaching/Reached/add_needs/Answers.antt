use Rattle.std.proofs.Common.{◌∙◌, ap, sym, arith, inl, inr}
use Rattle.std.proofs.lemmas.Bool.{cases_eq}
use Rattle.version_graph.specs.Graph.{does_need}
use Rattle.version_graph.specs.Domain.{has}
use Rattle.graph_pruning.proofs.ReachLemmas.{grows-trans, known_in}
use Rattle.graph_pruning.proofs.reaching.Reached.add_needs.Goals as goal

pub loop-i-preserved : goal.loop-i-preserved
loop-i-preserved c =
    let inv = c.loop-i.invariant in
    let new = c.in_ok-add_state.ensures in
    let g = c.args.instance.now in
    record {
      grows = grows-trans _ _ _ inv.grows new.grows;
      reaching = new.reaching;
      done = λ i q below here need. elim (cases_eq i c.loop-i.i) [
        | inl e ↦ new.done q (ap (has c.args.domains.now c.args.p) (sym e) ∙ here) (ap (λ x. does_need g c.args.p x q) (sym e) ∙ need)
        | inr apart ↦ new.grows.marks q (inv.done i q (omega (arith, below, apart)) here need)
      ];
    }

pub returns-clause-done : goal.returns-clause-done
returns-clause-done c = λ i q here need.
    let known = known_in c.args.instance.now c.args.domains.now c.args.p i c.requires.made here in
    c.loop-i.invariant.done i q (omega (arith, known.1, c.states-i-end.ensures.count)) here need
