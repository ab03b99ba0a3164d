use Rattle.std.proofs.Common.{◌<◌, ◌∙◌, ap, sym, subst, arith, get_or}
use Rattle.version_graph.specs.Graph.{packages, does_need}
use Rattle.version_graph.specs.Domain.{has}
use Rattle.graph_pruning.proofs.ReachLemmas.{grows-trans, reaching_known, needs_more}
use Rattle.graph_pruning.proofs.reaching.Reached.spread.Goals as goal

pub add_needs-requires-clause-known : goal.add_needs-requires-clause-known
add_needs-requires-clause-known c =
    subst (λ x. x < packages c.args.instance.now) (sym c.at-p.ensures)
    (reaching_known c.args.instance.now (has c.args.domains.now) c.loop-next.self (get_or c.loop-next.self.list.items c.loop-next.next 0) c.loop-next.invariant.reaching
    (c.loop-next.invariant.reaching.only c.loop-next.next (omega arith)))

pub loop-next-preserved : goal.loop-next-preserved
loop-next-preserved c =
    let inv = c.loop-next.invariant in
    let new = c.in_ok-add_needs.ensures in
    let g = c.args.instance.now in
    record {
      grows = grows-trans _ _ _ inv.grows new.grows;
      reaching = new.reaching;
      done = needs_more g (has c.args.domains.now) c.loop-next.self c.add_needs.new.self c.loop-next.next (omega arith) new.grows inv.reaching inv.done
          (λ i q here need. new.done i q (ap (λ x. has c.args.domains.now x i) c.at-p.ensures ∙ here) (ap (λ x. does_need g x i q) c.at-p.ensures ∙ need));
    }
