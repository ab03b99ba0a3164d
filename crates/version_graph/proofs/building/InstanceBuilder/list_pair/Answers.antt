use Rattle.std.proofs.Common.{◌∙◌, ◌<◌, ◌||◌, ap, sym, subst}
use Rattle.version_graph.specs.Graph.{Graph, packages, states, is_barred, has_pair, is_key}
use Rattle.version_graph.proofs.BuildLemmas.{pair-added, pair-kept, same-barred}
use Rattle.version_graph.proofs.building.InstanceBuilder.list_pair.Goals as goal

pub invariant_of-self-2 : goal.invariant_of-self-2
invariant_of-self-2 c = (
  pair-kept c.self.inside.sizes.items c.self.inside.barred.items c.self.inside.pairs.items c.push.new.self.items c.args.p c.args.i c.args.q c.args.j c.self.invariant.0
      c.requires.below
      (subst (λ (h : Graph). c.args.q < packages h) (sym c.self.view_is) c.requires.known)
      (subst (λ (h : Graph). c.args.i < states h c.args.p) (sym c.self.view_is) c.requires.first_state)
      (subst (λ (h : Graph). c.args.j < states h c.args.q) (sym c.self.view_is) c.requires.second_state)
      (pair-added c.self.inside.sizes.items c.self.inside.barred.items c.self.inside.pairs.items c.push.new.self.items c.args.p c.args.i c.args.q c.args.j c.in_ok-push.ensures.items),
  c.self.invariant.1,
)

pub returns-clause-barred : goal.returns-clause-barred
returns-clause-barred c a b =
    same-barred c.self.inside.sizes.items c.self.inside.barred.items c.self.inside.pairs.items c.push.new.self.items a b
    ∙ ap (λ (h : Graph). is_barred h a b) c.self.view_is

pub returns-clause-ok : goal.returns-clause-ok
returns-clause-ok c a b d e =
    pair-added c.self.inside.sizes.items c.self.inside.barred.items c.self.inside.pairs.items c.push.new.self.items c.args.p c.args.i c.args.q c.args.j c.in_ok-push.ensures.items a b d e
    ∙ ap (λ (h : Graph). has_pair h a b d e || is_key a b d e c.args.p c.args.i c.args.q c.args.j) c.self.view_is
