use Rattle.std.proofs.Common.{◌∙◌, ◌<◌, ◌||◌, ap, sym, subst, refl}
use Rattle.version_graph.specs.Graph.{Graph, packages, states, is_barred, is_forbidden, is_state}
use Rattle.version_graph.proofs.BuildLemmas.{state-kept, state-barred, same-forbidden}
use Rattle.version_graph.proofs.building.InstanceBuilder.forbid_state.Goals as goal

pub invariant_of-self : goal.invariant_of-self
invariant_of-self c =
    let known = subst (λ (h : Graph). c.args.p < packages h) (sym c.self.view_is) c.requires.known in (
      state-kept c.self.inside.sizes.items c.self.inside.barred.items c.self.inside.pairs.items c.self.invariant.0 c.args.p c.args.i known c.index_mut-row.result.now _ c.index_mut-row.ensures.value refl,
      c.self.invariant.1,
    )

pub returns-clause-barred : goal.returns-clause-barred
returns-clause-barred c q j =
    let known = subst (λ (h : Graph). c.args.p < packages h) (sym c.self.view_is) c.requires.known in
    let state = subst (λ (h : Graph). c.args.i < states h c.args.p) (sym c.self.view_is) c.requires.state in
    state-barred c.self.inside.sizes.items c.self.inside.barred.items c.self.inside.pairs.items c.self.invariant.0 c.args.p c.args.i known c.index_mut-row.result.now _ c.index_mut-row.ensures.value refl state q j
    ∙ ap (λ (h : Graph). is_barred h q j || is_state q j c.args.p c.args.i) c.self.view_is

pub returns-clause-forbidden : goal.returns-clause-forbidden
returns-clause-forbidden c a b d e =
    same-forbidden c.self.inside.sizes.items c.self.inside.barred.items _ c.self.inside.pairs.items a b d e
    ∙ ap (λ (h : Graph). is_forbidden h a b d e) c.self.view_is
