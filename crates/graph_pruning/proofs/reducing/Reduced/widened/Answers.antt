use Rattle.std.proofs.Common.{◌≡◌, ◌<◌, ◌+◌, arith, sym, subst, length}
use Rattle.version_graph.specs.Graph.{packages}
use Rattle.version_graph.proofs.TrailLemmas.{offered_known}
use Rattle.graph_pruning.proofs.ReduceLemmas.{home}
use Rattle.graph_pruning.proofs.WideLemmas.{WidensBelow, widens_none, widens_more, widens_all}
use Rattle.graph_pruning.proofs.reducing.Reduced.widened.Goals as goal

pub write_state-requires-clause-known : goal.write_state-requires-clause-known
write_state-requires-clause-known c = omega (arith, c.requires.reduced.1.reduced.each, c.packages-p-end.ensures.count, c.loop-p-test.true)

pub write_state-requires-clause-chosen : goal.write_state-requires-clause-chosen
write_state-requires-clause-chosen c = omega (arith, c.requires.solution.each, c.packages-p-end.ensures.count, c.loop-p-test.true)

pub write_state-requires-clause-state : goal.write_state-requires-clause-state
write_state-requires-clause-state c =
    let h = c.args.self.now.instance in
    let known : c.loop-p.p < packages h = omega (arith, c.packages-p-end.ensures.count, c.loop-p-test.true) in
    let here = offered_known h c.loop-p.p _ (c.requires.solution.offered c.loop-p.p known) in
    omega (arith, here.state, c.requires.reduced.1.reduced.wide c.loop-p.p known)

pub write_state-requires-clause-inside : goal.write_state-requires-clause-inside
write_state-requires-clause-inside c =
    let h = c.args.self.now.instance in
    let known : c.loop-p.p < packages h = omega (arith, c.packages-p-end.ensures.count, c.loop-p-test.true) in
    let r = c.requires.reduced in
    omega (arith, home c.args.instance.now r.0 h c.args.self.now.back r.1 c.loop-p.p known, c.loop-p.invariant.each)

pub loop-p-init : goal.loop-p-init
loop-p-init c =
    widens_none c.args.instance.now c.args.self.now.back c.args.chosen.now c.in_ok-states.states.items c.in_ok-states.ensures.each c.in_ok-states.ensures.last

pub loop-p-preserved : goal.loop-p-preserved
loop-p-preserved c =
    let g = c.args.instance.now in
    let h = c.args.self.now.instance in
    let b = c.args.self.now.back in
    let ys = c.args.chosen.now in
    let known : c.loop-p.p < packages h = omega (arith, c.packages-p-end.ensures.count, c.loop-p-test.true) in
    let r = c.requires.reduced in
    subst (λ xs. WidensBelow g b ys (c.loop-p.p + 1) xs) (sym c.write_state.ensures) (widens_more g r.0 h b r.1 ys c.loop-p.p c.loop-p.states.items known c.loop-p.invariant)

pub returns-clause-widened : goal.returns-clause-widened
returns-clause-widened c pr r =
    let g = c.args.instance.now in
    let h = c.args.self.now.instance in
    let b = c.args.self.now.back in
    let ys = c.args.chosen.now in
    let whole : c.loop-p.p ≡ packages h = omega (arith, c.packages-p-end.ensures.count) in
    widens_all g pr h b r ys c.loop-p.states.items (subst (λ n. WidensBelow g b ys n c.loop-p.states.items) whole c.loop-p.invariant)

pub returns-clause-solution : goal.returns-clause-solution
returns-clause-solution c =
    let g = c.args.instance.now in
    let h = c.args.self.now.instance in
    let b = c.args.self.now.back in
    let ys = c.args.chosen.now in
    let r = c.requires.reduced in
    let whole : c.loop-p.p ≡ packages h = omega (arith, c.packages-p-end.ensures.count) in
    (c.pruning_keeps_solutions.ensures g r.0 h b r.1).widened ys c.loop-p.states.items c.requires.solution
    (widens_all g r.0 h b r.1 ys c.loop-p.states.items (subst (λ n. WidensBelow g b ys n c.loop-p.states.items) whole c.loop-p.invariant))
