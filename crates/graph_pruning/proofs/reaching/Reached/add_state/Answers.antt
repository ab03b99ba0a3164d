use Rattle.std.proofs.Common.{◌<◌, ℕ, length, get_or, sym, subst, arith, ◌∙◌}
use Rattle.version_graph.specs.Domain.{has}
use Rattle.graph_pruning.proofs.ReachLemmas.{need_known, need_reached, need_marked}
use Rattle.graph_pruning.proofs.reaching.Reached.add_state.Goals as goal

pub add_all-requires : goal.add_all-requires
add_all-requires c =
    subst (λ xs. (k : ℕ) → k < length xs → get_or xs k 0 < length c.args.self.now.marks.items) (sym c.of.ensures)
    (λ k below. let known = need_known c.args.instance.now c.args.needs.now c.args.p c.args.i c.requires.needed c.requires.known c.requires.state k below in
    omega (arith, known, c.requires.reaching.each))

pub returns-clause-reaching : goal.returns-clause-reaching
returns-clause-reaching c =
    let r = c.requires in
    let f = has c.args.domains.now in
    c.in_ok-add_all.ensures.keeps c.args.instance.now f r.reaching
    (λ set s. need_reached c.args.instance.now f c.args.needs.now c.args.p c.args.i r.needed r.known r.state (sym c.has.ensures ∙ c.if-not-has.false) set s (r.reaching.least set s c.args.p r.here) c.of.result.now c.of.ensures)

pub returns-clause-done : goal.returns-clause-done
returns-clause-done c = λ q here need.
    need_marked c.args.instance.now c.args.needs.now c.args.p c.args.i q c.requires.needed c.requires.known c.requires.state
    c.add_all.new.self.marks.items c.of.result.now c.of.ensures c.in_ok-add_all.ensures.here need
