use Rattle.std.proofs.Common.{◌∙◌, ◌&&◌, not, ℕ, ap, arith}
use Rattle.std.specs.Cmp.{on_total}
use Rattle.version_graph.specs.Domain.{has}
use Rattle.maxsum_messages.specs.Belief.{belief}
use Rattle.maxsum_messages.specs.Searched.{raised, is_skipped}
use Rattle.maxsum_messages.proofs.Best.{best-more, best-known, best-found, in-range, both-first}
use Rattle.maxsum_messages.proofs.choosing.best_but.Goals as goal

pub better-best-requires-clause-other_state : goal.better-best-requires-clause-other_state
better-best-requires-clause-other_state g c =
    let value = belief g.W.Weight.none g.W.Weight.plus c.args.fields.now c.args.inbox.now c.args.p in
    best-known (λ a b. g.W.Ord.cmp (value a) (value b)) (λ i. has c.args.domains.now c.args.p i && not (is_skipped c.args.skip i)) c.loop-i.i _ c.loop-i.best c.loop-i.invariant (omega (arith, c.size-i-end.ensures))

pub loop-i-preserved : goal.loop-i-preserved
loop-i-preserved g c =
    let value = belief g.W.Weight.none g.W.Weight.plus c.args.fields.now c.args.inbox.now c.args.p in
    let cmp = λ (a b : ℕ). g.W.Ord.cmp (value a) (value b) in
    best-more cmp (λ i. has c.args.domains.now c.args.p i && not (is_skipped c.args.skip i)) (λ i. i) (on_total value g.met.W.Ord.total) c.loop-i.i c.loop-i.best c.better-best.result c.loop-i.invariant
    (c.better-best.ensures ∙ ap (raised cmp c.loop-i.best c.loop-i.i) c.is_other.ensures)

pub returns : goal.returns
returns g c =
    let value = belief g.W.Weight.none g.W.Weight.plus c.args.fields.now c.args.inbox.now c.args.p in
    let cmp = λ (a b : ℕ). g.W.Ord.cmp (value a) (value b) in
    best-found cmp (λ i. has c.args.domains.now c.args.p i && not (is_skipped c.args.skip i)) (on_total value g.met.W.Ord.total) c.loop-i.i c.loop-i.best c.loop-i.invariant
    (λ i t.
    let there = in-range c.args.domains.now c.args.p i (both-first _ _ t) in
    omega (arith, there, c.requires.aligned.domain_places c.args.p c.requires.known, c.size-i-end.ensures))
