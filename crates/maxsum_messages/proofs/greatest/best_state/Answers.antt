use Rattle.std.proofs.Common.{◌∙◌, ◌<◌, ℕ, length, get_or, ap, subst, arith}
use Rattle.std.proofs.lemmas.List.{get_or_read}
use Rattle.version_graph.specs.Domain.{has}
use Rattle.maxsum_messages.specs.Searched.{raised}
use Rattle.maxsum_messages.proofs.Best.{IsBestBelow, best-more, best-end, in-range}
use Rattle.maxsum_messages.proofs.greatest.best_state.Goals as goal

pub loop-i-preserved : goal.loop-i-preserved
loop-i-preserved g c =
    let cmp = g.W.Ord.cmp in
    let test = has c.args.domains.now c.args.q in
    let value = λ (i : ℕ). get_or c.args.weights.now i g.W.Weight.none in
    let inside : c.loop-i.i < length c.args.weights.now = omega (arith, c.requires.room) in
    let read = get_or_read c.args.weights.now c.loop-i.i c.index-weights-i.result inside c.index-weights-i.is g.W.Weight.none in
    best-more cmp test value g.met.W.Ord.total c.loop-i.i c.loop-i.best c.raised-best.result c.loop-i.invariant
    (c.raised-best.ensures ∙ ap (λ w. raised cmp c.loop-i.best w c.has.result) read ∙ ap (raised cmp c.loop-i.best (value c.loop-i.i)) c.has.ensures)

pub returns-in-Some : goal.returns-in-Some
returns-in-Some g c =
    let cmp = g.W.Ord.cmp in
    let test = has c.args.domains.now c.args.q in
    let value = λ (i : ℕ). get_or c.args.weights.now i g.W.Weight.none in
    best-end cmp test value g.met.W.Ord.total c.loop-i.i c.in-Some.weight (subst (IsBestBelow cmp test value c.loop-i.i) c.in-Some.is c.loop-i.invariant)
    (λ i t. let there = in-range c.args.domains.now c.args.q i t in omega (arith, there, c.requires.states))

pub returns-in-None : goal.returns-in-None
returns-in-None g c =
    let cmp = g.W.Ord.cmp in
    let test = has c.args.domains.now c.args.q in
    let value = λ (i : ℕ). get_or c.args.weights.now i g.W.Weight.none in
    let none = subst (IsBestBelow cmp test value c.loop-i.i) c.in-None.is c.loop-i.invariant in
    let there = in-range c.args.domains.now c.args.q c.requires.some.0 c.requires.some.1 in
    absurd (none c.requires.some.0 (omega (arith, there, c.requires.states)) c.requires.some.1)
