use Rattle.std.proofs.Common.{◌*◌, ◌/◌, List, ℕ, length, get_or, ap, sym, subst, arith}
use Rattle.decimation_repair.specs.Path.{prefix_of}
use Rattle.decimation_repair.specs.Advised.{IsOpenPath}
use Rattle.decimation_repair.specs.Choice.{AreHeard, BeliefChoice}
use Rattle.decimation_repair.proofs.AdviceLemmas.{cut-open, block-inside, aligned, wide-not-single, believed}
use Rattle.decimation_repair.proofs.advice.Advice.choose.Goals as goal

pub turn_to-requires-clause-open : goal.turn_to-requires-clause-open
turn_to-requires-clause-open c =
    let path = c.args.path.now in
    subst (IsOpenPath c.args.instance.now) (sym c.cut_back-cut.ensures) (cut-open c.args.instance.now path (16 * (length path / 16)) (block-inside (length path)) c.requires.open)

pub choose-requires-clause-aligned : goal.choose-requires-clause-aligned
choose-requires-clause-aligned c =
    let now = c.turn_to.ensures.advice in
    aligned c.args.instance.now c.turn_to.new.self.recent.messages c.turn_to.new.self.fields.now c.args.domains.now now.recent.made now.fields c.requires.made

pub choose-requires-clause-room : goal.choose-requires-clause-room
choose-requires-clause-room c = λ p h.
    let now = c.turn_to.ensures.advice in
    let same = now.recent.made.sizes in
    let count = ap length same in
    let here = ap (λ (l : List ℕ). get_or l p 0) same in
    let room = now.room.room p (omega (arith, h, count)) in
    omega (arith, room, here)

pub unreachable-requires : goal.unreachable-requires
unreachable-requires c = absurd (wide-not-single c.args.instance.now c.turn_to.new.self.recent.messages c.args.domains.now c.turn_to.ensures.advice.recent.made c.requires.wide c.in-None.ensures.answer)

pub returns-clause-choice : goal.returns-clause-choice
returns-clause-choice c =
    let g = c.args.instance.now in
    let path = c.args.path.now in
    let now = c.turn_to.ensures.advice in
    let m = c.turn_to.new.self.recent.messages in
    let f = c.turn_to.new.self.fields.now in
    let heard = subst (λ prefix. AreHeard f g prefix m) c.turn_to.ensures.turned.same (now.recent.heard c.turn_to.ensures.turned.made) in
    subst (λ f. BeliefChoice f g (prefix_of path) c.in-Some.package c.choose.new.order.states) c.turn_to.ensures.fields
    (believed f g path c.cut_back-cut.result.now m c.args.domains.now c.in-Some.package c.choose.new.order.states c.cut_back-cut.ensures heard c.requires.closed now.recent.made c.in-Some.ensures.answer c.in-Some.ensures.order)
