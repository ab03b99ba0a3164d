use Rattle.std.proofs.Common.{◌∙◌, ◌<◌, sym, arith, length}
use Rattle.maxsum_messages.specs.Belief.{belief}
use Rattle.maxsum_messages.proofs.InOrder.{before-all, after-all}
use Rattle.maxsum_messages.proofs.choosing.halve.Goals as goal

pub returns-then-is_first-clause-split : goal.returns-then-is_first-clause-split
returns-then-is_first-clause-split g c =
    let value = belief g.W.Weight.none g.W.Weight.plus c.args.fields.now c.args.inbox.now c.args.p in
    let split = c.requires.split in
    record {
      ordered = omega (arith, c.requires.below_high);
      bound = split.bound;
      before = before-all g.W.Ord.cmp g.met.W.Ord.total value c.args.states.now c.args.middle c.args.i c.requires.falling (omega (arith, c.requires.below_high, split.bound)) (sym c.is_first.ensures ∙ c.if-is_first.true);
      after = split.after;
    }

pub returns-else-is_first-clause-split : goal.returns-else-is_first-clause-split
returns-else-is_first-clause-split g c =
    let value = belief g.W.Weight.none g.W.Weight.plus c.args.fields.now c.args.inbox.now c.args.p in
    let split = c.requires.split in
    let inside : c.args.middle < length c.args.states.now = omega (arith, c.requires.below_high, split.bound) in
    record {
      ordered = c.requires.above_low;
      bound = omega (arith, inside);
      before = split.before;
      after = after-all g.W.Ord.cmp g.met.W.Ord.total value c.args.states.now c.args.middle c.args.i c.requires.falling (λ e. (let under = c.requires.below c.args.middle inside in absurd (omega (arith, under, e)))) (sym c.is_first.ensures ∙ c.if-is_first.false);
    }
