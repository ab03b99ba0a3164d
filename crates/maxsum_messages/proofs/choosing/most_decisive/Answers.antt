use Rattle.std.proofs.Common.{◌<◌, ◌+◌, ℕ, subst, sym, arith, length, MatchOption}
use Rattle.version_graph.specs.Domain.{has}
use Rattle.maxsum_messages.specs.Belief.{belief}
use Rattle.maxsum_messages.specs.Choice.{IsSingle, IsChosen}
use Rattle.maxsum_messages.proofs.Leads.{IsLedBelow, led-more, led-end}
use Rattle.maxsum_messages.proofs.choosing.most_decisive.Goals as goal

pub loop-p-preserved : goal.loop-p-preserved
loop-p-preserved g c =
    let value = belief g.W.Weight.none g.W.Weight.plus c.args.fields.now c.args.inbox.now in
    let d = has c.args.domains.now in
    subst (IsLedBelow g.W.Ord.cmp g.W.Weight.minus d value (c.loop-p.p + 1)) (sym c.leading-best.ensures)
    (led-more g.W.Ord.cmp g.W.Weight.minus d value g.met.W.Ord.total c.loop-p.p c.loop-p.best c.lead_of.result c.loop-p.invariant c.lead_of.ensures)

pub returns : goal.returns
returns g c =
    let value = belief g.W.Weight.none g.W.Weight.plus c.args.fields.now c.args.inbox.now in
    let d = has c.args.domains.now in
    subst (λ o. MatchOption o ((p : ℕ) → p < length c.args.inbox.now.sizes → IsSingle (d p)) (IsChosen g.W.Ord.cmp g.W.Weight.minus (length c.args.inbox.now.sizes) d value)) (sym c.package_of.ensures)
    (led-end g.W.Ord.cmp g.W.Weight.minus d value c.loop-p.p (length c.args.inbox.now.sizes) c.loop-p.best c.loop-p.invariant (omega (arith, c.len-p-end.ensures)))
