use Rattle.std.proofs.Common.{◌∙◌, arith}
use Rattle.version_graph.proofs.RowLemmas.{has_known, narrow-step, narrow-end}
use Rattle.version_graph.proofs.TrailLemmas.{earlier-on}
use Rattle.version_graph.proofs.domain.Domains.narrow.Goals as goal

pub width-j-end-requires : goal.width-j-end-requires
width-j-end-requires c = (has_known _ _ _ c.requires.there).0

pub loop-j-preserved : goal.loop-j-preserved
loop-j-preserved c = record {
  cut = λ q k. narrow-step _ _ _ q k c.args.p c.args.i c.loop-j.j (c.loop-j.invariant.cut q k) (c.take_other.ensures.cut q k);
  longer = omega (arith, c.loop-j.invariant.longer, c.take_other.ensures.longer);
  earlier = earlier-on c.args.trail.now.notes c.loop-j.trail.notes c.take_other.new.trail.notes c.loop-j.invariant.longer c.loop-j.invariant.earlier c.take_other.ensures.earlier;
  settled = λ k h. c.take_other.ensures.settled k (omega (arith, h, c.loop-j.invariant.longer)) ∙ c.loop-j.invariant.settled k h;
  keeps = λ g h. c.take_other.ensures.keeps g (c.loop-j.invariant.keeps g h);
}

pub returns-clause-cut : goal.returns-clause-cut
returns-clause-cut c q j =
    c.loop-j.invariant.cut q j ∙ narrow-end c.args.self.now c.args.p c.args.i q j c.loop-j.j (omega (arith, c.width-j-end.ensures))
