use Rattle.std.proofs.Common.{arith, subst, sym, inl, inr}
use Rattle.std.proofs.lemmas.Bool.{cases_eq}
use Rattle.version_graph.specs.Graph.{states}
use Rattle.instance_search.specs.Rated.{AreRatedAt}
use Rattle.instance_search.proofs.RatedLemmas.{others_rated}
use Rattle.instance_search.proofs.rating.rate.Goals as goal

pub loop-p-preserved : goal.loop-p-preserved
loop-p-preserved c =
    let g = c.args.instance.now in
    let h = c.args.reduced.now.instance in
    let b = c.args.reduced.now.back in
    let p = c.loop-p.p in
    let new = c.rate_package.new.fields in
    record {
      shape = c.rate_package.ensures.shape;
      rated = λ q low. elim (cases_eq q p) [
        | inl same ↦ subst (λ k. AreRatedAt g h b new k (states h k)) (sym same) c.rate_package.ensures.rated
        | inr apart ↦ others_rated g h b c.loop-p.fields new p q (states h q) c.rate_package.ensures.others apart (c.loop-p.invariant.rated q (omega (arith, low, apart)))
      ];
    }
