use Rattle.std.proofs.Common.{◌∙◌, arith}
use Rattle.graph_pruning.proofs.ReduceLemmas.{home}
use Rattle.instance_search.proofs.RatedLemmas.{rated_more, other_left, rated_here}
use Rattle.instance_search.proofs.rating.rate_package.Goals as goal

pub states-offers-requires : goal.states-offers-requires
states-offers-requires c =
    let r = c.requires.reduced in
    let known = home c.args.instance.now r.0 c.args.reduced.now.instance c.args.reduced.now.back r.1 c.args.p c.requires.known in
    omega (arith, known, c.package-package.ensures)

pub loop-i-preserved : goal.loop-i-preserved
loop-i-preserved c =
    let g = c.args.instance.now in
    let h = c.args.reduced.now.instance in
    let b = c.args.reduced.now.back in
    let r = c.requires.reduced in
    let at = home g r.0 h b r.1 c.args.p c.requires.known in
    let before = c.loop-i.invariant in
    record {
      shape = record {
        each = c.set.ensures.each ∙ before.shape.each;
        wide = λ q known. c.set.ensures.wide q ∙ before.shape.wide q known;
      };
      rated = rated_more g h b c.loop-i.fields c.set.new.self c.args.p c.loop-i.i c.rated.result before.rated c.set.ensures.set
          (rated_here g b c.args.p c.loop-i.i c.package-package.result c.states-offers.result c.state-state.result c.rated.result c.is_offered-is_root.result
          c.package-package.ensures (omega (arith, at, c.package-package.ensures)) c.states-offers.ensures.count c.states-offers.ensures.some c.state-state.ensures
          c.is_offered-is_root.ensures c.rated.ensures.weight);
      others = λ q j apart. other_left c.loop-i.fields c.set.new.self c.args.p c.loop-i.i c.rated.result c.set.ensures.set q j apart ∙ before.others q j apart;
    }
