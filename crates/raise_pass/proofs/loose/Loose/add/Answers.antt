use Rattle.std.proofs.Common.{arith}
use Rattle.raise_pass.proofs.MarkLemmas.{below-set}
use Rattle.raise_pass.proofs.loose.Loose.add.Goals as goal

pub returns-clause-below : goal.returns-clause-below
returns-clause-below c =
    let e = c.min-self.ensures in
    below-set c.args.self.now.marks.items c.set.new.marks.items c.args.p c.args.self.now.first c.min-self.result c.set.ensures c.requires.below (omega (arith, e)) (omega (arith, e))
