use Rattle.std.proofs.Common.{◌≡◌, ◌<◌, arith, ap, subst, sym, length}
use Rattle.version_graph.specs.Copied.{ArePlaces}
use Rattle.version_graph.proofs.PartLemmas.{part_few, places_none, places_more}
use Rattle.version_graph.proofs.graph.Instance.places_of.Goals as goal

pub overflow_cast-place : goal.overflow_cast-place
overflow_cast-place c =
    omega (arith, c.count-p-end.ensures, c.loop-p-test.true, part_few c.args.self.now c.args.part.now c.packages.ensures.sound c.requires)
