use Rattle.std.proofs.Common.{◌≡◌, ◌<◌, arith, length}
use Rattle.version_graph.specs.Part.{package_of}
use Rattle.version_graph.proofs.PartLemmas.{part_few, part_small, states_few, one_le_sum}
use Rattle.version_graph.proofs.graph.Instance.sizes_of.Goals as goal

pub overflow_cast-width : goal.overflow_cast-width
overflow_cast-width c =
    let g = c.args.self.now in
    let m = c.args.part.now in
    let here : c.loop-p.p < length m = omega (arith, c.count-p-end.ensures, c.loop-p-test.true) in
    omega (arith, c.width.ensures, states_few g m c.requires c.loop-p.p here, one_le_sum g.sizes (package_of m c.loop-p.p) (c.requires.known c.loop-p.p here), c.packages-packages.ensures.sound.small)

whole : (c : goal.After-loop-p) → c.loop-p.p ≡ length c.args.part.now
whole c = omega (arith, c.count-p-end.ensures)

pub returns-clause-few : goal.returns-clause-few
returns-clause-few c =
    omega (arith, c.loop-p.invariant.each, whole c, part_few c.args.self.now c.args.part.now c.packages-packages.ensures.sound c.requires)

pub returns-clause-small : goal.returns-clause-small
returns-clause-small c =
    part_small c.args.self.now c.args.part.now c.loop-p.sizes.items c.packages-packages.ensures.sound c.requires (omega (arith, c.loop-p.invariant.each, whole c))
    (λ p h. c.loop-p.invariant.at p (omega (arith, h, whole c)))
