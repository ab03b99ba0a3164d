use Rattle.std.proofs.Common.{◌∙◌}
use Rattle.decimation_repair.specs.Path.{chosen_at}
use Rattle.decimation_repair.proofs.AdviceLemmas.{no-choices, choice-left}
use Rattle.decimation_repair.proofs.heard.cut_to.Goals as goal

pub loop-chosen-init : goal.loop-chosen-init
loop-chosen-init c =
    let held = c.undo_to.ensures.keeps c.args.instance.now c.requires.held in
    record { held = held; cut = no-choices c.args.instance.now c.args.path.now c.undo_to.new.domains c.undo_to.new.trail held c.undo_to.ensures.notes }

pub narrow-requires-clause-there : goal.narrow-requires-clause-there
narrow-requires-clause-there c =
    let x = chosen_at c.args.path.now c.loop-chosen.chosen-index in
    c.loop-chosen.invariant.cut x.package x.state ∙ choice-left c.args.instance.now c.args.path.now c.loop-chosen.chosen-index c.requires.open c.loop-chosen-test.true
