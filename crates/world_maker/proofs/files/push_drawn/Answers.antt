use Rattle.std.proofs.Common.{length, ap, ◌∙◌}
use Rattle.world_maker.proofs.Known.{length_spans}
use Rattle.world_maker.proofs.files.push_drawn.Goals as goal

pub push_package-requires-clause-ranges : goal.push_package-requires-clause-ranges
push_package-requires-clause-ranges c = ap length (c.deref.ensures.value ∙ c.in_ok-spans.ensures.drawn) ∙ length_spans c.args.draws.now.state c.args.starts.now c.args.needs.now
