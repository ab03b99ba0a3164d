use Rattle.version_graph.specs.Domain.{has}
use Rattle.maxsum_messages.specs.Post.{IsPostFor}
use Rattle.maxsum_messages.specs.Round.{AreRounds}
use Rattle.decimation_repair.specs.Levels.{zero_levels, plus_levels, minus_levels, clip_levels, compare_levels}
use Rattle.decimation_repair.proofs.heard.hear.Given as goal

abbrev pub invariant-loop-round : goal.invariant-loop-round
invariant-loop-round l = record {
  made : IsPostFor l.instance l.messages;
  rounds : AreRounds zero_levels plus_levels minus_levels clip_levels compare_levels l._round l.instance l.fields (has l.domains) l.initial.messages l.messages;
}
