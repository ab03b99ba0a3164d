use Rattle.std.proofs.Common.{◌≡◌, refl, subst, arith}
use Rattle.version_graph.specs.Domain.{has}
use Rattle.maxsum_messages.specs.Round.{AreRounds}
use Rattle.decimation_repair.specs.Levels.{zero_levels, plus_levels, minus_levels, clip_levels, compare_levels}
use Rattle.decimation_repair.proofs.heard.hear.Goals as goal

pub loop-round-init : goal.loop-round-init
loop-round-init c = record { made = c.reset.ensures.made c.args.instance.now c.requires.messages; rounds = refl }

pub returns-clause-rounds : goal.returns-clause-rounds
returns-clause-rounds c =
    let done = c.loop-round-test.false in
    let few = c.loop-round.auto._round-end in
    let n : c.loop-round._round ≡ 8 = omega (arith, done, few) in (
      c.reset.new.self,
      c.reset.ensures.made c.args.instance.now c.requires.messages,
      c.reset.ensures.silent,
      subst (λ k. AreRounds zero_levels plus_levels minus_levels clip_levels compare_levels k c.args.instance.now c.args.fields.now (has c.args.domains.now) c.reset.new.self c.loop-round.messages) n c.loop-round.invariant.rounds,
    )
