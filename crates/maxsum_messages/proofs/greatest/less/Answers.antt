use Rattle.std.proofs.Common.{◌^◌, ◌+◌, arith}
use Rattle.maxsum_messages.proofs.greatest.less.Goals as goal

pub minus-requires : goal.minus-requires
minus-requires g c =
    g.met.W.Weight.within_more (2 ^ 52 + 2 ^ 52) (2 ^ 53) _ (g.met.W.Weight.minus_within (2 ^ 52) (2 ^ 52) c.args.first c.args.second c.requires.first c.requires.second) (omega arith)
