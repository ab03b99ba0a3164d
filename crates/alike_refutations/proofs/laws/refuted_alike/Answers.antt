use Rattle.alike_refutations.proofs.Refuted.{refuted}
use Rattle.alike_refutations.proofs.laws.refuted_alike.Goals as goal

pub returns : goal.returns
returns c = refuted
