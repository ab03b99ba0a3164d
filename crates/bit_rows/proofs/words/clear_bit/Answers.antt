use Rattle.bit_rows.proofs.BitLemmas.{bit_cleared}
use Rattle.bit_rows.proofs.words.clear_bit.Goals as goal

pub returns : goal.returns
returns c = bit_cleared c.args.words.now c.args.word c.args.bit c.requires.known c.requires.below
