use Rattle.bit_rows.proofs.BitLemmas.{bit_set}
use Rattle.bit_rows.proofs.words.set_bit.Goals as goal

pub returns : goal.returns
returns c = bit_set c.args.words.now c.args.word c.args.bit c.requires.known c.requires.below
