use Rattle.bit_rows.proofs.BitLemmas.{bit_read}
use Rattle.bit_rows.proofs.words.has_bit.Goals as goal

pub returns : goal.returns
returns c = bit_read c.args.words.now c.args.word c.args.bit c.requires.below
