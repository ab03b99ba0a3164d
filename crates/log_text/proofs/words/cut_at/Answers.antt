-- the bytes before the first place, and those behind it
use Rattle.std.proofs.Common.{◌+◌, refl}
use Rattle.std.proofs.lemmas.List.{take_rest}
use Rattle.log_text.proofs.Cuts.{cut_found, cut_nowhere}
use Rattle.log_text.proofs.words.cut_at.Goals as goal

pub returns-in-Some : goal.returns-in-Some
returns-in-Some c = cut_found c.args.mark c.in-Some.place c.args.bytes.now _ _ c.in-Some.ensures.place refl (take_rest c.args.bytes.now (c.in-Some.place + 1))

pub returns-in-None : goal.returns-in-None
returns-in-None c = cut_nowhere c.args.mark c.args.bytes.now c.in-None.ensures.place
