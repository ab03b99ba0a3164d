-- The walk of `clap` over words that are written out but for values.
use Rattle.std.proofs.Common.{refl}
use Rattle.clap.proofs.OnLiterals.{clap_on_literals}
use Rattle.command_words.specs.Words.{words_meant}
use Rattle.command_words.proofs.laws.repeated_words_are_refused.Goals as goal

pub returns : goal.returns
unfolding clap_on_literals words_meant
returns c = record { flag = λ cwd. refl; option = λ cwd first second. refl; valued_flag = λ cwd value. refl }
