-- The walk of `clap` over words that are written out but for one.
use Rattle.std.proofs.Common.{refl}
use Rattle.clap.proofs.OnLiterals.{clap_on_literals}
use Rattle.command_words.specs.Words.{words_meant}
use Rattle.command_words.proofs.laws.behind_dashes_a_word_is_positional.Goals as goal

pub returns : goal.returns
unfolding clap_on_literals words_meant
returns c = record { name = λ cwd word. refl; path = λ cwd word. refl }
