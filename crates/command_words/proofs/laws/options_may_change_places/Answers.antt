-- The walk of `clap` over words that are written out but for a value.
use Rattle.std.proofs.Common.{refl}
use Rattle.clap.proofs.OnLiterals.{clap_on_literals}
use Rattle.command_words.specs.Words.{words_meant}
use Rattle.command_words.proofs.laws.options_may_change_places.Goals as goal

pub returns : goal.returns
unfolding clap_on_literals words_meant
returns c = record { behind = λ cwd value. refl; before = λ cwd value. refl }
