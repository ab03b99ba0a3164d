-- What a text means is what the machine gives for it, and that is one version.
use Rattle.std.proofs.Common.{sym, ◌∙◌}
use Rattle.std.proofs.lemmas.Option.{same_Some}
use Rattle.jl_versions.proofs.GrammarRuns.{reads_gives}
use Rattle.jl_versions.proofs.Knows.{reads_meant}
use Rattle.jl_versions.proofs.laws.text_means_one_version.Goals as goal

pub returns-clause-one : goal.returns-clause-one
returns-clause-one c = λ text v w means too. same_Some v w (sym (reads_gives text v means) ∙ reads_gives text w too)

pub returns-clause-meant : goal.returns-clause-meant
returns-clause-meant c = reads_meant
