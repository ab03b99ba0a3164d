-- What the answers of reading say.
use Rattle.std.specs.Prelude.{◌≡◌, Result, Ok, MatchResult}
use Rattle.toml_view.specs.declared.refusal.Refusal.{Refusal}
use Rattle.toml_view.specs.declared.refusal.Stop.{Stop}
use Rattle.toml_view.specs.Answers.{Refuses as StopRefuses}

-- what a stopped reading of a table tells
abbrev pub Gives : {T : Type 0} → Result T Stop → Result T Refusal → Type 0
Gives answer reading = MatchResult answer (λ value. reading ≡ Ok value) (λ stop. StopRefuses stop reading)
