-- What is believed of a state: its field and all messages to it.
use Rattle.std.specs.Prelude.{ℕ, List}
use Rattle.maxsum_messages.specs.Field.{field}
use Rattle.maxsum_messages.specs.Post.{Post, said_to, heard}

abbrev pub belief : {W : Type 0} → W → (W → W → W) → List (List W) → Post W → ℕ → ℕ → W
belief none plus f m p i = plus (field none f p i) (heard none plus i (said_to m p))
