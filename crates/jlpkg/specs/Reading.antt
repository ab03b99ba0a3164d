-- What is read of a file's bytes, where they are known.
use Rattle.std.specs.Prelude.{ℕ, List, Option}
use Rattle.std.specs.Io.KnownBytes.{Consumes}

-- if all that was read so far are the first bytes of a file, then so are they after one more turn
abbrev pub Follows : Option (List ℕ) → List ℕ → Option (List ℕ) → List ℕ → Type 0
Follows left read left_after read_after = (all : Option (List ℕ)) → Consumes all left read → Consumes all left_after read_after
