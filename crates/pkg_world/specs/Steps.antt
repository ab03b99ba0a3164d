-- What the steps of joining a path cite.
use Rattle.std.specs.Prelude.{◌≡◌, ℕ, ◌==◌, true, not, List, ◌<◌, [], ◌∷◌, length, map, Option, Some, MatchOption, Result, MatchResult, String, string_bytes}
use Rattle.std.specs.Borrow.{Bor}
use Rattle.std.specs.List.{list_all}
use Rattle.std.specs.Str.{IsUtf8}
use Rattle.std.specs.declared.alloc.Global.{Global}
use Rattle.pkg_world.specs.declared.path.PathFault.{PathFault}
use Rattle.pkg_world.specs.Path.{along, pieces_at, RefusesPath}

-- the parts after a piece, or the refusal where it leads nowhere
abbrev pub StepGives : List (String Global) → List (String Global) → List ℕ → Result (Unit {0}) PathFault → Type 0
StepGives old new piece answer =
    MatchResult answer (λ _. along piece (map string_bytes old) ≡ Some (map string_bytes new)) (λ fault. RefusesPath fault (along piece (map string_bytes old)))

-- a text is one piece, or its first piece and a shorter text of further ones; no piece has the mark in it
abbrev pub CutsFirst : ℕ → List ℕ → Option (Bor (List ℕ) × Bor (List ℕ)) → Type 0
CutsFirst mark text found =
    MatchOption found ((pieces_at mark text ≡ text ∷ []) × (list_all (λ b. not (b == mark)) text ≡ true))
    (λ x. (pieces_at mark text ≡ x.0.now ∷ pieces_at mark x.1.now) × (length x.1.now < length text) × IsUtf8 x.1.now × (list_all (λ b. not (b == mark)) x.0.now ≡ true))
