-- What of a step's answer is not as wanted, counted.
use Rattle.std.specs.Prelude.{ℕ, ◌+◌, ◌==◌, Bool, false, ◌||◌, if◌then◌else◌, List, [], ◌∷◌, Option, Some, None, is_some, String, string_bytes, Vec, vec_len, codes}
use Rattle.std.specs.List.{ends_with}
use Rattle.std.specs.Str.{bytes_eq}
use Rattle.std.specs.BTreeMap.{BTreeMap, get_by_text}
use Rattle.std.specs.declared.alloc.Global.{Global}
use Rattle.worked_cases.specs.declared.case.Wanted.{Wanted}
use Rattle.worked_cases.specs.declared.differing.Answer.{Answer}
use Rattle.worked_cases.specs.declared.differing.Findings.{Findings}

-- one where a test fails
abbrev pub one_unless : Bool → ℕ
one_unless test = if test then 0 else 1

-- how many of a list fail a test
abbrev pub failing : {X : Type 0} → (X → Bool) → List X → ℕ
failing test [] = 0
failing test (x ∷ xs) = one_unless (test x) + failing test xs

-- the bytes of each file, by the text of its path
abbrev pub FileMap : Type 0
FileMap = BTreeMap (String Global) (Vec ℕ Global)

abbrev pub has_file : FileMap → List ℕ → Bool
has_file files path = is_some (get_by_text files path)

-- a file is there, with these bytes
abbrev pub are_bytes : Option (Vec ℕ Global) → List ℕ → Bool
are_bytes None want = false
are_bytes (Some got) want = bytes_eq want got.items

-- a file that is to change is there, and it is one of TOML or has these bytes
abbrev pub are_bytes_or_toml : Bool → Option (Vec ℕ Global) → List ℕ → Bool
are_bytes_or_toml toml None want = false
are_bytes_or_toml toml (Some got) want = toml || bytes_eq want got.items

abbrev pub is_toml : List ℕ → Bool
is_toml path = ends_with (λ a b. a == b) path (codes ".toml")

-- a file that is to change, with its wanted bytes
abbrev pub is_made : FileMap → String Global × Vec ℕ Global → Bool
is_made after file = are_bytes_or_toml (is_toml (string_bytes file.0)) (get_by_text after (string_bytes file.0)) file.1.items

-- a file that was there is to change, or is as it was
abbrev pub is_kept : FileMap → FileMap → String Global × Vec ℕ Global → Bool
is_kept changed after file = has_file changed (string_bytes file.0) || are_bytes (get_by_text after (string_bytes file.0)) file.1.items

-- a file that is there was there, or is to change
abbrev pub is_known : FileMap → FileMap → String Global × Vec ℕ Global → Bool
is_known before changed file = has_file before (string_bytes file.0) || has_file changed (string_bytes file.0)

-- how many of the files after a step are not as wanted: those that are to change, those that are to stay, and new ones
abbrev pub file_count : FileMap → FileMap → FileMap → ℕ
file_count before changed after =
    failing (is_made after) changed.entries + (failing (is_kept changed after) before.entries + failing (is_known before changed) after.entries)

-- how many of the exit code, the fate of the error line, and the two texts are not as wanted
abbrev pub answer_count : Wanted → Answer → ℕ
answer_count wanted answer =
    one_unless (wanted.status == answer.status)
    + (one_unless (bytes_eq (string_bytes wanted.told) answer.told.now)
    + (one_unless (bytes_eq (string_bytes wanted.out) answer.out.items) + one_unless (bytes_eq (string_bytes wanted.err) answer.err.items)))

-- how many lines there are
abbrev pub line_count : Findings → ℕ
line_count findings = vec_len findings.lines
