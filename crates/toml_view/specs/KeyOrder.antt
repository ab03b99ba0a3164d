-- The first refusal in key order: of the refused keys of a table the one whose bytes come first, with what is in it. The
-- definition may list the keys in any order. A chain of readings in the order of the keys' bytes stops there.
use Rattle.std.specs.Prelude.{ℕ, List, [], ◌∷◌, Option, Some, None, Result, Ok, Err, if◌then◌else◌}
use Rattle.std.specs.Ordering.{nat_cmp, is_lt}
use Rattle.std.specs.Cmp.Lexicographic.{slice_cmp}
use Rattle.toml_view.specs.declared.refusal.Refusal.{Refusal}

-- a key of a table, and its refusal where it has one
abbrev pub Verdict : Type 0
Verdict = List ℕ × Option Refusal

abbrev pub refusal_of : {T : Type 0} → Result T Refusal → Option Refusal
refusal_of (Ok value) = None
refusal_of (Err refusal) = Some refusal

abbrev pub verdict : {T : Type 0} → List ℕ → Result T Refusal → Verdict
verdict key reading = (key, refusal_of reading)

-- a key among keys in order
abbrev pub placed : Verdict → List Verdict → List Verdict
placed v [] = v ∷ []
placed v (w ∷ ws) = if is_lt (slice_cmp nat_cmp v.0 w.0) then v ∷ w ∷ ws else w ∷ placed v ws

-- the keys by their bytes
abbrev pub by_key : List Verdict → List Verdict
by_key [] = []
by_key (v ∷ vs) = placed v (by_key vs)

abbrev pub first_or : Option Refusal → Option Refusal → Option Refusal
first_or None later = later
first_or (Some refusal) later = Some refusal

abbrev pub first_refusal : List Verdict → Option Refusal
first_refusal [] = None
first_refusal (v ∷ vs) = first_or v.1 (first_refusal vs)

abbrev pub unless_refused : {T : Type 0} → Option Refusal → Result T Refusal → Result T Refusal
unless_refused None built = built
unless_refused (Some refusal) built = Err refusal

-- what is built of a table's keys, or the first refusal in key order
abbrev pub in_key_order : {T : Type 0} → List Verdict → Result T Refusal → Result T Refusal
in_key_order verdicts built = unless_refused (first_refusal (by_key verdicts)) built
