-- First bad places, for any set of texts that a deterministic machine over bytes knows.
--     IsViable P front            some text of P begins with front
--     IsFirstBadOf P text place   text isn't in P, and place is the length of its longest front that begins a text of P
--     run step s bytes            where the machine stands after the bytes, if it goes through them all
--     Accepts step start IsEnd P  the machine knows P: its runs from start to an end are the texts of P, and each run can go on to an end
--     meant_by step end start text    the value of the text, or the length of its longest front on which the machine runs
-- `IsViable` and `IsFirstBadOf` name P alone: no machine is needed to read them.
use Rattle.std.specs.Prelude.{◌≡◌, ℕ, zero, suc, ◌+◌, ◌<◌, ◌≤◌, List, [], ◌∷◌, ◌++◌, length, take, Option, None, Some, Result, Ok, Err, refl}
use Rattle.std.specs.Option.{option_and_then}
use Rattle.std.proofs.Common.{sym, ◌∙◌, ap, subst, arith, get_or, drop}
use Rattle.std.proofs.lemmas.List.{take_more, take-append-drop}
use Rattle.std.proofs.lemmas.Option.{none-some, same_Some}
use Rattle.std.proofs.Math.Seq.{take-length}

-- some text of P begins with front
abbrev pub IsViable : (List ℕ → Type 0) → List ℕ → Type 0
IsViable P front = (rest : List ℕ) × P (front ++ rest)

-- The text isn't one of P, and place is the length of its longest front with which some text of P begins.
pub record IsFirstBadOf (P : List ℕ → Type 0) (text : List ℕ) (place : ℕ) : Type 0 where
  pub refused : P text → ⊥
  pub within : place ≤ length text
  pub begun : IsViable P (take place text)
  pub ended : place < length text → IsViable P (take (place + 1) text) → ⊥

-- where the machine stands after the bytes; None where it stops before their end
abbrev pub run : {S : Type 0} → (S → ℕ → Option S) → S → List ℕ → Option S
run step s [] = Some s
run step s (byte ∷ bytes) = option_and_then (λ t. run step t bytes) (step s byte)

-- The texts of P are those on which the machine runs from start to an end, and each run can go on to an end.
pub record Accepts {S : Type 0} (step : S → ℕ → Option S) (start : S) (IsEnd : S → Type 0) (P : List ℕ → Type 0) : Type 0 where
  pub from : (text : List ℕ) → P text → (s : S) × (run step start text ≡ Some s) × IsEnd s
  pub to : (text : List ℕ) (s : S) → run step start text ≡ Some s → IsEnd s → P text
  pub completes : (front : List ℕ) (s : S) → run step start front ≡ Some s → (rest : List ℕ) × (t : S) × (run step s rest ≡ Some t) × IsEnd t

-- a run over two lists of bytes is a run over the first and then over the second
pub run-append : {S : Type 0} (step : S → ℕ → Option S) (s : S) (xs ys : List ℕ) → run step s (xs ++ ys) ≡ option_and_then (λ t. run step t ys) (run step s xs)
run-append step s [] ys = refl
run-append {S} step s (x ∷ xs) ys =
    elim (step s x) as (λ o. option_and_then (λ t. run step t (xs ++ ys)) o ≡ option_and_then (λ t. run step t ys) (option_and_then (λ t. run step t xs) o)) [
      | None ↦ refl
      | Some t ↦ run-append step t xs ys
    ]

-- one byte further
pub run-snoc : {S : Type 0} (step : S → ℕ → Option S) (start s : S) (front : List ℕ) (byte : ℕ) → run step start front ≡ Some s → run step start (front ++ byte ∷ []) ≡ step s byte
run-snoc {S} step start s front byte stands =
    run-append step start front (byte ∷ []) ∙ ap (option_and_then (λ t. run step t (byte ∷ []))) stands ∙ last (step s byte)
  where
    last : (o : Option S) → option_and_then (λ t. run step t []) o ≡ o
    last None = refl
    last (Some t) = refl

-- a machine that runs through two lists of bytes runs through the first
pub run_front : {S : Type 0} (step : S → ℕ → Option S) (start t : S) (front rest : List ℕ) → run step start (front ++ rest) ≡ Some t → (s : S) × (run step start front ≡ Some s)
run_front {S} step start t front rest whole =
    elim (run step start front) as (λ o. option_and_then (λ s. run step s rest) o ≡ Some t → (s : S) × (o ≡ Some s)) [
      | None ↦ λ e. absurd (none-some t e)
      | Some s ↦ λ _. (s, refl)
    ] (sym (run-append step start front rest) ∙ whole)

-- a front through which the machine runs begins a text of P
pub runs_viable : {S : Type 0} {step : S → ℕ → Option S} {start : S} {IsEnd : S → Type 0} {P : List ℕ → Type 0} → Accepts step start IsEnd P → (front : List ℕ) (s : S) → run step start front ≡ Some s → IsViable P front
runs_viable {S} {step} {start} {IsEnd} {P} knows front s stands =
    let (rest, t, goes, end) = knows.completes front s stands in
    (rest, knows.to (front ++ rest) t (run-append step start front rest ∙ ap (option_and_then (λ u. run step u rest)) stands ∙ goes) end)

-- the machine runs through each front that begins a text of P
pub viable_runs : {S : Type 0} {step : S → ℕ → Option S} {start : S} {IsEnd : S → Type 0} {P : List ℕ → Type 0} → Accepts step start IsEnd P → (front : List ℕ) → IsViable P front → (s : S) × (run step start front ≡ Some s)
viable_runs {step = step} {start = start} knows front (rest, text) =
    let (t, whole, end) = knows.from (front ++ rest) text in
    run_front step start t front rest whole

-- The machine stops at a byte: that is the first bad place.
pub stopped_first_bad : {S : Type 0} {step : S → ℕ → Option S} {start : S} {IsEnd : S → Type 0} {P : List ℕ → Type 0} → Accepts step start IsEnd P
    → (text : List ℕ) (place : ℕ) (s : S) → place < length text → run step start (take place text) ≡ Some s → step s (get_or text place 0) ≡ None → IsFirstBadOf P text place
stopped_first_bad {S} {step} {start} {IsEnd} {P} knows text place s inside stands stops =
    record {
      refused = λ p. ended inside (drop (place + 1) text, subst P (sym (take-append-drop (place + 1) text)) p);
      within = omega arith;
      begun = runs_viable knows (take place text) s stands;
      ended = ended;
    }
  where
    no_run : run step start (take (place + 1) text) ≡ None
    no_run = ap (run step start) (take_more text place 0 inside) ∙ run-snoc step start s (take place text) (get_or text place 0) stands ∙ stops

    ended : place < length text → IsViable P (take (place + 1) text) → ⊥
    ended _ viable = let (t, goes) = viable_runs knows (take (place + 1) text) viable in none-some t (sym no_run ∙ goes)

-- The machine runs through a text and stands at no end there: the first bad place is the text's length.
pub unended_first_bad : {S : Type 0} {step : S → ℕ → Option S} {start : S} {IsEnd : S → Type 0} {P : List ℕ → Type 0} → Accepts step start IsEnd P
    → (text : List ℕ) (s : S) → run step start text ≡ Some s → (IsEnd s → ⊥) → IsFirstBadOf P text (length text)
unended_first_bad {S} {step} {start} {IsEnd} {P} knows text s stands unended =
    record {
      refused = λ p. let (t, goes, end) = knows.from text p in unended (subst IsEnd (same_Some t s (sym goes ∙ stands)) end);
      within = omega arith;
      begun = subst (IsViable P) (sym (take-length text)) (runs_viable knows text s stands);
      ended = λ inside _. absurd (omega (arith, inside));
    }

-- one byte further in a text
pub run_further : {S : Type 0} (step : S → ℕ → Option S) (start s t : S) (text : List ℕ) (place : ℕ) → place < length text → run step start (take place text) ≡ Some s → Some t ≡ step s (get_or text place 0) → run step start (take (place + 1) text) ≡ Some t
run_further step start s t text place inside stands goes =
    ap (run step start) (take_more text place 0 inside) ∙ run-snoc step start s (take place text) (get_or text place 0) stands ∙ sym goes

-- one byte further, where the machine goes on
abbrev pub further : {S : Type 0} → (S → ℕ) → Option S → ℕ
further go None = 0
further go (Some t) = suc (go t)

-- the length of the longest front of the bytes on which the machine runs
abbrev pub reach : {S : Type 0} → (S → ℕ → Option S) → S → List ℕ → ℕ
reach step s [] = 0
reach step s (byte ∷ bytes) = further (λ t. reach step t bytes) (step s byte)

abbrev pub or_place : {V : Type 0} → ℕ → Option V → Result V ℕ
or_place place None = Err place
or_place place (Some value) = Ok value

-- what a text means: its value where the machine runs through it to an end, else how far the machine runs
abbrev pub meant_by : {S V : Type 0} → (S → ℕ → Option S) → (S → Option V) → S → List ℕ → Result V ℕ
meant_by step end start text = or_place (reach step start text) (option_and_then end (run step start text))

-- the machine stands at an end behind the text
pub ended_meant : {S V : Type 0} (step : S → ℕ → Option S) (end : S → Option V) (start s : S) (text : List ℕ) (value : V)
    → run step start text ≡ Some s → end s ≡ Some value → meant_by step end start text ≡ Ok value
ended_meant step end start s text value stands ends = ap (λ o. or_place (reach step start text) (option_and_then end o)) stands ∙ ap (or_place (reach step start text)) ends

-- a machine that runs through the bytes reaches all of them
pub reach_all : {S : Type 0} (step : S → ℕ → Option S) (s t : S) (bytes : List ℕ) → run step s bytes ≡ Some t → reach step s bytes ≡ length bytes
reach_all step s t [] goes = refl
reach_all {S} step s t (byte ∷ bytes) goes =
    elim (step s byte) as (λ o. option_and_then (λ u. run step u bytes) o ≡ Some t → further (λ u. reach step u bytes) o ≡ suc (length bytes)) [
      | None ↦ λ e. absurd (none-some t e)
      | Some u ↦ λ e. ap suc (reach_all step u t bytes e)
    ] goes

-- the machine runs through the text and stands at no end
pub unended_meant : {S V : Type 0} (step : S → ℕ → Option S) (end : S → Option V) (start s : S) (text : List ℕ)
    → run step start text ≡ Some s → end s ≡ None → meant_by step end start text ≡ Err (length text)
unended_meant step end start s text stands unended =
    ap (λ o. or_place (reach step start text) (option_and_then end o)) stands ∙ ap (or_place (reach step start text)) unended ∙ ap Err (reach_all step start s text stands)

-- the machine stops at a byte: it reaches the bytes before it, and runs through no more
pub stopped_reach : {S : Type 0} (step : S → ℕ → Option S) (start s : S) (text : List ℕ) (place : ℕ)
    → place < length text → run step start (take place text) ≡ Some s → step s (get_or text place 0) ≡ None → (run step start text ≡ None) × (reach step start text ≡ place)
stopped_reach step start s [] place inside stands stops = absurd (omega (arith, inside))
stopped_reach step start s (byte ∷ bytes) zero inside stands stops =
    let here : step start byte ≡ None = ap (λ u. step u byte) (same_Some start s stands) ∙ stops in
    (ap (option_and_then (λ u. run step u bytes)) here, ap (further (λ u. reach step u bytes)) here)
stopped_reach {S} step start s (byte ∷ bytes) (suc place) inside stands stops =
    elim (step start byte) as (λ o. option_and_then (λ u. run step u (take place bytes)) o ≡ Some s → (option_and_then (λ u. run step u bytes) o ≡ None) × (further (λ u. reach step u bytes) o ≡ suc place)) [
      | None ↦ λ e. absurd (none-some s e)
      | Some u ↦ λ e. let rest = stopped_reach step u s bytes place (omega (arith, inside)) e stops in (rest.0, ap suc rest.1)
    ] stands

pub stopped_meant : {S V : Type 0} (step : S → ℕ → Option S) (end : S → Option V) (start s : S) (text : List ℕ) (place : ℕ)
    → place < length text → run step start (take place text) ≡ Some s → step s (get_or text place 0) ≡ None → meant_by step end start text ≡ Err place
stopped_meant step end start s text place inside stands stops =
    let (none, far) = stopped_reach step start s text place inside stands stops in
    ap (λ o. or_place (reach step start text) (option_and_then end o)) none ∙ ap Err far
