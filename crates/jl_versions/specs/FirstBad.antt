-- Laws of first bad places, and of what a machine tells of a text, for any set P of texts that it knows.
--     one_place           a text has at most one first bad place
--     value_meant         `meant_by` gives a value exactly where the machine runs to an end with it
--     place_meant         `meant_by` gives a place exactly where that is the first bad place of P
use Rattle.std.specs.Prelude.{◌≡◌, ℕ, suc, ◌+◌, ◌<◌, ◌≤◌, ◌↔◌, List, [], ◌∷◌, ◌++◌, length, take, Option, None, Some, Ok, Err, refl}
use Rattle.std.specs.Option.{option_and_then}
use Rattle.std.proofs.Common.{sym, ◌∙◌, ap, subst, arith, get_or, drop, inl, inr, append_assoc}
use Rattle.std.proofs.lemmas.Bool.{cases_order}
use Rattle.std.proofs.lemmas.List.{take-append-drop}
use Rattle.std.proofs.lemmas.Option.{none-some}
use Rattle.std.proofs.Math.Seq.{take-take}
use Rattle.jl_versions.specs.Machine.{IsViable, IsFirstBadOf, run, Accepts, stopped_first_bad, unended_first_bad, reach, further, reach_all, or_place, meant_by}

-- ---- one place

-- what begins a longer front begins a text
shorter : (P : List ℕ → Type 0) (text : List ℕ) (a b : ℕ) → a ≤ b → IsViable P (take b text) → IsViable P (take a text)
shorter P text a b le (rest, text_of) = (drop a (take b text) ++ rest, subst P (sym whole) text_of)
  where
    whole : take a text ++ (drop a (take b text) ++ rest) ≡ take b text ++ rest
    whole =
        sym (append_assoc (take a text) (drop a (take b text)) rest)
        ∙ ap (λ t. (t ++ drop a (take b text)) ++ rest) (sym (take-take a b text le))
        ∙ ap (λ t. t ++ rest) (take-append-drop a (take b text))

earlier : (P : List ℕ → Type 0) (text : List ℕ) (a b : ℕ) → IsFirstBadOf P text a → IsFirstBadOf P text b → a < b → ⊥
earlier P text a b first second lt = first.ended (omega (arith, second.within)) (shorter P text (a + 1) b (omega arith) second.begun)

pub one_place : (P : List ℕ → Type 0) (text : List ℕ) (a b : ℕ) → IsFirstBadOf P text a → IsFirstBadOf P text b → a ≡ b
one_place P text a b first second =
    elim (cases_order a b) [
      | inl same ↦ same
      | inr other ↦ elim other [ inl lt ↦ absurd (earlier P text a b first second lt) | inr gt ↦ absurd (earlier P text b a second first gt) ]
    ]

-- ---- where a machine stops

record IsStopAt {S : Type 0} (step : S → ℕ → Option S) (start : S) (text : List ℕ) (place : ℕ) : Type 0 where
  pub far : reach step start text ≡ place
  pub inside : place < length text
  pub stage : S
  pub stands : run step start (take place text) ≡ Some stage
  pub stops : step stage (get_or text place 0) ≡ None

-- a machine that doesn't run through a text stops at one of its bytes
stop_at : {S : Type 0} (step : S → ℕ → Option S) (s : S) (text : List ℕ) → run step s text ≡ None → (place : ℕ) × IsStopAt step s text place
stop_at step s [] none = absurd (none-some s (sym none))
stop_at {S} step s (byte ∷ bytes) none =
    elim (step s byte) as (λ o. step s byte ≡ o → option_and_then (λ t. run step t bytes) o ≡ None → (place : ℕ) × IsStopAt step s (byte ∷ bytes) place) [
      | None ↦ λ here _. (0, record { far = ap (further (λ t. reach step t bytes)) here; inside = omega arith; stage = s; stands = refl; stops = here })
      | Some t ↦ λ here later.
          let (place, stop) = stop_at step t bytes later in (
            suc place,
            record {
              far = ap (further (λ u. reach step u bytes)) here ∙ ap suc stop.far;
              inside = omega (arith, stop.inside);
              stage = stop.stage;
              stands = ap (option_and_then (λ u. run step u (take place bytes))) here ∙ stop.stands;
              stops = stop.stops;
            },
          )
    ] refl none

-- ---- what a text means, by a machine that knows P

no_value : {V : Type 0} (place : ℕ) (value : V) → Err place ≡ Ok value → ⊥
no_value place value e = cc

same_value : {V : Type 0} (v w : V) (place : ℕ) → or_place place (Some v) ≡ Ok w → Some v ≡ Some w
same_value v w place e = cc

same_place : {V : Type 0} (a b : ℕ) → or_place {V = V} a None ≡ Err b → a ≡ b
same_place a b e = cc

-- a value is meant exactly where the machine runs to an end with it
pub value_meant : {S V : Type 0} (step : S → ℕ → Option S) (end : S → Option V) (start : S) (text : List ℕ) (value : V)
    → (meant_by step end start text ≡ Ok value) ↔ (option_and_then end (run step start text) ≡ Some value)
value_meant {S} {V} step end start text value = (given (option_and_then end (run step start text)), λ e. ap (or_place (reach step start text)) e)
  where
    given : (o : Option V) → or_place (reach step start text) o ≡ Ok value → o ≡ Some value
    given None e = absurd (no_value (reach step start text) value e)
    given (Some v) e = same_value v value (reach step start text) e

-- The stages at which the machine has a value are those at which a text of P may end.
pub record Ends {S V : Type 0} (end : S → Option V) (IsEnd : S → Type 0) : Type 0 where
  pub to : (s : S) (value : V) → end s ≡ Some value → IsEnd s
  pub not_at : (s : S) → end s ≡ None → IsEnd s → ⊥

module _ {S V : Type 0} {step : S → ℕ → Option S} {start : S} {IsEnd : S → Type 0} {P : List ℕ → Type 0} (end : S → Option V) (ends : Ends end IsEnd) (knows : Accepts step start IsEnd P) where
  -- without a value the machine goes as far as the first bad place
  far_bad : (text : List ℕ) → option_and_then end (run step start text) ≡ None → IsFirstBadOf P text (reach step start text)
  far_bad text none =
      elim (run step start text) as (λ o. run step start text ≡ o → option_and_then end o ≡ None → IsFirstBadOf P text (reach step start text)) [
        | None ↦ λ e _. let (place, stop) = stop_at step start text e in subst (IsFirstBadOf P text) (sym stop.far) (stopped_first_bad knows text place stop.stage stop.inside stop.stands stop.stops)
        | Some s ↦ λ e unended. subst (IsFirstBadOf P text) (sym (reach_all step start s text e)) (unended_first_bad knows text s e (ends.not_at s unended))
      ] refl none

  -- with a value the text is one of P
  valued_known : (text : List ℕ) (value : V) → option_and_then end (run step start text) ≡ Some value → P text
  valued_known text value some =
      elim (run step start text) as (λ o. run step start text ≡ o → option_and_then end o ≡ Some value → P text) [
        | None ↦ λ _ e. absurd (none-some value e)
        | Some s ↦ λ e is. knows.to text s e (ends.to s value is)
      ] refl some

  -- a place is meant exactly where it is the first bad place
  pub place_meant : (text : List ℕ) (place : ℕ) → (meant_by step end start text ≡ Err place) ↔ IsFirstBadOf P text place
  place_meant text place = (
    λ e. given (option_and_then end (run step start text)) refl e,
    λ bad. back (option_and_then end (run step start text)) refl bad,
  )
    where
      given : (o : Option V) → option_and_then end (run step start text) ≡ o → or_place (reach step start text) o ≡ Err place → IsFirstBadOf P text place
      given None none e = subst (IsFirstBadOf P text) (same_place (reach step start text) place e) (far_bad text none)
      given (Some v) some e = absurd (no_value place v (sym e))

      back : (o : Option V) → option_and_then end (run step start text) ≡ o → IsFirstBadOf P text place → or_place (reach step start text) o ≡ Err place
      back None none bad = ap Err (one_place P text (reach step start text) place (far_bad text none) bad)
      back (Some v) some bad = absurd (bad.refused (valued_known text v some))
