-- A machine that reads what a function on texts reads knows the texts on which that function has a value.
use Rattle.std.proofs.Common.{◌≡◌, ℕ, List, [], ◌∷◌, Option, Some, None, refl, sym, ap, subst, ◌∙◌, length, take, take_all, ◌≤◌}
use Rattle.std.specs.Prelude.{IsSome}
use Rattle.jl_versions.specs.Machine.{run, Accepts}
use Rattle.compat_spec.specs.Pieces.{◌>>=◌}

-- What is read from each state on goes on as the machine's steps do.
pub record Follows {S Y : Type 0} (step : S → ℕ → Option S) (end : S → Option Y) (from : S → List ℕ → Option Y) : Type 0 where
  pub ends : (s : S) → from s [] ≡ end s
  pub goes : (s : S) (byte : ℕ) (bytes : List ℕ) → from s (byte ∷ bytes) ≡ (step s byte >>= λ after. from after bytes)
  pub completes : (s : S) → (rest : List ℕ) × IsSome (run step s rest >>= end)

pub follows_run : {S Y : Type 0} (step : S → ℕ → Option S) (end : S → Option Y) (from : S → List ℕ → Option Y) → Follows step end from
    → (bytes : List ℕ) (s : S) → from s bytes ≡ (run step s bytes >>= end)
follows_run step end from follows [] s = follows.ends s
follows_run {S} {Y} step end from follows (byte ∷ bytes) s =
    follows.goes s byte bytes
    ∙ elim (step s byte) as (λ (o : Option S). (o >>= λ after. from after bytes) ≡ ((o >>= λ after. run step after bytes) >>= end)) [
      | None ↦ refl
      | Some after ↦ follows_run step end from follows bytes after
    ]

pub follows_accepts : {S Y : Type 0} (step : S → ℕ → Option S) (end : S → Option Y) (from : S → List ℕ → Option Y) → Follows step end from
    → (start : S) (read : List ℕ → Option Y) → ((text : List ℕ) → read text ≡ from start text) → Accepts step start (λ s. IsSome (end s)) (λ text. IsSome (read text))
follows_accepts {S} {Y} step end from follows start read same =
    record {
      from = λ text some. ended (run step start text) (subst (λ (o : Option Y). IsSome o) (whole text) some);
      to = λ text s stands some. subst (λ (o : Option Y). IsSome o) (sym (whole text)) (subst (λ (o : Option S). IsSome (o >>= end)) (sym stands) some);
      completes = λ front s stands. let (rest, some) = follows.completes s in let (t, goes, is_end) = ended (run step s rest) some in (rest, t, goes, is_end);
    }
  where
    whole : (text : List ℕ) → read text ≡ (run step start text >>= end)
    whole text = same text ∙ follows_run step end from follows text start

    ended : (o : Option S) → IsSome (o >>= end) → (s : S) × (o ≡ Some s) × IsSome (end s)
    ended None some = absurd cc
    ended (Some s) some = (s, refl, some)

-- at a state that is no end
pub no_end : {Y : Type 0} (o : Option Y) → o ≡ None → IsSome o → ⊥
no_end o e some = cc

-- a run over all of a text
pub run_whole : {S : Type 0} (step : S → ℕ → Option S) (start s : S) (text bytes : List ℕ) (place : ℕ) → bytes ≡ text → length bytes ≤ place → run step start (take place bytes) ≡ Some s → run step start text ≡ Some s
run_whole step start s text bytes place same past stands = ap (run step start) (sym (take_all place bytes past ∙ same)) ∙ stands
