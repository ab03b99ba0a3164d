-- What is found at the first place that passes a test.
use Rattle.std.proofs.Common.{◌≡◌, ℕ, ◌+◌, ◌<◌, ◌≤◌, Bool, true, false, not, cond, ltb, List, [], ◌∷◌, map, length, Some, None, option_map, bytes_eq, refl, sym, ap, ◌∙◌, arith}
use Rattle.std.specs.Prelude.{find, position, slice_get}
use Rattle.std.specs.List.{position_or_len}
use Rattle.std.specs.Map.{lookup}
use Rattle.std.proofs.lemmas.List.{length-map}
use Rattle.std.proofs.lemmas.List.Folds.{find_at}
use Rattle.std.proofs.lemmas.Option.{none-some, same_Some, slice_get_past}
use Rattle.std.proofs.lemmas.Bool.Decides.{nat_tests}

-- the first place that passes is within the list
pub position_at : {X : Type 0} (p : X → Bool) (xs : List X) (i : ℕ) → position_or_len p xs ≡ i → i < length xs → Some i ≡ position p xs
position_at p xs i first inside = grind (arith, nat_tests, first, inside)

-- no place passes
pub position_past : {X : Type 0} (p : X → Bool) (xs : List X) → position_or_len p xs ≡ length xs → None ≡ position p xs
position_past p xs past = grind (arith, nat_tests, past)

-- a place that passes is within the list
pub position_within : {X : Type 0} (p : X → Bool) (xs : List X) (i : ℕ) → Some i ≡ position p xs → i < length xs
position_within {X} p xs i at =
    elim (ltb (position_or_len p xs) (length xs)) as (λ b. ltb (position_or_len p xs) (length xs) ≡ b → Some i ≡ cond b (Some (position_or_len p xs)) None → i < length xs) [
      | true ↦ λ test e. inside test (same_Some i (position_or_len p xs) e)
      | false ↦ λ _ e. absurd (none-some i (sym e))
    ] refl at
  where
    inside : ltb (position_or_len p xs) (length xs) ≡ true → i ≡ position_or_len p xs → i < length xs
    inside test same = grind (arith, nat_tests, test, same)

-- what stands at the first place is what is found
pub find_there : {X : Type 0} (p : X → Bool) (xs : List X) (i : ℕ) → Some i ≡ position p xs → find p xs ≡ slice_get xs i
find_there {X} p xs i at =
    elim (ltb (position_or_len p xs) (length xs)) as (λ b. Some i ≡ cond b (Some (position_or_len p xs)) None → find p xs ≡ slice_get xs i) [
      | true ↦ λ e. find_at p xs ∙ ap (slice_get xs) (sym (same_Some i (position_or_len p xs) e))
      | false ↦ λ e. absurd (none-some i (sym e))
    ] at

-- nothing is found where no place passes
pub find_nowhere : {X : Type 0} (p : X → Bool) (xs : List X) → None ≡ position p xs → find p xs ≡ None
find_nowhere {X} p xs nowhere =
    elim (ltb (position_or_len p xs) (length xs)) as (λ b. ltb (position_or_len p xs) (length xs) ≡ b → None ≡ cond b (Some (position_or_len p xs)) None → find p xs ≡ None) [
      | true ↦ λ _ e. absurd (none-some (position_or_len p xs) e)
      | false ↦ λ test _. find_at p xs ∙ slice_get_past xs (position_or_len p xs) (past test)
    ] refl nowhere
  where
    past : ltb (position_or_len p xs) (length xs) ≡ false → length xs ≤ position_or_len p xs
    past test = grind (arith, nat_tests, test)

-- ---- places in a list that is made of another

first-map : {X Y : Type 0} (f : X → Y) (p : Y → Bool) (xs : List X) → position_or_len p (map f xs) ≡ position_or_len (λ x. p (f x)) xs
first-map f p [] = refl
first-map f p (x ∷ xs) = ap (λ n. cond (not (p (f x))) (1 + n) 0) (first-map f p xs)

pub position-map : {X Y : Type 0} (f : X → Y) (p : Y → Bool) (xs : List X) → position p (map f xs) ≡ position (λ x. p (f x)) xs
position-map f p xs = λ i. cond (ltb (first-map f p xs i) (length-map xs f i)) (Some (first-map f p xs i)) None

-- ---- in pairs

-- the second part of the first pair whose first part is that
pub find-version : {T : Type 0} (es : List (List ℕ × T)) (u : List ℕ) → option_map (λ e. e.1) (find (λ e. bytes_eq u e.0) es) ≡ lookup (bytes_eq u) es
find-version [] u = refl
find-version (e ∷ es) u =
    elim (bytes_eq u e.0) as (λ b. option_map (λ e. e.1) (cond b (Some e) (find (λ e. bytes_eq u e.0) es)) ≡ cond b (Some e.1) (lookup (bytes_eq u) es)) [
      | true ↦ refl
      | false ↦ find-version es u
    ]
