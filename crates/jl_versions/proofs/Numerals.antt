-- Digits and the number that they mean, in std's words for what `parse` reads.
use Rattle.std.proofs.Common.{◌≡◌, ℕ, ◌^◌, ◌<◌, true, List, length, Some, None, Result, Ok, Err, cond, rules, sym, ◌∙◌, refl, ap}
use Rattle.std.specs.Prelude.{nat_lt}
use Rattle.std.specs.List.{list_all}
use Rattle.std.specs.Result.{OkIff, result_ok}
use Rattle.std.specs.Str.Parse.{ParsesUnsigned}
use Rattle.std.proofs.lemmas.Str.Parse.{IsNumeralModel, numerals_by_fold, parse_digits}
use Rattle.std.proofs.lemmas.Bool.{cond-true, lt-ltb, ltb-true}
use Rattle.jl_versions.specs.Words.{is_digit, number_of, number_after}

pub own : IsNumeralModel (λ ds. list_all is_digit ds ≡ true) number_of
own = numerals_by_fold _ (search rules) number_after (search rules)

-- what `parse` gives for digits is their number, where it fits
pub read_gives : {E : Type 0} (bs : List ℕ) (r : Result ℕ E) → ParsesUnsigned 64 10 bs r → list_all is_digit bs ≡ true → 0 < length bs
    → result_ok r ≡ cond (nat_lt (number_of bs) (2 ^ 64)) (Some (number_of bs)) None
read_gives {E} bs r read digits some = cases r (parse_digits own 64 bs r read digits)
  where
    cases : (r : Result ℕ E) → OkIff r ((0 < length bs) × (number_of bs < 2 ^ 64)) (number_of bs) → result_ok r ≡ cond (nat_lt (number_of bs) (2 ^ 64)) (Some (number_of bs)) None
    cases (Ok n) (p, e) = ap Some e ∙ sym (cond-true _ _ _ (lt-ltb (number_of bs) (2 ^ 64) p.1))
    cases (Err e) misfit = sym (elim (nat_lt (number_of bs) (2 ^ 64)) as (λ b. nat_lt (number_of bs) (2 ^ 64) ≡ b → cond b (Some (number_of bs)) None ≡ None) [ true ↦ λ t. absurd (misfit (some, ltb-true _ _ t)) | _ ↦ λ _. refl ] refl)
