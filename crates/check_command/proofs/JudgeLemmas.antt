-- The answer on a selection by what a book offers.
use Rattle.std.proofs.Common.{◌≡◌, ℕ, List, Some, None, Result, Ok, Err, IfOk, String, string_bytes, map, option_map, sym, ap, ◌∙◌}
use Rattle.std.specs.declared.alloc.Global.{Global}
use Rattle.std.specs.List.{slice_get}
use Rattle.std.proofs.lemmas.Option.{slice_get-map}
use Rattle.jl_versions.specs.declared.version.Version.{Version}
use Rattle.offer_terms.specs.Offered.{Id, Selected, offering}
use Rattle.offer_terms.specs.Booked.{Packed, package_at, book_offers}
use Rattle.offer_terms.specs.Demanded.{Wanted}
use Rattle.offer_terms.specs.Feasible.{IsValid}
use Rattle.offer_terms.specs.declared.offer.Offer.{Offer}
use Rattle.selection_check.specs.Laws.{ValidBreaksNone}
use Rattle.selection_check.specs.Raises.{IsLeastRaise, RaisesNone}
use Rattle.selection_check.specs.Verdicts.{IsFirstBreach}
use Rattle.selection_check.specs.declared.verdict.Verdict.{Verdict}
use Rattle.check_command.specs.CheckDue.{judged_by, claims_valid, raised_to, IsBreach, IsGood}
use Rattle.check_command.specs.Lines.{good_line, good_text}

-- a selection that breaks a clause isn't valid
pub breach_of : ValidBreaksNone → (book : List Packed) (w : Wanted) (s : Selected) (v : Verdict) → IsFirstBreach book w s v → IsBreach book w s v
breach_of law book w s v first = record { first = first; invalid = λ valid. (law (book_offers book) w s valid.feasible.once).1 valid v first.here }

-- the version of an offer of a package
pub raised_at : (book : List Packed) (p j : ℕ) (offers : List Offer) (x : Offer) (uuid : Id) → map offering offers ≡ (package_at book p).offers → slice_get offers j ≡ Some x
    → uuid ≡ (package_at book p).uuid → Some (uuid, x.version) ≡ raised_to book p j
raised_at book p j offers x uuid all there same =
    let here = ap (λ xs. slice_get xs j) (sym all) ∙ slice_get-map offering offers j ∙ ap (option_map offering) there in
    ap (λ u. Some (u, x.version)) same ∙ sym (ap (option_map (λ o. ((package_at book p).uuid, o.version))) here)

module _ (book : List Packed) (w : Wanted) (s : Selected) (valid : IsValid (book_offers book) w s) where
  -- what can be raised first is told
  pub good_raise : {E : Type 0} (p j : ℕ) → IsLeastRaise book w s p j → (result : Result (String Global) E) → IfOk result (λ text. string_bytes text ≡ good_text (raised_to book p j))
      → IfOk result (λ text. IsGood (judged_by book w (claims_valid s)) s (string_bytes text))
  good_raise p j least (Ok text) told =
      let raise : Id × Version = ((package_at book p).uuid, least.here.offer.version) in
      let named : raised_to book p j ≡ Some raise = ap (option_map (λ o. ((package_at book p).uuid, o.version))) least.here.there in
      record {
        valid = valid;
        raise = Some raise;
        raises = record { number = p; place = j; least = least; named = named; can = least.here.can };
        told = told ∙ ap good_text named;
      }
  good_raise p j least (Err fault) told = tt

  pub good_none : {E : Type 0} → RaisesNone book w s → (result : Result (String Global) E) → IfOk result (λ text. string_bytes text ≡ good_line)
      → IfOk result (λ text. IsGood (judged_by book w (claims_valid s)) s (string_bytes text))
  good_none none (Ok text) told = record { valid = valid; raise = None; raises = none; told = told }
  good_none none (Err fault) told = tt
