-- A limit that is passed is told.
use Rattle.std.proofs.Common.{◌≡◌, ℕ, List, refl, inl, subst, sym}
use Rattle.offer_terms.specs.Booked.{Packed}
use Rattle.offer_terms.specs.Demanded.{Wanted}
use Rattle.version_graph.specs.declared.fault.GraphFault.{GraphFault}
use Rattle.version_graph.specs.declared.fault.GraphFault.TheVariants as instance
use Rattle.book_graph.specs.Limits.{IsPast}
use Rattle.command_answers.specs.Endings.{RefusesBy}
use Rattle.command_answers.specs.declared.status.Status.{Status}
use Rattle.log_check.specs.Limited.{IsJudgedBy, limit_status}

too_much : (book : List Packed) (w : Wanted) (Grants : List ℕ → Type 0) (Denies : Status → Type 0) (fault : GraphFault) → IsPast book w fault
    → RefusesBy (IsJudgedBy book w Grants Denies) (limit_status fault)
too_much book w Grants Denies (instance.Limit kind count) past = inl (record { kind = kind; count = count; past = past; told = refl })
too_much book w Grants Denies instance.Memory past = tt

-- a limit that is passed is told
pub limit_told : (book : List Packed) (w : Wanted) (Grants : List ℕ → Type 0) (Denies : Status → Type 0) (fault : GraphFault) (ended : Status) → IsPast book w fault
    → ended ≡ limit_status fault → RefusesBy (IsJudgedBy book w Grants Denies) ended
limit_told book w Grants Denies fault ended past same = subst (RefusesBy (IsJudgedBy book w Grants Denies)) (sym same) (too_much book w Grants Denies fault past)
