-- A selection is valid exactly where it breaks no clause, and has one verdict.
use Rattle.std.proofs.Common.{◌≡◌, ℕ, zero, suc, Bool, true, false, true≢false, ◌⊎◌, List, [], Option, Some, None, Ordering, Less, Equal, Greater, nat_cmp, is_eq, is_lt, refl, sym, ap, ◌∙◌, inl, inr, cond, ltb, ne_eqb}
use Rattle.std.specs.Cmp.{IsTotalOrder, on_total, then_total, nat_cmp_total}
use Rattle.std.specs.Cmp.Lexicographic.{slice_cmp}
use Rattle.std.specs.Option.{option_cmp, unwrap_or}
use Rattle.std.specs.Ordering.{ordering_then}
use Rattle.std.proofs.lemmas.Bool.{cases_eq}
use Rattle.std.proofs.lemmas.Map.Text.{is_eq-slice_cmp}
use Rattle.offer_terms.specs.Offered.{Id, Selected}
use Rattle.offer_terms.specs.Booked.{Packed, book_offers}
use Rattle.offer_terms.specs.Demanded.{Wanted}
use Rattle.offer_terms.specs.Feasible.{IsValid}
use Rattle.selection_check.specs.Order.{rank, id_cmp, pair_cmp}
use Rattle.selection_check.specs.Verdicts.{Breaks, clause_of, verdict_cmp, IsFirstBreach, IsVerdict}
use Rattle.selection_check.specs.Laws.{ValidBreaksNone, OneVerdict}
use Rattle.selection_check.specs.declared.verdict.Verdict.{Verdict}
use Rattle.selection_check.specs.declared.verdict.Verdict.TheVariants.{Good, MissingRoot, NoOffer, MissingDep, Outside, PinBroken, Unneeded}
use Rattle.selection_check.proofs.Ranks.{same_id}
use Rattle.selection_check.proofs.Orders.{firsts_tied, pair_total}
use Rattle.selection_check.proofs.Exits.{feasible, valid, breaks_none}

pub valid_breaks_none : ValidBreaksNone
valid_breaks_none o w s once = (to, λ is v broken. breaks_none o w s is v broken)
  where
    to : ((v : Verdict) → Breaks o w s v → ⊥) → IsValid o w s
    to none = valid o w s
        (feasible o w s once (λ u. none (MissingRoot u)) (λ u. none (NoOffer u)) (λ x. none (MissingDep x.0 x.1)) (λ d. none (Outside None d)) (λ x. none (Outside (Some x.0) x.1)) (λ u. none (PinBroken u)))
        (λ u. none (Unneeded u))

-- ---- one verdict

verdict_total : (book : List Packed) → IsTotalOrder (verdict_cmp book)
verdict_total book = on_total clause_of (then_total (on_total (λ (x : ℕ × (Option Id × Id)). x.0) nat_cmp_total) (on_total (λ (x : ℕ × (Option Id × Id)). x.1) (pair_total book)))

both_level : (a b : Ordering) → ordering_then a b ≡ Equal → (a ≡ Equal) × (b ≡ Equal)
both_level Less b e = absurd (true≢false (ap is_lt e))
both_level Equal b e = (refl, e)
both_level Greater b e = absurd (true≢false (sym (ap is_eq e)))

never_level : (b : Bool) → cond b Less Greater ≡ Equal → ⊥
never_level true e = true≢false (ap is_lt e)
never_level false e = true≢false (sym (ap is_eq e))

same_number : (m n : ℕ) → nat_cmp m n ≡ Equal → m ≡ n
same_number m n e = elim (cases_eq m n) [
  | inl same ↦ same
  | inr ne ↦ absurd (never_level (ltb m n) (sym (ap (λ b. cond (ltb m n) Less (cond b Equal Greater)) (ne_eqb m n ne)) ∙ e))
]

same_place : (book : List Packed) (u t : Id) → id_cmp book u t ≡ Equal → u ≡ t
same_place book u t e =
    let parts = both_level (nat_cmp (rank book u) (rank book t)) (slice_cmp nat_cmp u t) e in
    same_id u t (sym (is_eq-slice_cmp u t) ∙ ap is_eq parts.1)

same_giver : (book : List Packed) (g h : Option Id) → option_cmp (id_cmp book) g h ≡ Equal → g ≡ h
same_giver book None None e = refl
same_giver book None (Some t) e = absurd (true≢false (ap is_lt e))
same_giver book (Some u) None e = absurd (true≢false (sym (ap is_eq e)))
same_giver book (Some u) (Some t) e = ap Some (same_place book u t e)

-- the verdict of a clause and the packages that it names
abbrev verdict_of : ℕ → Option Id × Id → Verdict
verdict_of zero x = Good
verdict_of (suc zero) x = MissingRoot x.1
verdict_of (suc (suc zero)) x = NoOffer x.1
verdict_of (suc (suc (suc zero))) x = MissingDep (unwrap_or x.0 []) x.1
verdict_of (suc (suc (suc (suc zero)))) x = Outside x.0 x.1
verdict_of (suc (suc (suc (suc (suc zero))))) x = PinBroken x.1
verdict_of (suc (suc (suc (suc (suc (suc n)))))) x = Unneeded x.1

read_back : (v : Verdict) → verdict_of (clause_of v).0 (clause_of v).1 ≡ v
read_back Good = refl
read_back (MissingRoot u) = refl
read_back (NoOffer u) = refl
read_back (MissingDep u d) = refl
read_back (Outside g d) = refl
read_back (PinBroken u) = refl
read_back (Unneeded u) = refl

same_verdict : (book : List Packed) (a b : Verdict) → verdict_cmp book a b ≡ Equal → a ≡ b
same_verdict book a b e =
    let parts = both_level (nat_cmp (clause_of a).0 (clause_of b).0) (pair_cmp book (clause_of a).1 (clause_of b).1) e in
    let names = both_level (option_cmp (id_cmp book) (clause_of a).1.0 (clause_of b).1.0) (id_cmp book (clause_of a).1.1 (clause_of b).1.1) parts.1 in
    let number = same_number (clause_of a).0 (clause_of b).0 parts.0 in
    let giver = same_giver book (clause_of a).1.0 (clause_of b).1.0 names.0 in
    let named = same_place book (clause_of a).1.1 (clause_of b).1.1 names.1 in
    sym (read_back a) ∙ (λ i. verdict_of (number i) (giver i, named i)) ∙ read_back b

-- a verdict is that the selection is valid, or the first breach
verdict_case : (book : List Packed) (w : Wanted) (s : Selected) (v : Verdict) → IsVerdict book w s v → ((v ≡ Good) × IsValid (book_offers book) w s) ⊎ IsFirstBreach book w s v
verdict_case book w s Good is = inl (refl, is)
verdict_case book w s (MissingRoot u) is = inr is
verdict_case book w s (NoOffer u) is = inr is
verdict_case book w s (MissingDep u d) is = inr is
verdict_case book w s (Outside g d) is = inr is
verdict_case book w s (PinBroken u) is = inr is
verdict_case book w s (Unneeded u) is = inr is

pub one_verdict : OneVerdict
one_verdict book w s a b is other = elim (verdict_case book w s a is) [
  | inl good ↦ elim (verdict_case book w s b other) [
    | inl too ↦ good.0 ∙ sym too.0
    | inr breach ↦ absurd (breaks_none (book_offers book) w s good.1 b breach.here)
  ]
  | inr breach ↦ elim (verdict_case book w s b other) [
    | inl good ↦ absurd (breaks_none (book_offers book) w s good.1 a breach.here)
    | inr too ↦ same_verdict book a b (firsts_tied (verdict_total book) (Breaks (book_offers book) w s) a b breach too)
  ]
]
