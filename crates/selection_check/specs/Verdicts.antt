-- What a selection's verdict is: good exactly where it is valid, else the first clause that it breaks, at the packages that
-- stand first. (own rule)
--     Breaks o w s v        the selection breaks the clause that v names, at the packages that v names
--     IsVerdict b w s v     v is the verdict over what the book offers
use Rattle.std.specs.Prelude.{ℕ, List, [], Option, Some, None}
use Rattle.std.specs.Ordering.{nat_cmp, on, then_cmp}
use Rattle.std.specs.declared.cmp.Ordering.{Ordering}
use Rattle.offer_terms.specs.Offered.{Id, Offers, Selected}
use Rattle.offer_terms.specs.Booked.{Packed, book_offers}
use Rattle.offer_terms.specs.Demanded.{Wanted}
use Rattle.offer_terms.specs.Feasible.{IsValid}
use Rattle.selection_check.specs.Order.{pair_cmp, IsFirst}
use Rattle.selection_check.specs.Breaches.{LacksRoot, LacksOffer, LacksDep, HasOutside, BreaksPin, IsSpare}
use Rattle.selection_check.specs.declared.verdict.Verdict.{Verdict}
use Rattle.selection_check.specs.declared.verdict.Verdict.TheVariants.{Good, MissingRoot, NoOffer, MissingDep, Outside, PinBroken, Unneeded}

abbrev pub Breaks : Offers → Wanted → Selected → Verdict → Type 0
Breaks o w s Good = ⊥
Breaks o w s (MissingRoot u) = LacksRoot w s u
Breaks o w s (NoOffer u) = LacksOffer o s u
Breaks o w s (MissingDep u d) = LacksDep o s u d
Breaks o w s (Outside g d) = HasOutside o w s (g, d)
Breaks o w s (PinBroken u) = BreaksPin w s u
Breaks o w s (Unneeded u) = IsSpare o w s u

-- the clauses in their order, each with the packages that it names
abbrev pub clause_of : Verdict → ℕ × (Option Id × Id)
clause_of Good = (0, (None, []))
clause_of (MissingRoot u) = (1, (None, u))
clause_of (NoOffer u) = (2, (None, u))
clause_of (MissingDep u d) = (3, (Some u, d))
clause_of (Outside g d) = (4, (g, d))
clause_of (PinBroken u) = (5, (None, u))
clause_of (Unneeded u) = (6, (None, u))

abbrev pub verdict_cmp : List Packed → Verdict → Verdict → Ordering
verdict_cmp book = on clause_of (then_cmp (on (λ x. x.0) nat_cmp) (on (λ x. x.1) (pair_cmp book)))

abbrev pub IsFirstBreach : List Packed → Wanted → Selected → Verdict → Type 0
IsFirstBreach book w s v = IsFirst (verdict_cmp book) (Breaks (book_offers book) w s) v

abbrev pub IsVerdict : List Packed → Wanted → Selected → Verdict → Type 0
IsVerdict book w s Good = IsValid (book_offers book) w s
IsVerdict book w s (MissingRoot u) = IsFirstBreach book w s (MissingRoot u)
IsVerdict book w s (NoOffer u) = IsFirstBreach book w s (NoOffer u)
IsVerdict book w s (MissingDep u d) = IsFirstBreach book w s (MissingDep u d)
IsVerdict book w s (Outside g d) = IsFirstBreach book w s (Outside g d)
IsVerdict book w s (PinBroken u) = IsFirstBreach book w s (PinBroken u)
IsVerdict book w s (Unneeded u) = IsFirstBreach book w s (Unneeded u)
