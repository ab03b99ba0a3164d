-- The next package is the one that was mentioned at its number.
use Rattle.std.proofs.Common.{◌≡◌, map, sym, ap, ◌∙◌}
use Rattle.std.specs.Prelude.{slice_get}
use Rattle.offer_terms.specs.Offered.{offering}
use Rattle.offer_book.specs.AllOffers.{found_in}
use Rattle.offer_book.specs.Made.{scope_of}
use Rattle.offer_book.specs.Numbers.{mention_all, deps_offered}
use Rattle.offer_book.proofs.GatherLemmas.{told-next, next-refused, told-none}
use Rattle.offer_book.proofs.StepLemmas.{next-absent, count-more, first-more}
use Rattle.offer_book.proofs.gathering.read_next.Goals as goal

pub enter_next-requires-clause-absent : goal.enter_next-requires-clause-absent
enter_next-requires-clause-absent g c =
    next-absent c.args.book.now c.args.mentions.now.entries c.args.number _ c.as_slice.ensures.unique c.requires.first c.requires.number
    (sym (c.in-Some.ensures.entry ∙ ap (λ es. slice_get es c.args.number) c.as_slice.ensures.entries))

pub returns-in-None-clause-told : goal.returns-in-None-clause-told
returns-in-None-clause-told g c =
    told-none _ (λ all. found_in all c.args.catalog.now (scope_of c.args.demand.now)) c.args.mentions.now.entries c.args.book.now c.args.number c.requires.number
    (sym (c.in-None.ensures.entry ∙ ap (λ es. slice_get es c.args.number) c.as_slice.ensures.entries))

pub returns-in-None-clause-next : goal.returns-in-None-clause-next
returns-in-None-clause-next g c =
    ap (slice_get c.args.mentions.now.entries) c.requires.number ∙ sym (c.in-None.ensures.entry ∙ ap (λ es. slice_get es c.args.number) c.as_slice.ensures.entries)

pub returns-in-Err-clause-told : goal.returns-in-Err-clause-told
returns-in-Err-clause-told g c =
    next-refused _ c.in-Err.fault (λ all. found_in all c.args.catalog.now (scope_of c.args.demand.now)) _ c.args.mentions.now.entries c.args.book.now c.args.number c.requires.number
    (sym (c.in-Some.ensures.entry ∙ ap (λ es. slice_get es c.args.number) c.as_slice.ensures.entries)) c.in-Err.ensures.told

pub returns-in_ok-mention_offers-in-Some-clause-told : goal.returns-in_ok-mention_offers-in-Some-clause-told
returns-in_ok-mention_offers-in-Some-clause-told g c =
    told-next _ (λ all. found_in all c.args.catalog.now (scope_of c.args.demand.now)) _ c.args.mentions.now.entries _ c.args.book.now _ c.args.number c.requires.number
    (sym (c.in-Some.ensures.entry ∙ ap (λ es. slice_get es c.args.number) c.as_slice.ensures.entries)) c.in-Ok.ensures.told
    (c.in_ok-mention_offers-in-Some.ensures ∙ ap (λ offers. mention_all c.args.mentions.now.entries (deps_offered offers)) c.offers.ensures.offers)

pub returns-in_ok-mention_offers-in-Some-clause-next : goal.returns-in_ok-mention_offers-in-Some-clause-next
returns-in_ok-mention_offers-in-Some-clause-next g c = (
  count-more c.args.book.now _ _ c.args.number c.requires.number c.in-Ok.ensures.one,
  first-more c.args.book.now _ c.args.mentions.now.entries _ (deps_offered (map offering c.offers.result.now)) c.args.number _ c.requires.number c.requires.first
      (sym (c.in-Some.ensures.entry ∙ ap (λ es. slice_get es c.args.number) c.as_slice.ensures.entries)) c.in-Ok.ensures.one c.in_ok-mention_offers-in-Some.ensures,
)
