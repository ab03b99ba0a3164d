-- The package comes behind the others, with what was found of it.
use Rattle.std.proofs.Common.{◌≡◌, ◌∷◌, ◌++◌, [], option_map, arith, sym, ap, ◌∙◌, subst}
use Rattle.offer_book.specs.Made.{found_said, IsOfNumber}
use Rattle.offer_book.specs.Numbers.{packed_as}
use Rattle.offer_book.proofs.StepLemmas.{entered-new, ok-as}
use Rattle.offer_book.proofs.gathering.enter.Goals as goal

pub enter-requires : goal.enter-requires
enter-requires c = omega (arith, c.requires.number, c.requires.few)

pub enter_found-requires-clause-numbered : goal.enter_found-requires-clause-numbered
enter_found-requires-clause-numbered c = subst (IsOfNumber c.args.number) c.in-Some.is c.requires.numbered

pub returns-in-None : goal.returns-in-None
returns-in-None c =
    let book = c.args.book.now in
    ok-as c.enter.result _ _ _ (entered-new book c.args.uuid c.args.name.now c.requires.absent
    ∙ ap (λ found. book ++ packed_as (c.args.uuid, c.args.name.now) (option_map found_said found) ∷ []) (sym c.in-None.is)) c.enter.ensures.ok

pub returns-in-Some : goal.returns-in-Some
returns-in-Some c =
    let book = c.args.book.now in
    ok-as c.enter_found.result _ _ _ (ap (λ found. book ++ packed_as (c.args.uuid, c.args.name.now) (option_map found_said found) ∷ []) (sym c.in-Some.is)) c.enter_found.ensures
