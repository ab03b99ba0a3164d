-- The package comes behind the others, with what its source says.
use Rattle.std.proofs.Common.{◌≡◌, ◌∷◌, [], length, map, arith, sym, ap, ◌∙◌}
use Rattle.std.proofs.lemmas.List.{length-append}
use Rattle.offer_terms.specs.Offered.{offering}
use Rattle.offer_terms.specs.Booked.{unread, filled}
use Rattle.offer_book.proofs.StepLemmas.{entered-new, filled-last}
use Rattle.offer_book.proofs.gathering.enter_found.Goals as goal

pub enter-requires : goal.enter-requires
enter-requires c = omega (arith, c.requires.number, c.requires.few)

pub fill-requires-clause-known : goal.fill-requires-clause-known
fill-requires-clause-known c =
    let book = c.args.book.now in
    let new = c.in_ok-enter.ensures.ok ∙ entered-new book c.args.uuid c.args.found.name c.requires.absent in
    omega (arith, ap length new, length-append book (unread c.args.uuid c.args.found.name ∷ []), c.requires.number)

pub fill-requires-clause-numbered : goal.fill-requires-clause-numbered
fill-requires-clause-numbered c = c.requires.numbered.0

pub fill-requires-clause-rising : goal.fill-requires-clause-rising
fill-requires-clause-rising c = c.requires.numbered.1

pub returns : goal.returns
returns c =
    let book = c.args.book.now in
    let offers = map offering c.args.found.offers.items in
    c.fill.ensures ∙ ap (λ b. filled b c.args.number offers) (c.in_ok-enter.ensures.ok ∙ entered-new book c.args.uuid c.args.found.name c.requires.absent)
    ∙ filled-last book c.args.uuid c.args.found.name offers c.args.number (sym c.requires.number)
