-- A list of one offer.
use Rattle.std.proofs.Common.{◌∷◌, ◌++◌, [], ap, ◌∙◌}
use Rattle.offer_book.proofs.SourceLemmas.{one-numbered, one-rises}
use Rattle.offer_book.proofs.source.alone.Goals as goal

pub returns-clause-numbered : goal.returns-clause-numbered
returns-clause-numbered c = one-numbered c.args.offer _ (c.in_ok-push.ensures.ok ∙ ap (λ list. list ++ c.args.offer ∷ []) c.make-list.ensures.items)

pub returns-clause-rising : goal.returns-clause-rising
returns-clause-rising c = one-rises c.args.offer _ (c.in_ok-push.ensures.ok ∙ ap (λ list. list ++ c.args.offer ∷ []) c.make-list.ensures.items)
