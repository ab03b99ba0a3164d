-- The fixed package is found with or without the room of its lists.
use Rattle.std.proofs.Common.{ap, ◌∙◌, option_map}
use Rattle.offer_terms.specs.Demanded.{fixed_said}
use Rattle.offer_book.proofs.SourceLemmas.{fixed-found}
use Rattle.offer_book.proofs.source.fixed_at.Goals as goal

pub returns : goal.returns
returns c = ap (option_map fixed_said) c.get.ensures ∙ fixed-found c.args.uuid.now c.args.demand.now.fixed.items
