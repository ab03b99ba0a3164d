use Rattle.offer_terms.specs.Demanded.{wanted}
use Rattle.resolve_core.proofs.resolving.resolve_in.Goals as goal

pub search_instance-requires : goal.search_instance-requires
search_instance-requires c = c.stands_plain.ensures c.args.book.now (wanted c.args.demand.now) c.args.instance.now c.requires.stands
