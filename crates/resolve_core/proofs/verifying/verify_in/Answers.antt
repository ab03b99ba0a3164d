use Rattle.offer_terms.specs.Demanded.{wanted}
use Rattle.resolve_core.proofs.verifying.verify_in.Goals as goal

pub refutes-requires-clause-plain : goal.refutes-requires-clause-plain
refutes-requires-clause-plain c = c.stands_plain.ensures c.args.book.now (wanted c.args.demand.now) c.args.instance.now c.requires.stands

pub returns-clause-none : goal.returns-clause-none
returns-clause-none c accepted =
    c.none_is_feasible.ensures c.args.book.now (wanted c.args.demand.now) c.args.instance.now c.requires.sound c.requires.stands (c.refutes.ensures.sound accepted)
