use Rattle.offer_terms.specs.Demanded.{wanted}
use Rattle.selection_check.proofs.RaiseLemmas.{raise_found}
use Rattle.selection_check.proofs.raising.raisable.Goals as goal

pub returns-clause-raise : goal.returns-clause-raise
returns-clause-raise c =
    raise_found c.args.book.now (wanted c.args.demand.now) c.args.selection.now.items c.open_allowed.new.table _ c.requires.valid c.open_allowed.ensures.opens c.julia_version-julia.ensures c.least_raise.result c.least_raise.ensures
