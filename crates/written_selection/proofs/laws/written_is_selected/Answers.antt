use Rattle.written_selection.proofs.ReadBack.{written_is_selected, feasible_is_selected}
use Rattle.written_selection.proofs.laws.written_is_selected.Goals as goal

pub returns-clause-each : goal.returns-clause-each
returns-clause-each c =
    written_is_selected c.selection_is_said.ensures c.stanzas_say_offers.ensures c.last_stanza_is_selected.ensures.last c.last_stanza_is_selected.ensures.rising

pub returns-clause-feasible : goal.returns-clause-feasible
returns-clause-feasible c =
    feasible_is_selected c.selection_is_said.ensures c.stanzas_say_offers.ensures c.last_stanza_is_selected.ensures.last c.last_stanza_is_selected.ensures.rising c.feasible_alike.ensures.all
