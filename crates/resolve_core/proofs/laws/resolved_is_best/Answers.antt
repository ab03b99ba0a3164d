use Rattle.resolve_core.proofs.laws.resolved_is_best.Goals as goal

pub returns : goal.returns
returns c book w budget resolved is_book covers r =
    let found = c.found_is_finished.ensures r.answer.graph budget r.states resolved.nodes r.answer.searches in
    c.finished_is_best.ensures book w r.answer.graph r.states.items resolved.selection.items is_book covers r.answer.stands found.0 found.1 r.selected
