use Rattle.resolve_core.proofs.laws.unsatisfiable_is_none.Goals as goal

pub returns : goal.returns
returns c book w budget log is_book a =
    let empty = c.empty_refutes.ensures a.graph budget log a.sound (c.stands_plain.ensures book w a.graph a.stands) a.searches in
    (c.none_is_feasible.ensures book w a.graph is_book a.stands empty.1, record { graph = a.graph; sound = a.sound; stands = a.stands; refutes = empty.0 })
