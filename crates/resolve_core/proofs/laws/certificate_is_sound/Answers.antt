use Rattle.resolve_core.proofs.laws.certificate_is_sound.Goals as goal

pub returns : goal.returns
returns c book w log is_book r =
    c.none_is_feasible.ensures book w r.graph is_book r.stands
    (c.refutation_is_sound.ensures r.graph log r.sound (c.stands_plain.ensures book w r.graph r.stands) r.refutes)
