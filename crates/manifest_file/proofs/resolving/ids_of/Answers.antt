use Rattle.manifest_file.proofs.resolving.ids_of.Goals as goal

pub returns-in-Names : goal.returns-in-Names
returns-in-Names c = rw (c.in-Names.is, ← c.items.ensures) c.ids_of_names.ensures
