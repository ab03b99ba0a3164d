use Rattle.std.proofs.Common.{◌≡◌, List, ◌++◌, map, string_bytes}
use Rattle.toml.specs.View.{members_view}
use Rattle.toml_view.specs.Reading.{each}
use Rattle.toml_view.proofs.Walks.{Entry, onto}
use Rattle.toml_view.proofs.readers.read_pairs.Given as goal

abbrev pub invariant-members : goal.invariant-members
invariant-members g l =
    (goal.iterator-members g).can_next l.key-iterator ×
    (goal.iterator-members g).is_finite l.key-iterator ×
    (each (g.R.Reader.gives l.reader) (members_view l.table.entries) ≡ onto l.pairs.items (each (g.R.Reader.gives l.reader) (members_view l.key-iterator)))
    × (done : List Entry) × (l.table.entries ≡ done ++ l.key-iterator) × (map (λ p. p.0) l.pairs.items ≡ map (λ e. string_bytes e.0) done)
