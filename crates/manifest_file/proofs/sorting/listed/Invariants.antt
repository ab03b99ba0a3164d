use Rattle.std.proofs.Common.{◌≡◌, ◌++◌}
use Rattle.manifest_file.specs.Sorting.{pairs_of}
use Rattle.manifest_file.proofs.sorting.listed.Given as goal

abbrev pub invariant-entries : goal.invariant-entries
invariant-entries l =
    goal.iterator-entries.can_next l.name-iterator × goal.iterator-entries.is_finite l.name-iterator × (pairs_of l.map.entries ≡ l.list.items ++ pairs_of l.name-iterator)
