use Rattle.std.proofs.Common.{◌≡◌, ◌≤◌, ◌+◌, ◌-◌, ◌*◌, ◌++◌, drop, IfSome}
use Rattle.std.specs.List.{flat_map}
use Rattle.depot_hash.specs.Folders.{passed}
use Rattle.depot_hash.specs.Walks.{can_run, added_by, seen_by}
use Rattle.depot_hash.proofs.folders.+walk.Given as goal

abbrev pub decreases-entries_in : goal.decreases-entries_in
decreases-entries_in g l = 4 * (64 - l.depth) + 3

abbrev pub decreases-at_name : goal.decreases-at_name
decreases-at_name g l = 4 * (64 - l.depth) + 2

abbrev pub decreases-at_folder : goal.decreases-at_folder
decreases-at_folder g l = 4 * (64 - l.depth) + 1

abbrev pub decreases-enter : goal.decreases-enter
decreases-enter g l = 4 * (64 - l.depth)

abbrev pub invariant-entries_in-loop-name : goal.invariant-entries_in-loop-name
invariant-entries_in-loop-name g l = record {
  told : IfSome (g.S.Store.files l.fn.store) (λ all.
      (passed l.files (flat_map (seen_by l.depth all l.folder) l.names) ≡ passed l.found.files (flat_map (seen_by l.depth all l.folder) (drop l.name-index l.names)))
      × (flat_map (added_by (can_run l.execs) all l.folder) l.names ≡ l.found.entries.items ++ flat_map (added_by (can_run l.execs) all l.folder) (drop l.name-index l.names)));
  files : g.S.Store.files l.store ≡ g.S.Store.files l.fn.store;
  later : g.S.Store.read_faults l.fn.store ≤ g.S.Store.read_faults l.store;
  other : g.S.Store.write_faults l.store ≡ g.S.Store.write_faults l.fn.store;
}
