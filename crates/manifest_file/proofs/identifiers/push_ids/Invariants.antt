use Rattle.std.proofs.Common.{◌≡◌, ◌++◌, map, drop}
use Rattle.manifest_file.proofs.identifiers.push_ids.Given as goal

abbrev pub invariant-loop-entry : goal.invariant-loop-entry
invariant-loop-entry l = l.initial.ids.items ++ map (λ entry. entry.uuid) l.list ≡ l.ids.items ++ map (λ entry. entry.uuid) (drop l.entry-index l.list)
