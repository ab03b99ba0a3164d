use Rattle.std.proofs.Common.{◌≡◌, ◌++◌, drop}
use Rattle.manifest_file.specs.Saying.{uuids_of}
use Rattle.manifest_file.proofs.identifiers.all_ids.Given as goal

abbrev pub invariant-loop-group : goal.invariant-loop-group
invariant-loop-group l = uuids_of l.groups ≡ l.ids.items ++ uuids_of (drop l.group-index l.groups)
