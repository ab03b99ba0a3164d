-- None so far is the identifier.
use Rattle.std.proofs.Common.{◌≡◌, drop}
use Rattle.std.specs.List.{list_any}
use Rattle.std.specs.Str.{bytes_eq}
use Rattle.package_names.proofs.added.has_id.Given as goal

abbrev pub invariant-loop-id : goal.invariant-loop-id
invariant-loop-id l = list_any (bytes_eq l.uuid) l.ids ≡ list_any (bytes_eq l.uuid) (drop l.id-index l.ids)
