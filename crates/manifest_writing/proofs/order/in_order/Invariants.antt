-- The packages so far are put, and the rest is to be put.
use Rattle.std.proofs.Common.{◌≡◌, drop, map}
use Rattle.package_tables.specs.Row.{put_to}
use Rattle.manifest_writing.specs.Views.{keyed}
use Rattle.manifest_writing.specs.Writing as spec
use Rattle.manifest_writing.proofs.order.in_order.Given as goal

abbrev pub invariant-loop-uuid : goal.invariant-loop-uuid
invariant-loop-uuid l = spec.in_order l.book l.selection.items ≡ put_to spec.by_key (keyed l.packages.entries) (map (spec.with_name l.book) (drop l.uuid-index l.pairs))
