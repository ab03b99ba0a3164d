use Rattle.std.proofs.Common.{◌≡◌, drop}
use Rattle.manifest_file.specs.Sorting.{bearers_by}
use Rattle.manifest_file.specs.Written.{are_listable}
use Rattle.manifest_file.proofs.written.are_listable.Given as goal

abbrev pub invariant-loop-pair : goal.invariant-loop-pair
invariant-loop-pair l = are_listable (bearers_by l.index) l.ids ≡ are_listable (bearers_by l.index) (drop l.pair-index l.ids)
