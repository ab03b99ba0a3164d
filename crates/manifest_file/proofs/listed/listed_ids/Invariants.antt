use Rattle.std.proofs.Common.{◌≡◌, drop}
use Rattle.manifest_file.specs.Saying.{all_read, listed_id}
use Rattle.manifest_file.specs.Sorting.{bearers_by}
use Rattle.manifest_file.specs.Steps.{onto}
use Rattle.manifest_file.proofs.listed.listed_ids.Given as goal

abbrev pub invariant-loop-name : goal.invariant-loop-name
invariant-loop-name l =
    all_read (listed_id (bearers_by l.index) l.from) l.names ≡ onto l.pairs.items (all_read (listed_id (bearers_by l.index) l.from) (drop l.name-index l.names))
