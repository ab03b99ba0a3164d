use Rattle.std.proofs.Common.{◌≡◌, drop, fold, map}
use Rattle.registered_offers.specs.Merged as spec
use Rattle.registered_offers.proofs.listed_versions.put_versions.Given as goal

abbrev pub invariant-loop-row : goal.invariant-loop-row
invariant-loop-row l =
    fold spec.put_version l.initial.versions.entries (map (spec.listed_version l.tables) l.rows)
    ≡ fold spec.put_version l.versions.entries (map (spec.listed_version l.tables) (drop l.row-index l.rows))
