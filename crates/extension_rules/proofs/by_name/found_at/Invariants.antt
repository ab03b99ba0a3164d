-- The names so far are others.
use Rattle.std.proofs.Common.{◌≡◌, drop}
use Rattle.extension_rules.specs.ByName.{found_at}
use Rattle.extension_rules.proofs.by_name.found_at.Given as goal

abbrev pub invariant-loop-key : goal.invariant-loop-key
invariant-loop-key g l = found_at l.name l.found ≡ found_at l.name (drop l.key-index l.found)
