-- The names so far are others.
use Rattle.std.proofs.Common.{◌≡◌, drop}
use Rattle.extension_rules.specs.ByName.{is_among}
use Rattle.extension_rules.proofs.by_name.is_among.Given as goal

abbrev pub invariant-loop-key : goal.invariant-loop-key
invariant-loop-key l = is_among l.name l.names ≡ is_among l.name (drop l.key-index l.names)
