use Rattle.std.proofs.Common.{◌≡◌, drop}
use Rattle.package_tables.specs.Clash as spec
use Rattle.package_tables.proofs.clash.clash_at.Given as goal

abbrev pub invariant-loop-group : goal.invariant-loop-group
invariant-loop-group g l = spec.clash_at (g.T.SectionValue.same) l.version l.lists ≡ spec.clash_at (g.T.SectionValue.same) l.version (drop l.group-index l.lists)
