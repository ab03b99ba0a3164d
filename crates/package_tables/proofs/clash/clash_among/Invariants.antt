use Rattle.std.proofs.Common.{◌≡◌, drop}
use Rattle.package_tables.specs.Clash as spec
use Rattle.package_tables.proofs.clash.clash_among.Given as goal

abbrev pub invariant-loop-row : goal.invariant-loop-row
invariant-loop-row g l = spec.clash_among (g.T.SectionValue.same) l.versions l.lists ≡ spec.clash_among (g.T.SectionValue.same) (drop l.row-index l.versions) l.lists
