use Rattle.std.proofs.Common.{◌≡◌, map, length}
use Rattle.package_tables.specs.Clash as spec
use Rattle.package_tables.proofs.clash.differing.Given as goal

abbrev pub invariant-loop-rest : goal.invariant-loop-rest
invariant-loop-rest g l = spec.differing (g.T.SectionValue.same) l.version (map (λ e. e.now) l.fn.entries) ≡ spec.differing (g.T.SectionValue.same) l.version (map (λ e. e.now) l.rest)

abbrev pub decreases-loop-rest : goal.decreases-loop-rest
decreases-loop-rest g l = length l.rest
