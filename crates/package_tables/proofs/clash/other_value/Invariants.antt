use Rattle.std.proofs.Common.{◌≡◌, drop, map}
use Rattle.package_tables.specs.Clash as spec
use Rattle.package_tables.proofs.clash.other_value.Given as goal

abbrev pub invariant-loop-entry : goal.invariant-loop-entry
invariant-loop-entry g l =
    spec.other_value (g.T.SectionValue.same) l.version l.first (map (λ e. e.now) l.entries)
    ≡ spec.other_value (g.T.SectionValue.same) l.version l.first (map (λ e. e.now) (drop l.entry-index l.entries))
