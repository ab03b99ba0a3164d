-- the ranges so far, and the texts to come
use Rattle.std.proofs.Common.{◌≡◌, drop}
use Rattle.pkg_world.specs.Each.{onto}
use Rattle.package_tables.specs.Sections as spec
use Rattle.package_tables.proofs.entries.ranges_at.Given as goal

abbrev pub invariant-loop-text : goal.invariant-loop-text
invariant-loop-text l = spec.ranges_at l.texts ≡ onto l.ranges (spec.ranges_at (drop l.text-index l.texts))
