-- the dependencies so far, and those to come
use Rattle.std.proofs.Common.{◌≡◌, ◌++◌, drop}
use Rattle.package_offers.specs.GivenOffers.{strong_deps}
use Rattle.pkg_commands.proofs.demand.roots_of.Given as goal

abbrev pub invariant-loop-name : goal.invariant-loop-name
invariant-loop-name l = strong_deps l.own l.weak l.deps ≡ l.kept.items ++ strong_deps l.own l.weak (drop l.name-index l.deps)
