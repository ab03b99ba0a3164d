-- the dependencies so far, and those to come
use Rattle.std.proofs.Common.{◌≡◌, ◌++◌, drop, map}
use Rattle.offer_terms.specs.Demanded.{spec_entry}
use Rattle.pkg_commands.specs.Demand as spec
use Rattle.pkg_commands.proofs.demand.push_compat.Given as goal

abbrev pub invariant-loop-name : goal.invariant-loop-name
invariant-loop-name l =
    map spec_entry l.initial.specs.items ++ spec.compat_on l.compat l.deps ≡ map spec_entry l.specs.items ++ spec.compat_on l.compat (drop l.name-index l.deps)
