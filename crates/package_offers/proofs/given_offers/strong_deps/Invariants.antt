-- the dependencies so far, and those to come
use Rattle.std.proofs.Common.{◌≡◌, ◌++◌, drop}
use Rattle.std.specs.Option.{option_copied}
use Rattle.package_offers.specs.GivenOffers as spec
use Rattle.package_offers.proofs.given_offers.strong_deps.Given as goal

abbrev pub invariant-loop-name : goal.invariant-loop-name
invariant-loop-name l = spec.strong_deps (option_copied l.fn.own) l.weak l.deps ≡ l.kept.items ++ spec.strong_deps (option_copied l.fn.own) l.weak (drop l.name-index l.deps)
