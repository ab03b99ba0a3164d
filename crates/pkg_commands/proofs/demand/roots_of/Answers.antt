-- What is left stands in the order of the names.
use Rattle.std.proofs.Common.{◌≡◌, ◌&&◌, [], drop, arith}
use Rattle.std.proofs.lemmas.Grind.{common_steps}
use Rattle.package_tables.specs.Row.{value_of, is_absent}
use Rattle.package_offers.specs.GivenOffers.{may_be_needed}
use Rattle.package_offers.proofs.NamedLemmas.{by_name-taken}
use Rattle.pkg_commands.proofs.demand.roots_of.Goals as goal

pub of-requires : goal.of-requires
of-requires c =
    let none : drop c.loop-name.name-index c.args.deps.now ≡ [] = grind (arith, common_steps) in
    by_name-taken (λ p. is_absent (value_of p.0 c.args.weak.now) && may_be_needed c.args.own.now p.1) c.args.deps.now (drop c.loop-name.name-index c.args.deps.now) c.loop-name.kept.items c.requires.deps c.loop-name.invariant none
