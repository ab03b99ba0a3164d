-- What is left stands in the order of the names.
use Rattle.std.proofs.Common.{◌≡◌, [], drop, arith}
use Rattle.std.proofs.lemmas.Grind.{common_steps}
use Rattle.std.specs.Option.{option_copied}
use Rattle.package_offers.specs.GivenOffers.{may_be_needed}
use Rattle.package_offers.proofs.NamedLemmas.{by_name-taken}
use Rattle.package_offers.proofs.given_offers.weak_deps.Goals as goal

pub of-requires : goal.of-requires
of-requires c =
    let none : drop c.loop-name.name-index c.args.weak.now ≡ [] = grind (arith, common_steps) in
    by_name-taken (λ p. may_be_needed (option_copied c.args.own) p.1) c.args.weak.now (drop c.loop-name.name-index c.args.weak.now) c.loop-name.kept.items c.requires c.loop-name.invariant none
