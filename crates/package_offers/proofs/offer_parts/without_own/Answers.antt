-- What is left stands in the order of the names.
use Rattle.std.proofs.Common.{◌≡◌, [], not, drop, arith}
use Rattle.std.proofs.lemmas.Grind.{common_steps}
use Rattle.std.specs.Str.{bytes_eq}
use Rattle.package_offers.proofs.NamedLemmas.{by_name-taken}
use Rattle.package_offers.proofs.offer_parts.without_own.Goals as goal

pub of-requires : goal.of-requires
of-requires c =
    let none : drop c.loop-name.name-index c.args.ids.now ≡ [] = grind (arith, common_steps) in
    by_name-taken (λ p. not (bytes_eq c.args.own.now p.1)) c.args.ids.now (drop c.loop-name.name-index c.args.ids.now) c.loop-name.kept.items c.requires c.loop-name.invariant none
