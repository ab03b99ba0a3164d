-- the dependencies so far, and those to come
use Rattle.std.proofs.Common.{◌≡◌, ◌++◌, drop, filter, not}
use Rattle.std.specs.Str.{bytes_eq}
use Rattle.package_offers.proofs.offer_parts.without_own.Given as goal

abbrev pub invariant-loop-name : goal.invariant-loop-name
invariant-loop-name l = filter (λ p. not (bytes_eq l.own p.1)) l.ids ≡ l.kept.items ++ filter (λ p. not (bytes_eq l.own p.1)) (drop l.name-index l.ids)
