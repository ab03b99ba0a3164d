use Rattle.std.proofs.Common.{◌≡◌, ◌++◌, drop, codes, string_bytes}
use Rattle.std.specs.List.{flat_map}
use Rattle.offers_command.proofs.offer_lines.with_more.Given as goal

abbrev pub invariant-loop-range : goal.invariant-loop-range
invariant-loop-range l = l.first ++ flat_map (λ r. codes ", " ++ r.text) l.more ≡ string_bytes l.text ++ flat_map (λ r. codes ", " ++ r.text) (drop l.range-index l.more)
