use Rattle.std.proofs.Common.{◌≡◌, ◌∷◌, ◌++◌, drop, string_bytes}
use Rattle.std.specs.List.{flat_map}
use Rattle.package_tables.proofs.section_value.with_more.Given as goal

abbrev pub invariant-loop-range : goal.invariant-loop-range
invariant-loop-range l = l.first ++ flat_map (λ r. 44 ∷ r.text) l.more ≡ string_bytes l.text ++ flat_map (λ r. 44 ∷ r.text) (drop l.range-index l.more)
