use Rattle.std.proofs.Common.{◌≡◌, ◌++◌, map, drop}
use Rattle.toml.specs.Data.{string}
use Rattle.toml.specs.View.{view}
use Rattle.manifest_file.proofs.written.names_value.Given as goal

abbrev pub invariant-loop-pair : goal.invariant-loop-pair
invariant-loop-pair l = map string (map (λ pair. pair.0) l.ids) ≡ map view l.list.items ++ map string (map (λ pair. pair.0) (drop l.pair-index l.ids))
