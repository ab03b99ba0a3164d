-- The names so far have their paths.
use Rattle.std.proofs.Common.{◌≡◌, ◌++◌, drop}
use Rattle.registry_tables.specs.Registries as spec
use Rattle.standard_libraries.proofs.children.children.Given as goal

abbrev pub invariant-loop-name : goal.invariant-loop-name
invariant-loop-name l = spec.children l.folder l.names ≡ l.paths.items ++ spec.children l.folder (drop l.name-index l.names)
