use Rattle.std.proofs.Common.{◌≡◌, take}
use Rattle.pkg_world.proofs.named.Named.copy.Given as goal

abbrev pub invariant-loop-name : goal.invariant-loop-name
invariant-loop-name g l = l.inside.items ≡ take l.name-index l.name-items
