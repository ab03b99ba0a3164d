use Rattle.std.proofs.Common.{◌≡◌, take, map, string_bytes}
use Rattle.pkg_world.proofs.path.copy_parts.Given as goal

abbrev pub invariant-loop-part : goal.invariant-loop-part
invariant-loop-part l = map string_bytes l.made.items ≡ map string_bytes (take l.part-index l.part-items)
