use Rattle.std.proofs.Common.{◌≡◌, take, map, string_bytes}
use Rattle.pkg_world.specs.Path.{slashed}
use Rattle.pkg_world.proofs.path.from_parts.Given as goal

abbrev pub invariant-loop-part : goal.invariant-loop-part
invariant-loop-part l = string_bytes l.text ≡ slashed (map string_bytes (take l.part-index l.part-items))
