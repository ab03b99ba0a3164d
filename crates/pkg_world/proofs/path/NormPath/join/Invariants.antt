use Rattle.std.proofs.Common.{◌≡◌, length, true, map, string_bytes}
use Rattle.std.specs.Str.{IsUtf8}
use Rattle.pkg_world.specs.Path.{joined, along_all, pieces, are_plain}
use Rattle.pkg_world.proofs.path.NormPath.join.Given as goal

abbrev pub invariant-loop-piece : goal.invariant-loop-piece
invariant-loop-piece l = IsUtf8 l.rest × (joined l.fn.base l.fn.text ≡ along_all (pieces l.rest) (map string_bytes l.parts.items)) × (are_plain (map string_bytes l.parts.items) ≡ true)

abbrev pub decreases-loop-piece : goal.decreases-loop-piece
decreases-loop-piece l = length l.rest
