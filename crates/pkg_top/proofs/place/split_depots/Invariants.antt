use Rattle.std.proofs.Common.{◌≡◌, length}
use Rattle.std.specs.Str.{IsUtf8}
use Rattle.pkg_world.specs.Path.{pieces_at}
use Rattle.pkg_world.specs.Each.{onto}
use Rattle.pkg_top.specs.Placing.{depots_of}
use Rattle.pkg_top.proofs.place.split_depots.Given as goal

abbrev pub invariant-loop-piece : goal.invariant-loop-piece
invariant-loop-piece l = IsUtf8 l.rest × (depots_of l.cwd (pieces_at 58 l.fn.text) ≡ onto l.depots.items (depots_of l.cwd (pieces_at 58 l.rest)))

abbrev pub decreases-loop-piece : goal.decreases-loop-piece
decreases-loop-piece l = length l.rest
