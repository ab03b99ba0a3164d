use Rattle.std.proofs.Common.{◌≡◌, ◌++◌, length}
use Rattle.std.specs.Str.{IsUtf8}
use Rattle.std.specs.List.{filter_map}
use Rattle.pkg_world.specs.Path.{joined, pieces_at}
use Rattle.home_commands.proofs.verify_answer.split_paths.Given as goal

abbrev pub invariant-loop-piece : goal.invariant-loop-piece
invariant-loop-piece l =
    IsUtf8 l.rest × (filter_map (joined l.folder) (pieces_at 58 l.fn.text) ≡ l.paths.items ++ filter_map (joined l.folder) (pieces_at 58 l.rest))

abbrev pub decreases-loop-piece : goal.decreases-loop-piece
decreases-loop-piece l = length l.rest
