-- The elements so far, and those of the rest.
use Rattle.std.proofs.Common.{◌≡◌, ◌++◌, length}
use Rattle.std.specs.List.{flat_map}
use Rattle.std.specs.Str.{IsUtf8}
use Rattle.pkg_world.specs.Path.{pieces_at}
use Rattle.import_lookup.specs.LoadPath.{elements_of}
use Rattle.import_lookup.proofs.load_path.push_elements.Given as goal

abbrev pub invariant-loop-piece : goal.invariant-loop-piece
invariant-loop-piece l = IsUtf8 l.rest × (l.initial.list.items ++ flat_map elements_of (pieces_at 58 l.fn.text) ≡ l.list.items ++ flat_map elements_of (pieces_at 58 l.rest))

abbrev pub decreases-loop-piece : goal.decreases-loop-piece
decreases-loop-piece l = length l.rest
