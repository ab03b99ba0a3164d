-- the files so far, and the state that they left
use Rattle.std.proofs.Common.{◌≡◌, ◌++◌, map}
use Rattle.std.specs.List.{flat_map, range_with_len}
use Rattle.world_maker.specs.Draws.{state}
use Rattle.world_maker.specs.Drawn.{ranged}
use Rattle.world_maker.specs.Laid.{file_of}
use Rattle.world_maker.specs.World.{first_files, drawn_files, before_needs, before_spans}
use Rattle.world_maker.proofs.files.world_files.Given as goal

abbrev pub invariant-packages : goal.invariant-packages
invariant-packages l =
    record {
      made : map file_of l.files.items ≡ first_files l.count ++ flat_map (drawn_files l.fn.number l.count) (range_with_len 0 l.«package»);
      at : l.draws.state ≡ state (before_spans l.fn.number l.count) (ranged (before_needs l.fn.number l.count) l.count l.«package»);
    }
