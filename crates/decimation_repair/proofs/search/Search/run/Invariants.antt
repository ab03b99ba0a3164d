use Rattle.std.proofs.Common.{◌-◌, length}
use Rattle.decimation_repair.specs.Standing.{IsAt, SameSearch}
use Rattle.decimation_repair.proofs.search.Search.run.Given as goal

abbrev pub invariant-loop-search : goal.invariant-loop-search
invariant-loop-search l = record {
  at : IsAt l.search;
  same : SameSearch l.initial.search l.search;
}

abbrev pub decreases-loop-search : goal.decreases-loop-search
decreases-loop-search l = l.search.budget - length l.search.log.items
