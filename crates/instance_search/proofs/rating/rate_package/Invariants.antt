use Rattle.std.proofs.Common.{◌≡◌, ◌≢◌, ℕ}
use Rattle.maxsum_messages.specs.Field.{field, AreFieldsFor}
use Rattle.decimation_repair.specs.Levels.{zero_levels}
use Rattle.instance_search.specs.Rated.{AreRatedAt}
use Rattle.instance_search.proofs.rating.rate_package.Given as goal

abbrev pub invariant-loop-i : goal.invariant-loop-i
invariant-loop-i l = record {
  shape : AreFieldsFor l.reduced.instance l.fields;
  rated : AreRatedAt l.instance l.reduced.instance l.reduced.back l.fields l.p l.i;
  others : (q j : ℕ) → q ≢ l.p → field zero_levels l.fields q j ≡ field zero_levels l.fn.fields q j;
}
