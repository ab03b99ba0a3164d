-- The names so far are put, and the rest is to be put.
use Rattle.std.proofs.Common.{◌≡◌, drop}
use Rattle.fixed_packages.specs.Firsts.{put_pairs}
use Rattle.fixed_packages.proofs.named_ids.put_ids.Given as goal

abbrev pub invariant-loop-name : goal.invariant-loop-name
invariant-loop-name l = put_pairs l.initial.ids.entries l.pairs ≡ put_pairs l.ids.entries (drop l.name-index l.pairs)
