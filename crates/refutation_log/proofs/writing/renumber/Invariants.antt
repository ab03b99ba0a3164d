use Rattle.std.proofs.Common.{◌≡◌, ◌++◌, [], drop, reverse}
use Rattle.refutation_log.specs.Moved.{moved_nodes}
use Rattle.refutation_log.proofs.writing.renumber.Given as goal

abbrev pub invariant-loop-k : goal.invariant-loop-k
invariant-loop-k l = l.moved.items ++ moved_nodes l.back (reverse l.waiting.items) (drop l.k l.nodes) ≡ moved_nodes l.back [] l.nodes
