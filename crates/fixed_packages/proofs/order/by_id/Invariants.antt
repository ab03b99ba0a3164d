-- The candidates so far are put, and the rest is to be put.
use Rattle.std.proofs.Common.{◌≡◌, fold}
use Rattle.std.specs.VecDeque.{deque_len}
use Rattle.fixed_packages.specs.FixedPackages as spec
use Rattle.fixed_packages.proofs.order.by_id.Given as goal

abbrev pub invariant-candidates : goal.invariant-candidates
invariant-candidates l = spec.by_id l.fn.candidates.items ≡ fold spec.put_first l.found.entries l.left.items

abbrev pub decreases-candidates : goal.decreases-candidates
decreases-candidates l = deque_len l.left
