-- What was said so far is put, and the rest is to be put.
use Rattle.std.proofs.Common.{◌≡◌, []}
use Rattle.std.specs.VecDeque.{deque_len}
use Rattle.package_tables.specs.Row.{by_bytes, put_to}
use Rattle.fixed_packages.proofs.fixed.by_id.Given as goal

abbrev pub invariant-packages : goal.invariant-packages
invariant-packages l = put_to by_bytes [] l.fn.found.items ≡ put_to by_bytes l.packages.entries l.left.items

abbrev pub decreases-packages : goal.decreases-packages
decreases-packages l = deque_len l.left
