-- The libraries so far are put, and the rest is to be put.
use Rattle.std.proofs.Common.{◌≡◌, fold}
use Rattle.std.specs.VecDeque.{deque_len}
use Rattle.standard_libraries.specs.Libraries as spec
use Rattle.standard_libraries.proofs.library_folder.by_id.Given as goal

abbrev pub invariant-libraries : goal.invariant-libraries
invariant-libraries l = spec.by_id l.fn.found.items ≡ fold spec.put l.libraries.entries l.left.items

abbrev pub decreases-libraries : goal.decreases-libraries
decreases-libraries l = deque_len l.left
