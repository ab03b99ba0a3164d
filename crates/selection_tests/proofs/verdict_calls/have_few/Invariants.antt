-- The packages so far have few offers.
use Rattle.std.proofs.Common.{ℕ, ◌<◌, ◌^◌, length}
use Rattle.offer_terms.specs.Booked.{package_at}
use Rattle.selection_tests.proofs.verdict_calls.have_few.Given as goal

abbrev pub invariant-loop-package : goal.invariant-loop-package
invariant-loop-package l = (p : ℕ) → p < l.package → length (package_at l.book p).offers < 2 ^ 32
