-- No package so far has more offers.
use Rattle.std.proofs.Common.{ℕ, ◌<◌, ◌≤◌, ◌^◌, length}
use Rattle.offer_terms.specs.Booked.{package_at}
use Rattle.selection_check.proofs.scratch.widest.Given as goal

abbrev pub invariant-loop-package : goal.invariant-loop-package
invariant-loop-package l = (p : ℕ) → p < l.package → length (package_at l.book p).offers < 2 ^ 32 → length (package_at l.book p).offers ≤ l.widest
