-- No root so far is without a source.
use Rattle.std.proofs.Common.{◌≡◌, drop, not}
use Rattle.std.specs.Prelude.{find}
use Rattle.offer_book.specs.AllOffers.{has_source}
use Rattle.offer_book.specs.Gathered.{unknown_root}
use Rattle.offer_book.specs.Made.{scope_of}
use Rattle.offer_book.proofs.gathering.unknown_root.Given as goal

abbrev pub invariant-loop-root : goal.invariant-loop-root
invariant-loop-root l = unknown_root l.catalog (scope_of l.demand) ≡ find (λ root. not (has_source l.catalog (scope_of l.demand) root.1)) (drop l.root-index l.roots)
