-- The offers so far that the rule keeps out are forbidden with the state.
use Rattle.std.proofs.Common.{map}
use Rattle.offer_terms.specs.Offered.{offering}
use Rattle.book_graph.specs.Building.{Forbids, UpTo}
use Rattle.book_graph.proofs.Pairs.{with_place}
use Rattle.book_graph.proofs.forbidding.forbid_offers.Given as goal

abbrev pub invariant-loop-place : goal.invariant-loop-place
invariant-loop-place g l = Forbids l.initial.builder l.builder (UpTo (with_place l.package l.state l.other (map offering l.offers) (g.R.Rule.shuts l.rule)) l.place)
