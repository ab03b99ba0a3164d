-- The offers so far that the rule keeps out are forbidden.
use Rattle.std.proofs.Common.{map}
use Rattle.offer_terms.specs.Offered.{offering}
use Rattle.book_graph.specs.Building.{Bars, UpTo, IsAmongAt}
use Rattle.book_graph.proofs.barring.bar_offers.Given as goal

abbrev pub invariant-loop-place : goal.invariant-loop-place
invariant-loop-place g l = Bars l.initial.builder l.builder (UpTo (IsAmongAt l.package (map offering l.offers) (g.R.Rule.shuts l.rule)) l.place)
