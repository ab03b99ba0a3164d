use Rattle.std.proofs.Common.{map}
use Rattle.offer_terms.specs.Offered.{offering}
use Rattle.book_graph.proofs.States.{bars_offered, offered_nowhere}
use Rattle.book_graph.proofs.barring.bar.Goals as goal

pub returns-in-Some : goal.returns-in-Some
returns-in-Some g c =
    bars_offered c.args.builder.now c.bar_offers.new.builder c.args.book.now c.args.uuid.now c.in-Some.package (map offering c.offers.result.now) (g.R.Rule.shuts c.args.rule.now)
    c.in-Some.ensures c.offers.ensures.offers c.bar_offers.ensures

pub returns-in-None : goal.returns-in-None
returns-in-None g c = offered_nowhere c.args.builder.now c.args.book.now c.args.uuid.now (g.R.Rule.shuts c.args.rule.now) c.in-None.ensures
