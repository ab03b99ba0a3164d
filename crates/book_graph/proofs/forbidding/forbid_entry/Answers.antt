use Rattle.std.proofs.Common.{map, not}
use Rattle.jl_versions.specs.Triple.{triple_of}
use Rattle.compat_spec.specs.Admitted.{allowed_holds}
use Rattle.offer_terms.specs.Offered.{Offering, offering, allows}
use Rattle.version_graph.proofs.BuildLemmas.{on-ok}
use Rattle.book_graph.specs.Building.{is_refused}
use Rattle.book_graph.proofs.Pairs.{forbids_offered, offered_nowhere_else, entry_refuses}
use Rattle.book_graph.proofs.forbidding.forbid_entry.Goals as goal

pub returns-in-Some : goal.returns-in-Some
returns-in-Some c =
    let entry = c.args.entry.now.1 in
    on-ok c.forbid_offers.result _ _
    (λ b. forbids_offered c.args.builder.now c.forbid_offers.new.builder c.args.book.now c.args.entry.now.0 c.args.package c.args.state c.in-Some.other (map offering c.offers-offers.result.now)
    (λ (y : Offering). not (allowed_holds entry (triple_of y.version))) (is_refused (allows entry)) c.in-Some.ensures.0 c.in-Some.ensures.1 c.offers-offers.ensures.offers (entry_refuses entry) b)
    c.forbid_offers.ensures

pub returns-in-None : goal.returns-in-None
returns-in-None c = offered_nowhere_else c.args.builder.now c.args.book.now c.args.entry.now.0 c.args.package c.args.state (is_refused (allows c.args.entry.now.1)) c.in-None.ensures
