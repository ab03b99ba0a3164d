use Rattle.std.proofs.Common.{length, ap, sym, ◌∙◌}
use Rattle.std.proofs.lemmas.List.{length-map}
use Rattle.offer_terms.specs.Offered.{offering}
use Rattle.book_graph.proofs.States.{bars_absent, absent_nowhere}
use Rattle.book_graph.proofs.barring.bar_absent.Goals as goal

pub returns-in-Some : goal.returns-in-Some
returns-in-Some c =
    bars_absent c.args.builder.now c.forbid_state.new.self c.args.book.now c.args.uuid.now c.in-Some.package (length c.offers.result.now) c.in-Some.ensures
    (sym (length-map c.offers.result.now offering) ∙ ap length c.offers.ensures.offers) c.forbid_state.ensures.sizes c.forbid_state.ensures.barred c.forbid_state.ensures.forbidden

pub returns-in-None : goal.returns-in-None
returns-in-None c = absent_nowhere c.args.builder.now c.args.book.now c.args.uuid.now c.in-None.ensures
