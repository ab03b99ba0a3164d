use Rattle.std.proofs.Common.{length, ap, sym, ◌∙◌}
use Rattle.std.proofs.lemmas.List.{length-map}
use Rattle.offer_terms.specs.Offered.{offering}
use Rattle.version_graph.proofs.BuildLemmas.{on-ok}
use Rattle.book_graph.proofs.Pairs.{forbids_absent, absent_nowhere_else}
use Rattle.book_graph.proofs.forbidding.forbid_dep.Goals as goal

pub returns-in-Some : goal.returns-in-Some
returns-in-Some c =
    on-ok c.forbid_if.result _ _
    (λ b. forbids_absent c.args.builder.now c.forbid_if.new.builder c.args.book.now c.args.uuid.now c.args.package c.args.state c.in-Some.other (length c.offers.result.now)
    c.in-Some.ensures.0 c.in-Some.ensures.1 (sym (length-map c.offers.result.now offering) ∙ ap length c.offers.ensures.offers) b)
    c.forbid_if.ensures

pub returns-in-None : goal.returns-in-None
returns-in-None c = absent_nowhere_else c.args.builder.now c.args.book.now c.args.uuid.now c.args.package c.args.state c.in-None.ensures
