use Rattle.std.proofs.Common.{arith, ap, ◌∙◌}
use Rattle.offer_terms.specs.Offered.{version_in}
use Rattle.book_graph.proofs.Selected.{below_none, below_more, below_all}
use Rattle.book_graph.proofs.selecting.chosen_versions.Goals as goal

pub loop-package-init : goal.loop-package-init
loop-package-init c u = ap (λ es. version_in es u) c.new-versions.ensures.empty ∙ below_none c.args.book.now c.packages-package-end.ensures.once c.args.states.now u

pub loop-package-preserved : goal.loop-package-preserved
loop-package-preserved c =
    let book = c.args.book.now in
    let n = c.loop-package.package in
    below_more book c.packages-package-end.ensures.once c.args.states.now n (omega (arith, c.loop-package-test.true, c.packages-package-end.ensures.count)) c.loop-package.versions.entries c.put_version.new.versions.entries
    c.in_ok-put_version.ensures
    c.loop-package.invariant

pub returns : goal.returns
returns c u =
    c.loop-package.invariant u ∙ below_all c.args.book.now c.packages-package-end.ensures.once c.args.states.now c.loop-package.package u
    (omega (arith, c.loop-package-test.false, c.packages-package-end.ensures.count))
