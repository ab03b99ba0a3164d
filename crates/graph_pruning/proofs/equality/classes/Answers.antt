use Rattle.std.proofs.Common.{◌≡◌, ◌∙◌, arith}
use Rattle.std.proofs.lemmas.List.{length-map}
use Rattle.version_graph.specs.Graph.{packages}
use Rattle.version_graph.specs.Stored.{rows_of}
use Rattle.graph_pruning.proofs.ClassLemmas.{standing_from}
use Rattle.graph_pruning.proofs.equality.classes.Goals as goal

pub returns-clause-classes : goal.returns-clause-classes
returns-clause-classes c =
    let whole : c.loop-p.p ≡ packages c.args.instance.now = omega (arith, c.packages-p-end.ensures.count) in
    standing_from c.args.instance.now c.args.domains.now (rows_of c.loop-p.rows.items) c.requires (length-map c.loop-p.rows.items (λ v. v.items) ∙ c.loop-p.invariant.each ∙ whole)
    (λ q known. c.loop-p.invariant.at q (omega (arith, known, whole)))
