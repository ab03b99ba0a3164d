use Rattle.std.proofs.Common.{◌∙◌, ap, arith, inl, inr}
use Rattle.std.proofs.lemmas.Bool.{cases_eq}
use Rattle.version_graph.specs.Domain.{has}
use Rattle.graph_pruning.proofs.reaching.are_filled.Goals as goal

pub loop-p-preserved : goal.loop-p-preserved
loop-p-preserved c = λ q below.
    elim (cases_eq q c.loop-p.p) [
      | inl e ↦ let s = c.size.ensures.some (omega (arith, c.if-size-eq0.false)) in (s.0, ap (λ x. has c.args.domains.now x s.0) e ∙ s.1)
      | inr apart ↦ c.loop-p.invariant q (omega (arith, below, apart))
    ]
