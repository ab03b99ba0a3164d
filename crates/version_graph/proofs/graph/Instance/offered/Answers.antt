use Rattle.std.proofs.Common.{◌∙◌, sym, arith, inl, inr}
use Rattle.std.proofs.lemmas.Bool.{cases_lt, cases_Bool}
use Rattle.version_graph.specs.Graph.{is_offered}
use Rattle.version_graph.proofs.TrailLemmas.{offered_known}
use Rattle.version_graph.proofs.graph.Instance.offered.Goals as goal

pub returns-clause-row : goal.returns-clause-row
returns-clause-row c i =
    elim (cases_lt i c.loop-i.i) [
      | inl l ↦ c.loop-i.invariant.at i l
      | inr l ↦ elim (cases_Bool (is_offered c.args.self.now c.args.p i)) [
        | inr f ↦ c.loop-i.invariant.rest i l ∙ sym f
        | inl t ↦ absurd (omega (arith, l, c.loop-i-test.false, c.states-count.ensures.count, (offered_known c.args.self.now c.args.p i t).state))
      ]
    ]
