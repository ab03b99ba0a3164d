use Rattle.std.proofs.Common.{◌∙◌, ◌^◌, ap, subst, sym}
use Rattle.maxsum_messages.proofs.Rows.{cell}
use Rattle.maxsum_messages.proofs.fields.Fields.get.Goals as goal

pub returns-clause-field : goal.returns-clause-field
returns-clause-field g c = c.get.ensures ∙ ap (λ f. cell g.W.Weight.none f c.args.p c.args.i) c.self.view_is

pub returns-clause-small : goal.returns-clause-small
returns-clause-small g c = subst (g.W.Weight.is_within (2 ^ 24)) (sym c.get.ensures) (c.self.invariant.at c.args.p c.args.i)
