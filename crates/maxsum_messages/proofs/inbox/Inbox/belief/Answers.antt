use Rattle.std.proofs.Common.{◌≡◌, ◌∙◌, ◌^◌, ◌*◌, ap, subst, sym, arith}
use Rattle.maxsum_messages.specs.Field.{field}
use Rattle.maxsum_messages.specs.Post.{heard, said_to}
use Rattle.maxsum_messages.specs.Kept.{IsKept}
use Rattle.maxsum_messages.proofs.Bounds.{kept-heard, field-and-sum}
use Rattle.maxsum_messages.proofs.inbox.Inbox.belief.Given.{Over}
use Rattle.maxsum_messages.proofs.inbox.Inbox.belief.Goals as goal
use Rattle.maxsum_messages.proofs.inbox.Inbox.belief.Goals.{After-get-2}

kept : (g : Over) (c : After-get-2 g) → IsKept (g.W.Weight.is_within (2 ^ 40)) g.W.Weight.none g.W.Weight.plus c.args.self.now c.self.inside.sums
kept g c = subst (λ m. IsKept (g.W.Weight.is_within (2 ^ 40)) g.W.Weight.none g.W.Weight.plus m c.self.inside.sums) c.self.view_is c.self.invariant

total : (g : Over) (c : After-get-2 g) → c.get-2.result ≡ heard g.W.Weight.none g.W.Weight.plus c.args.i (said_to c.args.self.now c.args.p)
total g c = c.get-2.ensures ∙ (kept g c).summed c.args.p c.args.i c.requires.known c.requires.state

whole : (g : Over) (c : After-get-2 g) → g.W.Weight.is_within (2 ^ 52) (g.W.Weight.plus c.get.result c.get-2.result)
whole g c =
    let Within = g.W.Weight.is_within in
    let none = g.W.Weight.none in
    let plus = g.W.Weight.plus in
    let sum = kept-heard Within none plus g.met.W.Weight.none_within g.met.W.Weight.plus_within g.met.W.Weight.within_more c.args.self.now c.self.inside.sums (kept g c) c.args.p c.requires.known c.args.i in
    field-and-sum Within none plus g.met.W.Weight.none_within g.met.W.Weight.plus_within g.met.W.Weight.within_more c.get.result c.get-2.result c.get.ensures.small (subst (Within (4095 * 2 ^ 40)) (sym (total g c)) sum)

pub plus-requires : goal.plus-requires
plus-requires g c = g.met.W.Weight.within_more (2 ^ 52) (2 ^ 53) _ (whole g c) (omega arith)

pub returns-clause-belief : goal.returns-clause-belief
returns-clause-belief g c = c.plus.ensures ∙ ap (λ a. g.W.Weight.plus a c.get-2.result) c.get.ensures.field ∙ ap (g.W.Weight.plus (field g.W.Weight.none c.args.fields.now c.args.p c.args.i)) (total g c.before)

pub returns-clause-small : goal.returns-clause-small
returns-clause-small g c = subst (g.W.Weight.is_within (2 ^ 52)) (sym c.plus.ensures) (whole g c.before)

pub returns-clause-part : goal.returns-clause-part
returns-clause-part g c = subst (g.W.Weight.is_within (2 ^ 24)) c.get.ensures.field c.get.ensures.small
