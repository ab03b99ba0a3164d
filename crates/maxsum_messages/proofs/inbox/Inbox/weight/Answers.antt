use Rattle.std.proofs.Common.{◌≡◌, ◌∙◌, ◌^◌, ◌+◌, ◌<◌, [], length, ap, subst, sym, arith}
use Rattle.std.proofs.lemmas.List.{get_or_read}
use Rattle.maxsum_messages.specs.Field.{field}
use Rattle.maxsum_messages.specs.Post.{Post, heard, said_to, senders_of}
use Rattle.maxsum_messages.specs.Round.{weight_for}
use Rattle.maxsum_messages.specs.Kept.{IsKept, IsPlaceOf}
use Rattle.maxsum_messages.proofs.Rows.{cell}
use Rattle.maxsum_messages.proofs.Sums.{heard-absent}
use Rattle.maxsum_messages.proofs.Bounds.{kept-but, field-and-sum, taken-off}
use Rattle.maxsum_messages.proofs.inbox.Inbox.weight.Given.{Over}
use Rattle.maxsum_messages.proofs.inbox.Inbox.weight.Goals as goal
use Rattle.maxsum_messages.proofs.inbox.Inbox.weight.Goals.{After-get, After-minus, After-belief-all, In-None}

kept : (g : Over) (c : After-get g) → IsKept (g.W.Weight.is_within (2 ^ 40)) g.W.Weight.none g.W.Weight.plus c.args.self.now c.self.inside.sums
kept g c = subst (λ m. IsKept (g.W.Weight.is_within (2 ^ 40)) g.W.Weight.none g.W.Weight.plus m c.self.inside.sums) c.self.view_is c.self.invariant

-- the message that is taken off
own : (g : Over) (c : After-get g) → c.get.result ≡ cell g.W.Weight.none (said_to c.args.self.now c.args.p) c.in-Some.k c.args.i
own g c =
    let none = g.W.Weight.none in
    let known : c.args.p < length c.self.inside.said.items = omega (arith, c.requires.known, c.self.invariant.shaped.each, ap (λ (m : Post _). length m.sizes) c.self.view_is) in
    let here = get_or_read c.self.inside.said.items c.args.p c.index.result.now known c.index.ensures [] in
    c.get.ensures ∙ ap (λ r. cell none r c.in-Some.k c.args.i) (here ∙ ap (λ (m : Post _). said_to m c.args.p) c.self.view_is)

pub minus-requires : goal.minus-requires
minus-requires g c =
    let Within = g.W.Weight.is_within in
    g.met.W.Weight.within_more (2 ^ 52 + 2 ^ 40) (2 ^ 53) _ (g.met.W.Weight.minus_within (2 ^ 52) (2 ^ 40) c.belief-all.result c.get.result c.belief-all.ensures.small
    (subst (Within (2 ^ 40)) (sym (own g c)) ((kept g c).small c.args.p c.in-Some.k c.args.i))) (omega arith)

without : (g : Over) (c : After-minus g) → c.minus.result ≡ weight_for g.W.Weight.none g.W.Weight.plus c.args.fields.now c.args.self.now c.args.q c.args.p c.args.i
without g c =
    let none = g.W.Weight.none in
    let plus = g.W.Weight.plus in
    let m = c.args.self.now in
    let k = (kept g c.before) in
    let place = subst (IsPlaceOf (senders_of m c.args.p) c.args.q) c.in-Some.is c.requires.own in
    c.minus.ensures
    ∙ ap (λ a. g.W.Weight.minus a c.get.result) c.belief-all.ensures.belief
    ∙ ap (g.W.Weight.minus (plus (field none c.args.fields.now c.args.p c.args.i) (heard none plus c.args.i (said_to m c.args.p)))) (own g c.before)
    ∙ taken-off none plus g.W.Weight.minus g.met.W.Weight.plus_comm g.met.W.Weight.plus_assoc g.met.W.Weight.minus_plus (field none c.args.fields.now c.args.p c.args.i)
    c.args.q c.args.i (senders_of m c.args.p) (said_to m c.args.p) c.in-Some.k (k.senders c.args.p c.requires.known).rising (k.shaped.answered c.args.p c.requires.known) place.0 place.1

pub returns-in-Some-clause-weight : goal.returns-in-Some-clause-weight
returns-in-Some-clause-weight g c = without g c

pub returns-in-Some-clause-small : goal.returns-in-Some-clause-small
returns-in-Some-clause-small g c =
    let Within = g.W.Weight.is_within in
    let none = g.W.Weight.none in
    let plus = g.W.Weight.plus in
    subst (Within (2 ^ 52)) (sym (without g c))
    (field-and-sum Within none plus g.met.W.Weight.none_within g.met.W.Weight.plus_within g.met.W.Weight.within_more _ _ c.belief-all.ensures.part
    (kept-but Within none plus g.met.W.Weight.none_within g.met.W.Weight.plus_within g.met.W.Weight.within_more c.args.self.now c.self.inside.sums (kept g c.before) c.args.p c.requires.known c.args.q c.args.i))

pub returns-in-None-clause-weight : goal.returns-in-None-clause-weight
returns-in-None-clause-weight g c =
    let none = g.W.Weight.none in
    let plus = g.W.Weight.plus in
    let m = c.args.self.now in
    let k = subst (λ m. IsKept (g.W.Weight.is_within (2 ^ 40)) none plus m c.self.inside.sums) c.self.view_is c.self.invariant in
    c.belief-all.ensures.belief
    ∙ ap (plus (field none c.args.fields.now c.args.p c.args.i))
    (sym (heard-absent none plus c.args.i c.args.q (senders_of m c.args.p) (said_to m c.args.p) (k.shaped.answered c.args.p c.requires.known) (subst (IsPlaceOf (senders_of m c.args.p) c.args.q) c.in-None.is c.requires.own)))
