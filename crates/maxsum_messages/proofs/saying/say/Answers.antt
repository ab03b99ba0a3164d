use Rattle.std.proofs.Common.{◌≡◌, ◌∙◌, ◌^◌, ◌-◌, ◌<◌, ◌&&◌, not, cond, ℕ, [], length, get_or, ap, subst, sym, arith, inl, inr}
use Rattle.std.proofs.lemmas.Bool.{cases_lt}
use Rattle.std.proofs.lemmas.List.{get_or_past}
use Rattle.version_graph.specs.Graph.{states}
use Rattle.version_graph.specs.Domain.{has, row}
use Rattle.maxsum_messages.specs.Greatest.{IsGreatest}
use Rattle.maxsum_messages.specs.Round.{weight_for}
use Rattle.maxsum_messages.specs.Weighed.{AreWeighed}
use Rattle.maxsum_messages.proofs.Best.{in-range}
use Rattle.maxsum_messages.proofs.Rows.{cell}
use Rattle.maxsum_messages.proofs.One.{own-off}
use Rattle.maxsum_messages.proofs.Quiet.{one-left, quiet}
use Rattle.maxsum_messages.proofs.saying.say.Goals as goal

pub lower-requires-clause-top : goal.lower-requires-clause-top
lower-requires-clause-top g c =
    let none = g.W.Weight.none in
    let top = c.best_state-top.ensures in
    let there = in-range c.args.domains.now c.args.q top.place top.passes in
    subst (g.W.Weight.is_within (2 ^ 52)) (sym (top.here ∙ ap (λ xs. get_or xs top.place none) c.as_slice-2.ensures.value))
    (c.gather.ensures.small top.place (omega (arith, there, c.requires.made.wide c.args.q c.requires.second)))

pub returns-clause-said : goal.returns-clause-said
returns-clause-said g c =
    let none = g.W.Weight.none in
    let cmp = g.W.Ord.cmp in
    let d = c.args.domains.now in
    let graph = c.args.instance.now in
    let p = c.args.p in
    let q = c.args.q in
    let weight = weight_for none g.W.Weight.plus c.args.fields.now c.args.inbox.now q p in
    let raw = λ (j : ℕ). get_or c.gather.new.raw.items j none in
    let top = c.best_state-top.result in
    let wide = c.requires.made.wide q c.requires.second in
    let size = c.states-size.ensures.count in
    let lowered = λ (j : ℕ). g.W.Weight.clip (g.W.Weight.minus (raw j) top) in
    let written : (j : ℕ) → j < states graph q → cell none c.lower.new.grid c.args.k j ≡ cond (has d q j) (lowered j) none = λ j h.
    c.lower.ensures.said j (omega (arith, h, size)) ∙ ap (λ xs. cond (has d q j) (g.W.Weight.clip (g.W.Weight.minus (get_or xs j none) top)) none) c.as_slice-3.ensures.value in
    let long : length (get_or c.lower.new.grid c.args.k []) ≡ states graph q = c.lower.ensures.places c.args.k ∙ c.requires.grid_places in
    record {
      raw = raw;
      top = top;
      best = λ j t. c.gather.ensures.best j t weight (subst (AreWeighed (has d p) weight) (sym c.as_slice.ensures.value) c.weigh.ensures.weighed);
      highest = subst (λ xs. IsGreatest cmp (has d q) (λ i. get_or xs i none) top) c.as_slice-2.ensures.value c.best_state-top.ensures;
      inside = λ j t. written j (let there = in-range d q j t in omega (arith, there, wide)) ∙ ap (λ b. cond b (lowered j) none) t;
      outside = λ j f. elim (cases_lt j (states graph q)) [
        | inl h ↦ written j h ∙ ap (λ b. cond b (lowered j) none) f
        | inr h ↦ get_or_past (get_or c.lower.new.grid c.args.k []) j none (omega (arith, h, long))
      ];
    }

pub returns-then-is_either_decided-clause-said : goal.returns-then-is_either_decided-clause-said
returns-then-is_either_decided-clause-said g c =
    let none = g.W.Weight.none in
    let plus = g.W.Weight.plus in
    let minus = g.W.Weight.minus in
    let d = c.args.domains.now in
    let some = c.requires.filled.some c.args.q c.requires.second in
    quiet g.W.Ord.cmp g.met.W.Ord.total none plus minus g.W.Weight.clip
    (own-off none plus minus g.met.W.Weight.plus_comm g.met.W.Weight.plus_none g.met.W.Weight.minus_plus)
    (g.met.W.Weight.clip_inside none (g.met.W.Weight.within_more 0 (2 ^ 40 - 1) none g.met.W.Weight.none_within (omega arith)))
    c.args.instance.now (has d) (weight_for none plus c.args.fields.now c.args.inbox.now c.args.q c.args.p) c.args.p c.args.q c.requires.closed c.requires.first c.requires.apart
    (one-left c.one_state_is_left.ensures d c.args.p c.args.q (sym c.is_either_decided.ensures ∙ c.if-is_either_decided.true))
    (length (row d c.args.p)) (λ i t. in-range d c.args.p i t) some.0 some.1 (cell none c.clear_row.new.self c.args.k) c.clear_row.ensures.zero

pub returns-then-is_either_decided-clause-small : goal.returns-then-is_either_decided-clause-small
returns-then-is_either_decided-clause-small g c j h =
    let none = g.W.Weight.none in
    subst (g.W.Weight.is_within (2 ^ 40)) (sym (c.clear_row.ensures.zero j)) (g.met.W.Weight.within_more 0 (2 ^ 40) none g.met.W.Weight.none_within (omega arith))
