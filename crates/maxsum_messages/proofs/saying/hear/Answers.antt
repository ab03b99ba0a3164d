use Rattle.std.proofs.Common.{◌≡◌, ◌∙◌, ◌^◌, ℕ, get_or, subst, sym, arith, below_more, inl, inr}
use Rattle.std.proofs.lemmas.Bool.{cases_lt}
use Rattle.version_graph.specs.Domain.{has}
use Rattle.maxsum_messages.specs.Post.{senders_of}
use Rattle.maxsum_messages.specs.Round.{weight_for, IsMessage}
use Rattle.maxsum_messages.proofs.Rows.{cell}
use Rattle.maxsum_messages.proofs.Said.{message-same}
use Rattle.maxsum_messages.proofs.saying.hear.Goals as goal

pub loop-k-preserved : goal.loop-k-preserved
loop-k-preserved g c =
    let none = g.W.Weight.none in
    let plus = g.W.Weight.plus in
    let minus = g.W.Weight.minus in
    let clip = g.W.Weight.clip in
    let cmp = g.W.Ord.cmp in
    let graph = c.args.instance.now in
    let d = has c.args.domains.now in
    let k = c.loop-k.k in
    let inv = c.loop-k.invariant in
    let xs = senders_of c.args.inbox.now c.args.q in
    let list = c.senders-senders.ensures.list in
    let P = λ (r : ℕ). IsMessage none plus minus clip cmp graph d (weight_for none plus c.args.fields.now c.args.inbox.now c.args.q (get_or xs r 0)) (get_or xs r 0) c.args.q (cell none c.say.new.grid r) in
    record {
      room = record {
        states = λ p h. (let before = inv.room.states p h in omega (arith, before, c.say.ensures.same));
        more_room = λ p h. (let before = inv.room.more_room p h in omega (arith, before, c.say.ensures.raw_same));
      };
      each = c.say.ensures.each ∙ inv.each;
      places = λ r. c.say.ensures.places r ∙ inv.places r;
      said = below_more P k
          (λ r h. message-same none plus minus clip cmp graph d _ (get_or xs r 0) c.args.q (cell none c.loop-k.grid r) (cell none c.say.new.grid r)
          (λ j. c.say.ensures.others r j (λ e. absurd (omega (arith, h, e)))) (inv.said r h))
          (subst (λ ys. IsMessage none plus minus clip cmp graph d (weight_for none plus c.args.fields.now c.args.inbox.now c.args.q (get_or ys k 0)) (get_or ys k 0) c.args.q (cell none c.say.new.grid k)) list c.say.ensures.said);
      small = λ r j h l. elim (cases_lt r k) [
        | inl below ↦ subst (g.W.Weight.is_within (2 ^ 40)) (sym (c.say.ensures.others r j (λ e. absurd (omega (arith, below, e))))) (inv.small r j below l)
        | inr above ↦ let same : r ≡ k = omega (arith, h, above) in subst (λ n. g.W.Weight.is_within (2 ^ 40) (cell none c.say.new.grid n j)) (sym same) (c.say.ensures.small j l)
      ];
    }
