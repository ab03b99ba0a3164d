use Rattle.std.proofs.Common.{◌≡◌, ◌∙◌, ◌<◌, ℕ, [], List, length, get_or, ap, subst, sym, arith}
use Rattle.version_graph.specs.Graph.{Graph, packages, are_neighbours, IsListOf}
use Rattle.version_graph.specs.Domain.{has}
use Rattle.maxsum_messages.specs.Post.{Post, senders_of, said_to, IsPostFor}
use Rattle.maxsum_messages.specs.Round.{weight_for, IsMessage}
use Rattle.maxsum_messages.proofs.Rows.{cell}
use Rattle.maxsum_messages.proofs.messages.Messages.round.Goals as goal

kept : {W : Type 0} (g : Graph) (m n : Post W) → n.sizes ≡ m.sizes → n.senders ≡ m.senders → ((p : ℕ) → p < packages g → length (said_to n p) ≡ length (senders_of n p)) → IsPostFor g m → IsPostFor g n
kept g m n sizes senders answered made = record {
  sizes = sizes ∙ made.sizes;
  listed = λ p h. subst (λ xs. IsListOf (are_neighbours g p) (get_or xs p [])) (sym senders) (made.listed p h);
  answered = answered;
}

pub returns-clause-made : goal.returns-clause-made
returns-clause-made g c =
    kept c.args.instance.now c.args.self.now c.take.new.self
    (c.take.ensures.sizes ∙ ap (λ (m : Post _). m.sizes) c.self.view_is) (c.take.ensures.senders ∙ ap (λ (m : Post _). m.senders) c.self.view_is)
    (λ p h.
    ap (λ (said : List (List (List _))). length (get_or said p [])) c.take.ensures.said
    ∙ c.hear_all.ensures.shaped.answered p (omega (arith, h, ap (λ (m : Post _). length m.sizes) c.self.view_is, ap length c.requires.messages.sizes))
    ∙ sym (ap (λ (xs : List (List ℕ)). length (get_or xs p [])) c.take.ensures.senders))
    c.requires.messages

pub returns-clause-round : goal.returns-clause-round
returns-clause-round g c =
    let none = g.W.Weight.none in
    let plus = g.W.Weight.plus in
    let new = c.hear_all.new.next.items in
    let Q = λ (q k : ℕ) (m : Post _) (said : List (List (List _))). IsMessage none plus g.W.Weight.minus g.W.Weight.clip g.W.Ord.cmp c.args.instance.now (has c.args.domains.now)
    (weight_for none plus c.args.fields.now m q (get_or (senders_of m q) k 0)) (get_or (senders_of m q) k 0) q (cell none (get_or said q []) k) in
    record {
      same = record {
        sizes = c.take.ensures.sizes ∙ ap (λ (m : Post _). m.sizes) c.self.view_is;
        senders = c.take.ensures.senders ∙ ap (λ (m : Post _). m.senders) c.self.view_is;
      };
      each = λ q k known h.
          subst (Q q k c.args.self.now) (sym c.take.ensures.said)
          (subst (λ (m : Post _). k < length (senders_of m q) → Q q k m new) c.self.view_is (λ l. c.hear_all.ensures.said q k known l) h);
    }
