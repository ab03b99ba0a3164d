use Rattle.std.proofs.Common.{◌∙◌, ℕ, List, [], length, get_or, ap, subst, sym, arith}
use Rattle.version_graph.specs.Graph.{are_neighbours, IsListOf}
use Rattle.maxsum_messages.specs.Post.{Post}
use Rattle.maxsum_messages.proofs.messages.Messages.reset.Goals as goal

pub returns-clause-made : goal.returns-clause-made
returns-clause-made g c graph made =
    let sizes = c.take.ensures.sizes ∙ ap (λ (m : Post _). m.sizes) c.self.view_is in
    let senders = c.take.ensures.senders ∙ ap (λ (m : Post _). m.senders) c.self.view_is in
    record {
      sizes = sizes ∙ made.sizes;
      listed = λ p h. subst (λ xs. IsListOf (are_neighbours graph p) (get_or xs p [])) (sym senders) (made.listed p h);
      answered = λ p h.
          ap (λ (said : List (List (List _))). length (get_or said p [])) c.take.ensures.said
          ∙ c.silence_again.ensures.rows p
          ∙ c.self.invariant.shaped.answered p (omega (arith, h, ap (λ (m : Post _). length m.sizes) c.self.view_is, ap length made.sizes))
          ∙ sym (ap (λ (xs : List (List ℕ)). length (get_or xs p [])) c.take.ensures.senders);
    }
