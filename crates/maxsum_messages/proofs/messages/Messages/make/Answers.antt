use Rattle.std.proofs.Common.{ℕ, ◌<◌, ◌≤◌, List, length, get_or, ap, subst, arith}
use Rattle.std.proofs.lemmas.List.{length-replicate}
use Rattle.maxsum_messages.proofs.messages.Messages.make.Goals as goal

pub invariant_of-result : goal.invariant_of-result
invariant_of-result g c =
    let sizes = c.in_ok-inbox.inbox.sizes in
    let count = c.greatest_size-count.result in
    let most : (p : ℕ) → p < length sizes → get_or sizes p 0 ≤ count =
    subst (λ (xs : List ℕ). (p : ℕ) → p < length xs → get_or xs p 0 ≤ count) c.sizes.ensures c.greatest_size-count.ensures in
    record {
      shaped = c.in_ok-next.ensures;
      enough = record {
        states = λ p h. (let one = most p h in omega (arith, one, c.in_ok-weighed.ensures.capacity));
        more_room = λ p h. (let one = most p h in omega (arith, one, ap length c.in_ok-raw.ensures, length-replicate count g.W.Weight.none));
      };
    }
