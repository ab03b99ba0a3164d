use Rattle.std.proofs.Common.{◌≡◌, ◌<◌, ◌≤◌, ℕ, true, get_or}
use Rattle.std.specs.Vec.{vec_capacity}
use Rattle.raise_pass.specs.Reached.{is_marked, AreListed, AreReached, AreSpread, Grows}
use Rattle.raise_pass.proofs.reaching.spread.Given as goal

abbrev pub invariant-loop-q : goal.invariant-loop-q
invariant-loop-q l = record {
  listed : AreListed l.instance l.reached.items l.order.items;
  reached : AreReached l.instance l.chosen l.reached.items;
  spread : AreSpread l.instance l.chosen l.reached.items l.order.items l.next;
  grows : Grows l.initial.reached.items l.reached.items l.initial.order.items l.order.items;
  room : vec_capacity l.initial.order ≤ vec_capacity l.order;
  met : (k : ℕ) → k < l.q-index → is_marked l.reached.items (get_or l.needed k 0) ≡ true;
}
