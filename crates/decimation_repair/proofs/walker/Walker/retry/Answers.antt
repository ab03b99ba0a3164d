use Rattle.std.proofs.Common.{◌≡◌, ℕ, suc, ◌-◌, true, take, ap, sym, ◌∙◌, subst, length, arith}
use Rattle.std.proofs.lemmas.List.{length-take-le}
use Rattle.version_graph.specs.Domain.{has}
use Rattle.version_graph.specs.Family.{narrowed}
use Rattle.version_graph.specs.Graph.{states}
use Rattle.decimation_repair.specs.Path.{chosen_at, order_at, choices_before}
use Rattle.decimation_repair.specs.Standing.{choice_of}
use Rattle.decimation_repair.specs.declared.path.Chosen.{Chosen}
use Rattle.decimation_repair.proofs.ChoiceLemmas.{belief-lawful, order-fits}
use Rattle.decimation_repair.proofs.MoveLemmas.{next-arrived, dropped-left, next-state, no-state, next-left}
use Rattle.decimation_repair.proofs.walker.Walker.retry.Goals as goal

pub try_state-requires-clause-few : goal.try_state-requires-clause-few
try_state-requires-clause-few c =
    let s = c.args.self.now in
    let g = s.instance.now in
    let path = s.path.items in
    let rows = s.orders.rows in
    let n = length path - 1 in
    let some = c.requires.some in
    let left = c.requires.left.left in
    let at : c.last_choice-last.result ≡ chosen_at path n = c.last_choice-last.ensures ∙ ap (λ p. chosen_at p (length p - 1)) c.deref.ensures.value in
    let next = (next-state rows path n c.last_choice-last.result c.in-Some.state at (sym c.in-Some.is ∙ c.state.ensures)).0 in
    let own = left.path_is.at n (omega (arith, some)) in
    let fits = order-fits (choice_of s) (belief-lawful s.advice.fields.now) g (choices_before path n) (chosen_at path n).package (order_at rows path n) own.chosen in
    let count = c.states-count.ensures.count in
    let same = ap (λ (x : Chosen). states g x.package) at in
    let few = c.states-count.ensures.few in
    omega (arith, next, fits, count, same, few)

pub narrow-requires-clause-there : goal.narrow-requires-clause-there
narrow-requires-clause-there c =
    let s = c.args.self.now in
    let g = s.instance.now in
    let path = s.path.items in
    let rows = s.orders.rows in
    let n = length path - 1 in
    let some = c.requires.some in
    let left = c.requires.left.left in
    let long : length path ≡ suc n = omega (arith, some) in
    let at : c.last_choice-last.result ≡ chosen_at path n = c.last_choice-last.ensures ∙ ap (λ p. chosen_at p (length p - 1)) c.deref.ensures.value in
    let next = next-state rows path n c.last_choice-last.result c.in-Some.state at (sym c.in-Some.is ∙ c.state.ensures) in
    subst (λ (x : Chosen). has c.undo_to.new.domains x.package c.in-Some.state ≡ true) (sym at)
    (next-left (choice_of s) (belief-lawful s.advice.fields.now) g rows path s.trail.notes c.undo_to.new.domains c.undo_to.new.trail n c.in-Some.state left.path_is long (c.undo_to.ensures.keeps g left.holds)
    (c.undo_to.ensures.notes ∙ ap (λ (x : Chosen). take x.mark s.trail.notes) at) next.0 next.1)

pub returns-in-Some-clause-next : goal.returns-in-Some-clause-next
returns-in-Some-clause-next c =
    let s = c.args.self.now in
    let g = s.instance.now in
    let path = s.path.items in
    let rows = s.orders.rows in
    let n = length path - 1 in
    let left = c.requires.left.left in
    let ready = c.requires.left.ready in
    let some = c.requires.some in
    let long : length path ≡ suc n = omega (arith, some) in
    let at : c.last_choice-last.result ≡ chosen_at path n = c.last_choice-last.ensures ∙ ap (λ p. chosen_at p (length p - 1)) c.deref.ensures.value in
    let j = c.in-Some.state in
    let next = next-state rows path n c.last_choice-last.result j at (sym c.in-Some.is ∙ c.state.ensures) in
    record {
      ready = record { path = (let a = ready.path in let b = c.try_state.ensures.room in omega (arith, a, b)); orders = ready.orders; advice = ready.advice; within = ready.within; nodes = ready.nodes; blank = ready.blank; states = ready.states };
      arrived = next-arrived c.closing_goes_on.ensures (choice_of s) g rows path c.try_state.new.path.items s.trail.notes c.undo_to.new.domains c.narrow.new.self c.undo_to.new.trail c.narrow.new.trail s.log.items n j
          left.path_is long left.walks (c.undo_to.ensures.keeps g left.holds) (c.undo_to.ensures.notes ∙ ap (λ (x : Chosen). take x.mark s.trail.notes) at)
          (c.narrow.ensures.keeps g (c.undo_to.ensures.keeps g left.holds)) c.narrow.ensures.earlier
          (subst (λ (x : Chosen). (q i : ℕ) → has c.narrow.new.self q i ≡ narrowed (has c.undo_to.new.domains) x.package j q i) at c.narrow.ensures.cut)
          next.0 next.1 c.try_state.ensures.items;
    }

pub returns-in-None-clause-next : goal.returns-in-None-clause-next
returns-in-None-clause-next c =
    let s = c.args.self.now in
    let g = s.instance.now in
    let path = s.path.items in
    let rows = s.orders.rows in
    let n = length path - 1 in
    let left = c.requires.left.left in
    let ready = c.requires.left.ready in
    let some = c.requires.some in
    let long : length path ≡ suc n = omega (arith, some) in
    let at : c.last_choice-last.result ≡ chosen_at path n = c.last_choice-last.ensures ∙ ap (λ p. chosen_at p (length p - 1)) c.deref.ensures.value in
    let none-left = no-state rows path n c.last_choice-last.result at (sym c.in-None.is ∙ c.state.ensures) in
    record {
      left = record {
        ready = record { path = (let a = ready.path in let b = c.drop_last.ensures.room in omega (arith, a, b)); orders = ready.orders; advice = ready.advice; within = ready.within; nodes = ready.nodes; blank = ready.blank; states = ready.states };
        left = dropped-left (choice_of s) g rows path c.drop_last.new.path.items s.domains s.trail s.log.items n left long none-left c.drop_last.ensures.items;
      };
      shorter = (let e = ap length c.drop_last.ensures.items in let size = length-take-le n path (omega (arith, some)) in omega (arith, e, size, some));
    }
