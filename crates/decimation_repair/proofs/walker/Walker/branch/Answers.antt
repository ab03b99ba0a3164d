use Rattle.std.proofs.Common.{◌≡◌, ◌∷◌, ◌++◌, [], set, ap, sym, ◌∙◌, subst, refl, length, length-append, arith}
use Rattle.refutation_log.specs.declared.node.NodeKind.TheVariants.{Branch}
use Rattle.decimation_repair.specs.Walk.{root, behind, Walks}
use Rattle.decimation_repair.specs.Path.{task_of, pending, entered, prefix_of, Left}
use Rattle.decimation_repair.specs.Standing.{choice_of}
use Rattle.decimation_repair.specs.declared.path.Chosen.{Chosen}
use Rattle.decimation_repair.proofs.EndLemmas.{not-chosen}
use Rattle.decimation_repair.proofs.ChoiceLemmas.{belief-lawful, order-fits}
use Rattle.decimation_repair.proofs.MoveLemmas.{room-for, branch-visit, branch-left, Makes}
use Rattle.decimation_repair.proofs.OrderLemmas.{still-room}
use Rattle.decimation_repair.proofs.walker.Walker.branch.Goals as goal

pub overflow_cast-node : goal.overflow_cast-node
overflow_cast-node c =
    let s = c.args.self.now in
    let fits = order-fits (choice_of s) (belief-lawful s.advice.fields.now) s.instance.now (prefix_of s.path.items) c.args.package s.advice.order.states c.requires.chosen in
    let count = c.states-count.ensures.count in
    let few = c.states-count.ensures.few in
    let same = ap length c.states-states.ensures in
    omega (arith, fits, count, few, same)

pub write-requires-clause-room : goal.write-requires-clause-room
write-requires-clause-room c =
    let s = c.args.self.now in
    let law = belief-lawful s.advice.fields.now in
    let known = law.known s.instance.now (prefix_of s.path.items) c.args.package s.advice.order.states c.requires.chosen in
    let fits = order-fits (choice_of s) law s.instance.now (prefix_of s.path.items) c.args.package s.advice.order.states c.requires.chosen in
    let room = c.requires.open.ready.orders.room c.args.package known in
    let same = ap length c.states.ensures in
    omega (arith, fits, room, same)

pub append-requires : goal.append-requires
append-requires c =
    let s = c.args.self.now in
    let g = s.instance.now in
    let path = s.path.items in
    let law = belief-lawful s.advice.fields.now in
    let d = c.requires.open.closed in
    let known = law.known g (prefix_of path) c.args.package s.advice.order.states c.requires.chosen in
    let out = not-chosen (choice_of s) law g (prefix_of path) c.args.package s.advice.order.states c.requires.chosen in
    room-for (choice_of s) law g s.orders.rows path s.trail.notes c.args.package _ d.path_is known out c.requires.open.ready.path

pub returns-then-not-note-clause-gives : goal.returns-then-not-note-clause-gives
returns-then-not-note-clause-gives c =
    let s = c.args.self.now in
    let g = s.instance.now in
    let path = s.path.items in
    let p = c.args.package in
    let order = s.advice.order.states in
    let law = belief-lawful s.advice.fields.now in
    let d = c.requires.open.closed in
    let rest = pending s.orders.rows path (length path) in
    let known = law.known g (prefix_of path) p order c.requires.chosen in
    let full = c.if-not-note.ensures.logged in
    let made : Chosen = record { «package» = p; state = 0; tried = 0; mark = length s.trail.notes } in
    let rows = c.requires.open.ready.orders.rows in
    let makes : Makes (choice_of s) g path s.orders.rows s.trail made order = record { chosen = c.requires.chosen; tried = refl; mark = refl; inside = omega (arith, rows, known) } in
    record {
      task = task_of path;
      rest = rest;
      walks = subst (λ xs. Walks g (choice_of s) (root ∷ []) xs (task_of path ∷ rest)) (sym full.0) d.walks;
      next = record { state = entered path (length path); kind = Branch p (length order) };
      children = behind (prefix_of path) p order;
      visits = branch-visit (choice_of s) law g s.orders.rows path s.domains s.trail s.log.items d made order makes (entered path (length path)) (length order) refl refl;
      spent = ap length full.0 ∙ full.1;
    }

pub returns-clause-gives : goal.returns-clause-gives
returns-clause-gives c =
    let s = c.args.self.now in
    let g = s.instance.now in
    let path = s.path.items in
    let p = c.args.package in
    let order = s.advice.order.states in
    let law = belief-lawful s.advice.fields.now in
    let d = c.requires.open.closed in
    let ready = c.requires.open.ready in
    let known = law.known g (prefix_of path) p order c.requires.chosen in
    let rows = ready.orders.rows in
    let made : Chosen = record { «package» = p; state = 0; tried = 0; mark = c.mark.result } in
    let makes : Makes (choice_of s) g path s.orders.rows s.trail made order = record { chosen = c.requires.chosen; tried = refl; mark = c.mark.ensures; inside = omega (arith, rows, known) } in
    let state : c.entered.result ≡ entered path (length path) = c.entered.ensures ∙ ap (λ p. entered p (length p)) c.deref.ensures.value in
    let logged = c.if-not-note.ensures.logged in
    let visit = branch-visit (choice_of s) law g s.orders.rows path s.domains s.trail s.log.items d made order makes c.entered.result (length c.states-states.result.now) state (ap length c.states-states.ensures) in
    record {
      left = record {
        ready = record {
          path = (let a = ready.path in let b = c.append.ensures.room in omega (arith, a, b));
          orders = still-room g s.orders c.write.new.self p c.states.result.now ready.orders c.write.ensures.rows c.write.ensures.room;
          advice = ready.advice;
          within = c.note.ensures.within;
          nodes = c.note.ensures.room;
          blank = ready.blank;
          states = ready.states;
        };
        left = subst (λ l. Left (choice_of s) g c.write.new.self.rows l s.domains s.trail c.note.new.log.items) (sym c.append.ensures.items)
            (subst (λ r. Left (choice_of s) g r (path ++ made ∷ []) s.domains s.trail c.note.new.log.items) (sym (c.write.ensures.rows ∙ ap (set s.orders.rows p) c.states.ensures))
            (branch-left (choice_of s) law g s.orders.rows path s.domains s.trail s.log.items d made order makes c.note.new.log.items _ visit logged));
      };
      more = ap length logged ∙ length-append s.log.items _;
    }
