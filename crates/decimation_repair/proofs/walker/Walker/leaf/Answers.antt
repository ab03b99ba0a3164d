use Rattle.std.proofs.Common.{◌≡◌, ◌∷◌, [], ap, sym, ◌∙◌, subst, refl, length, length-append}
use Rattle.refutation_log.specs.declared.node.NodeKind.TheVariants.{Leaf}
use Rattle.decimation_repair.specs.Walk.{IsDead, root, dead, Walks}
use Rattle.decimation_repair.specs.Path.{task_of, pending, entered}
use Rattle.decimation_repair.specs.Standing.{choice_of}
use Rattle.decimation_repair.proofs.StandLemmas.{walks-more}
use Rattle.decimation_repair.proofs.walker.Walker.leaf.Goals as goal

pub returns-then-note-clause-gives : goal.returns-then-note-clause-gives
returns-then-note-clause-gives c =
    let s = c.args.self.now in
    let g = s.instance.now in
    let path = s.path.items in
    let d = c.requires.dead in
    let ready = c.requires.ready in
    let rest = pending s.orders.rows path (length path) in
    let state : c.entered.result ≡ entered path (length path) = c.entered.ensures ∙ ap (λ p. entered p (length p)) c.deref.ensures.value in
    let visit : IsDead g (task_of path) (record { state = c.entered.result; kind = Leaf }) [] = record { empty = d.empty; node_is = ap (λ x. record { state = x; kind = Leaf }) state; children_are = refl } in
    let logged = c.if-note.ensures.logged in
    record {
      left = record {
        ready = record { path = ready.path; orders = ready.orders; advice = ready.advice; within = c.note.ensures.within; nodes = c.note.ensures.room; blank = ready.blank; states = ready.states };
        left = record {
          holds = d.holds;
          path_is = d.path_is;
          walks = subst (λ xs. Walks g (choice_of s) (root ∷ []) xs rest) (sym logged) (walks-more g (choice_of s) s.log.items (root ∷ []) (task_of path) rest [] _ d.walks (dead visit));
        };
      };
      more = ap length logged ∙ length-append s.log.items _;
    }

pub returns-else-note-clause-gives : goal.returns-else-note-clause-gives
returns-else-note-clause-gives c =
    let s = c.args.self.now in
    let g = s.instance.now in
    let path = s.path.items in
    let d = c.requires.dead in
    let rest = pending s.orders.rows path (length path) in
    let full = c.if-note.ensures.logged in
    record {
      task = task_of path;
      rest = rest;
      walks = subst (λ xs. Walks g (choice_of s) (root ∷ []) xs (task_of path ∷ rest)) (sym full.0) d.walks;
      next = record { state = (task_of path).state; kind = Leaf };
      children = [];
      visits = dead (record { empty = d.empty; node_is = refl; children_are = refl });
      spent = ap length full.0 ∙ full.1;
    }
