use Rattle.std.proofs.Common.{length}
use Rattle.decimation_repair.specs.Path.{task_of, pending, prefix_of}
use Rattle.decimation_repair.proofs.StandLemmas.{solved-here, some-left}
use Rattle.decimation_repair.proofs.walker.Walker.solve.Goals as goal

pub tell_states-requires-clause-filled : goal.tell_states-requires-clause-filled
tell_states-requires-clause-filled c = λ p known.
    let s = c.requires.open.closed.filled.some p known in
    some-left c.args.self.now.domains p s.0 s.1

pub returns-clause-gives : goal.returns-clause-gives
returns-clause-gives c =
    let s = c.args.self.now in
    let g = s.instance.now in
    let path = s.path.items in
    let d = c.requires.open.closed in
    record {
      task = task_of path;
      rest = pending s.orders.rows path (length path);
      walks = d.walks;
      solved = solved-here g (prefix_of path) s.domains c.tell_states.new.states.items d.closed c.requires.decided c.tell_states.ensures.each c.tell_states.ensures.left;
      within = c.requires.open.ready.within;
    }
