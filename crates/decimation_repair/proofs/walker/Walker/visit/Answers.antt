use Rattle.decimation_repair.specs.Standing.{choice_of}
use Rattle.decimation_repair.proofs.MoveLemmas.{closed-arrived, dead-arrived}
use Rattle.decimation_repair.proofs.walker.Walker.visit.Goals as goal

pub leaf-requires : goal.leaf-requires
leaf-requires c =
    let s = c.args.self.now in
    let ready = c.requires.ready in
    record {
      ready = record { path = ready.path; orders = ready.orders; advice = ready.advice; within = ready.within; nodes = ready.nodes; blank = ready.blank; states = ready.states };
      dead = dead-arrived (choice_of s) s.instance.now s.orders.rows s.path.items s.domains c.close.new.domains s.trail c.close.new.trail s.log.items c.requires.arrived c.close.ensures.keeps c.close.ensures.earlier c.in-Empty.ensures.answer.empty;
    }

pub choose-requires-clause-open : goal.choose-requires-clause-open
choose-requires-clause-open c =
    let s = c.args.self.now in
    let ready = c.requires.ready in
    record {
      ready = record { path = ready.path; orders = ready.orders; advice = ready.advice; within = ready.within; nodes = ready.nodes; blank = ready.blank; states = ready.states };
      closed = closed-arrived (choice_of s) s.instance.now s.orders.rows s.path.items s.domains c.close.new.domains s.trail c.close.new.trail s.log.items c.requires.arrived c.close.ensures.keeps c.close.ensures.earlier c.in-Stable.ensures.answer;
    }

pub solve-requires-clause-open : goal.solve-requires-clause-open
solve-requires-clause-open c =
    let s = c.args.self.now in
    let ready = c.requires.ready in
    record {
      ready = record { path = ready.path; orders = ready.orders; advice = ready.advice; within = ready.within; nodes = ready.nodes; blank = ready.blank; states = ready.states };
      closed = closed-arrived (choice_of s) s.instance.now s.orders.rows s.path.items s.domains c.close.new.domains s.trail c.close.new.trail s.log.items c.requires.arrived c.close.ensures.keeps c.close.ensures.earlier c.in-Stable.ensures.answer;
    }
