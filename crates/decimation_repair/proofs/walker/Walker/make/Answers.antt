use Rattle.std.proofs.Common.{◌≡◌, ◌∙◌, [], ap, arith, length}
use Rattle.decimation_repair.specs.Choice.{BeliefChoice}
use Rattle.decimation_repair.proofs.MoveLemmas.{started}
use Rattle.decimation_repair.proofs.walker.Walker.make.Goals as goal

pub returns-clause-start : goal.returns-clause-start
returns-clause-start c =
    let g = c.args.instance.now in
    let advice = c.in_ok-make-3.field-0 in
    let path = c.in_ok-with_capacity.field-0.items in
    let nodes : c.reserve-2.new.self.items ≡ [] = c.in_ok-reserve-2.ensures.items ∙ c.make-log.ensures.items in
    let blank : c.reserve.new.self.items ≡ [] = c.in_ok-reserve.ensures.items ∙ c.make-states.ensures.items in
    let much = c.in_ok-with_capacity.ensures.capacity in
    let count = c.packages-2.ensures.count in
    let first = c.packages.ensures.count in
    let room = c.in_ok-reserve.ensures.ok in
    let budget = c.in_ok-reserve-2.ensures.ok in
    let none-logged = ap length nodes in
    record {
      ready = record {
        path = omega (arith, much, count);
        orders = c.in_ok-make-2.ensures;
        advice = c.in_ok-make-3.ensures.advice;
        within = omega (arith, none-logged);
        nodes = omega (arith, budget);
        blank = blank;
        states = omega (arith, room, first);
      };
      arrived = started (BeliefChoice advice.fields.now) g c.in_ok-make-2.field-0.rows path c.in_ok-full.field-0 c.in_ok-make.field-0 c.reserve-2.new.self.items c.in_ok-with_capacity.ensures.items nodes
          (c.in_ok-full.ensures.fresh c.in_ok-make.field-0 c.in_ok-make.ensures) c.in_ok-full.ensures.offered;
    }
