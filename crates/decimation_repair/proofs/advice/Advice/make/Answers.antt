use Rattle.decimation_repair.proofs.advice.Advice.make.Goals as goal

pub returns-clause-advice : goal.returns-clause-advice
returns-clause-advice c = record {
  fields = c.requires;
  holds = c.in_ok-full.ensures.fresh c.in_ok-make.field-0 c.in_ok-make.ensures;
  recent = c.in_ok-make-2.ensures c.args.fields.now;
  earlier = c.in_ok-make-3.ensures c.args.fields.now;
  room = c.in_ok-make-4.ensures.room;
}
