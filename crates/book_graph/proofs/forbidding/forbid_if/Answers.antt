use Rattle.book_graph.proofs.Pairs.{forbids_unwanted}
use Rattle.book_graph.proofs.forbidding.forbid_if.Goals as goal

pub returns-then-not-wanted : goal.returns-then-not-wanted
returns-then-not-wanted c = forbids_unwanted c.args.builder.now c.args.package c.args.state c.args.other c.args.other_state c.args.wanted c.if-not-wanted.true
