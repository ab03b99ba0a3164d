use Rattle.book_graph.proofs.States.{bars_this, bars_unwanted}
use Rattle.book_graph.proofs.barring.bar_if.Goals as goal

pub returns-then-wanted : goal.returns-then-wanted
returns-then-wanted c =
    bars_this c.args.builder.now c.forbid_state.new.self c.args.package c.args.state c.args.wanted c.if-wanted.true
    c.forbid_state.ensures.sizes c.forbid_state.ensures.barred c.forbid_state.ensures.forbidden

pub returns-else-wanted : goal.returns-else-wanted
returns-else-wanted c = bars_unwanted c.args.builder.now c.args.package c.args.state c.args.wanted c.if-wanted.false
