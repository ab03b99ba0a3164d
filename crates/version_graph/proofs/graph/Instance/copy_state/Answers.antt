use Rattle.std.proofs.Common.{◌≡◌, ◌∙◌, sym, true, false, not}
use Rattle.version_graph.specs.Copied.{is_barred_at}
use Rattle.version_graph.proofs.PartLemmas.{state_copies, offered-at, unless_not}
use Rattle.version_graph.proofs.graph.Instance.copy_state.Goals as goal

pub returns-then-not-is_offered-clause-copies : goal.returns-then-not-is_offered-clause-copies
returns-then-not-is_offered-clause-copies c =
    let told = offered-at c.args.self.now c.args.part.now c.requires.part c.args.p c.args.i c.package.result c.state.result c.requires.known c.requires.state c.package.ensures c.state.ensures in
    state_copies c.args.self.now c.args.part.now c.args.builder.now c.forbid_state.new.self c.args.p c.args.i
    c.forbid_state.ensures.sizes c.forbid_state.ensures.barred c.forbid_state.ensures.forbidden
    (unless_not _ (sym (c.is_offered.ensures ∙ told) ∙ c.if-not-is_offered.true))

pub returns-else-not-is_offered-clause-here : goal.returns-else-not-is_offered-clause-here
returns-else-not-is_offered-clause-here c e =
    let told = offered-at c.args.self.now c.args.part.now c.requires.part c.args.p c.args.i c.package.result c.state.result c.requires.known c.requires.state c.package.ensures c.state.ensures in
    let away : not (is_barred_at c.args.self.now c.args.part.now c.args.p c.args.i) ≡ true = sym (c.is_offered.ensures ∙ told) ∙ c.if-not-is_offered.false in
    let turned : not (is_barred_at c.args.self.now c.args.part.now c.args.p c.args.i) ≡ false = λ k. not (e k) in
    absurd (cc)
