use Rattle.std.proofs.Common.{◌≡◌, ◌<◌, ap, ◌∙◌, get_or, length, arith, sym, subst}
use Rattle.std.proofs.lemmas.Bool.{MatchBool-at_true}
use Rattle.version_graph.specs.Graph.{states}
use Rattle.raise_pass.specs.Finishing.{raises}
use Rattle.raise_pass.specs.Changed.{below_last}
use Rattle.raise_pass.proofs.TrimLemmas.{solution-states}
use Rattle.raise_pass.proofs.KeepLemmas.{keeps-trimmed}
use Rattle.raise_pass.proofs.FinishLemmas.{leads-step, trim-leads, raise-solves, raise-below, next-raises}
use Rattle.raise_pass.proofs.raising.raise_one.Goals as goal

pub state_of-requires : goal.state_of-requires
state_of-requires c =
    let each = c.requires.solution.each in
    let known = c.requires.next.can.known in
    subst (λ xs. c.args.p < length xs) (sym c.items.ensures) (omega (arith, each, known))

pub keeps_needs-keeps-requires-clause-known : goal.keeps_needs-keeps-requires-clause-known
keeps_needs-keeps-requires-clause-known c = c.requires.next.can.known

pub keeps_needs-keeps-requires-clause-old : goal.keeps_needs-keeps-requires-clause-old
keeps_needs-keeps-requires-clause-old c =
    let old = c.args.states.now.items in
    let same : c.state_of.result ≡ get_or old c.args.p 0 = c.state_of.ensures ∙ ap (λ xs. get_or xs c.args.p 0) c.items.ensures in
    subst (λ i. i < states c.args.instance.now c.args.p) (sym same) ((solution-states c.args.instance.now old c.requires.solution).known c.args.p c.requires.next.can.known)

pub keeps_needs-keeps-requires-clause-new : goal.keeps_needs-keeps-requires-clause-new
keeps_needs-keeps-requires-clause-new c = (let present = c.requires.next.can.present in omega (arith, present))

pub change-requires-clause-known : goal.change-requires-clause-known
change-requires-clause-known c = c.requires.next.can.known

pub change-requires-clause-made : goal.change-requires-clause-made
change-requires-clause-made c = solution-states c.args.instance.now c.args.states.now.items c.requires.solution

pub trim-requires-clause-solution : goal.trim-requires-clause-solution
trim-requires-clause-solution c = raise-solves c.args.instance.now c.args.states.now.items _ c.args.p c.args.j c.requires.solution c.requires.next.can c.change.ensures.states

pub returns-then-keeps-clause-leads : goal.returns-then-keeps-clause-leads
returns-then-keeps-clause-leads c = λ first l.
    leads-step c.args.instance.now first c.args.states.now.items _ l (raises (next-raises c.args.instance.now c.args.states.now.items _ c.args.p c.args.j c.requires.trimmed c.requires.next c.change.ensures.states))

pub returns-then-keeps-clause-trimmed : goal.returns-then-keeps-clause-trimmed
returns-then-keeps-clause-trimmed c =
    let g = c.args.instance.now in
    let old = c.args.states.now.items in
    let same : c.state_of.result ≡ get_or old c.args.p 0 = c.state_of.ensures ∙ ap (λ xs. get_or xs c.args.p 0) c.items.ensures in
    keeps-trimmed g old _ c.args.p c.state_of.result c.args.j c.requires.solution.each c.requires.trimmed c.requires.next.can c.change.ensures.states same
    (MatchBool-at_true _ _ c.if-keeps.true c.keeps_needs-keeps.ensures)

pub returns-then-keeps-clause-solution : goal.returns-then-keeps-clause-solution
returns-then-keeps-clause-solution c = raise-solves c.args.instance.now c.args.states.now.items _ c.args.p c.args.j c.requires.solution c.requires.next.can c.change.ensures.states

pub returns-then-keeps-clause-below : goal.returns-then-keeps-clause-below
returns-then-keeps-clause-below c = raise-below c.args.instance.now c.args.states.now.items _ c.args.p c.args.j c.requires.solution.each c.requires.next.can c.change.ensures.states

pub returns-clause-leads : goal.returns-clause-leads
returns-clause-leads c = λ first l.
    let g = c.args.instance.now in
    let old = c.args.states.now.items in
    let raised = leads-step g first old c.change.new.states.items l (raises (next-raises g old _ c.args.p c.args.j c.requires.trimmed c.requires.next c.change.ensures.states)) in
    trim-leads g first c.change.new.states.items _ c.trim.result raised c.trim.ensures.result

pub returns-clause-below : goal.returns-clause-below
returns-clause-below c =
    let g = c.args.instance.now in
    let less = raise-below g c.args.states.now.items _ c.args.p c.args.j c.requires.solution.each c.requires.next.can c.change.ensures.states in
    let most = c.trim.ensures.below in
    let whole : below_last g c.trim.new.states.items < below_last g c.args.states.now.items = omega (arith, less, most) in
    whole
