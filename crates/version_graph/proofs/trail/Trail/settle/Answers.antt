use Rattle.std.proofs.Common.{◌≡◌, ◌∙◌, ap, sym, set, get_or, true, false, length, arith}
use Rattle.std.proofs.lemmas.List.{get_or-set_same, get_or-set_other}
use Rattle.version_graph.specs.Noted.{History}
use Rattle.version_graph.proofs.TrailLemmas.{settles}
use Rattle.version_graph.proofs.trail.Trail.settle.Goals as goal

pub returns-clause-keeps : goal.returns-clause-keeps
returns-clause-keeps c g d h is =
    let same = c.self.view_is in
    settles g d c.args.self.now _ h is
    (ap (λ (t : History). t.notes) same)
    (ap (λ (x : History). set x.settled c.len-mark.result true) same
    ∙ ap (λ x. set c.args.self.now.settled x true) (c.len-mark.ensures ∙ c.self.inside.notes.ok.0 ∙ ap length (ap (λ (t : History). t.notes) same)))
    (ap (λ (t : History). t.room) same)

pub returns-clause-settled : goal.returns-clause-settled
returns-clause-settled c =
    let here : c.len-mark.result ≡ length c.self.inside.notes.items = c.len-mark.ensures ∙ c.self.inside.notes.ok.0 in
    let at : c.len-mark.result ≡ length c.args.self.now.notes = here ∙ ap length (ap (λ (t : History). t.notes) c.self.view_is) in
    ap (λ n. get_or (set c.self.inside.settled.items c.len-mark.result true) n false) (sym at)
    ∙ get_or-set_same c.self.inside.settled.items c.len-mark.result true false (omega (arith, here, c.self.invariant.0))

pub returns-clause-others : goal.returns-clause-others
returns-clause-others c k apart =
    let at : c.len-mark.result ≡ length c.args.self.now.notes = c.len-mark.ensures ∙ c.self.inside.notes.ok.0 ∙ ap length (ap (λ (t : History). t.notes) c.self.view_is) in
    get_or-set_other c.self.inside.settled.items c.len-mark.result k true false (λ e. apart (e ∙ at))
    ∙ ap (λ (t : History). get_or t.settled k false) c.self.view_is
