use Rattle.std.proofs.Common.{◌≡◌, ◌∙◌, sym, true}
use Rattle.version_graph.specs.Graph.{is_forbidden}
use Rattle.version_graph.specs.Copied.{is_forbidden_at}
use Rattle.version_graph.proofs.PartLemmas.{places-apart, pair_copies, unless_not}
use Rattle.version_graph.proofs.graph.Instance.copy_pair.Goals as goal
use Rattle.version_graph.proofs.graph.Instance.copy_pair.Goals.{In_ok-add_pair}

here : (c : In_ok-add_pair) → is_forbidden_at c.args.self.now c.args.part.now c.args.p c.args.i c.args.q c.args.j ≡ true
here c =
    let g = c.args.self.now in
    let at : is_forbidden g c.package.result c.state.result c.package-2.result c.state-2.result ≡ is_forbidden_at g c.args.part.now c.args.p c.args.i c.args.q c.args.j =
    λ k. is_forbidden g (c.package.ensures k) (c.state.ensures k) (c.package-2.ensures k) (c.state-2.ensures k) in
    sym at ∙ unless_not _ (sym c.allowed.ensures ∙ c.if-not-allowed.true)

pub returns-in_ok-add_pair-clause-copies : goal.returns-in_ok-add_pair-clause-copies
returns-in_ok-add_pair-clause-copies c =
    pair_copies c.args.self.now c.args.part.now c.args.builder.now c.add_pair.new.self c.args.p c.args.i c.args.q c.args.j
    c.in_ok-add_pair.ensures.sizes c.in_ok-add_pair.ensures.barred c.in_ok-add_pair.ensures.ok
    (places-apart c.args.self.now c.args.part.now c.requires.part c.args.p c.args.q c.requires.known c.requires.below) (here c)
