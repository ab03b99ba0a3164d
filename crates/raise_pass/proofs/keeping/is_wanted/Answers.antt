use Rattle.std.proofs.Common.{◌≡◌, ◌<◌, ◌-◌, ◌||◌, ◌∙◌, not, ap, sym, arith}
use Rattle.version_graph.specs.Graph.{states, last}
use Rattle.raise_pass.proofs.KeepLemmas.{wanted-told}
use Rattle.raise_pass.proofs.keeping.is_wanted.Goals as goal

pub returns-else-not-allowed : goal.returns-else-not-allowed
returns-else-not-allowed c =
    let g = c.args.instance.now in
    let count = c.states-absent.ensures.count in
    let some = c.states-absent.ensures.some in
    let filled : 0 < states g c.args.q = omega (arith, count, some) in
    let at : c.states-absent.result - 1 ≡ last g c.args.q = omega (arith, count) in
    let told = wanted-told g c.args.p c.args.j c.args.q (c.states-absent.result - 1) c.allowed.result c.is_offered.result c.requires.second c.requires.apart filled at c.allowed.ensures c.is_offered.ensures in
    ap (λ a. not a || not c.is_offered.result) (sym c.if-not-allowed.false) ∙ told
