use Rattle.std.proofs.Common.{subst}
use Rattle.version_graph.specs.Graph.{Graph}
use Rattle.version_graph.specs.Stored.{IsStored}
use Rattle.version_graph.proofs.LinkLemmas.{link_fits, allowed_told}
use Rattle.version_graph.proofs.graph.Instance.allowed.Goals as goal

pub allows-requires : goal.allows-requires
allows-requires c = link_fits c.args.self.now c.self.inside.barred.items c.self.inside.links.items c.self.inside.total (subst (λ (h : Graph). IsStored h c.self.inside.barred.items c.self.inside.links.items c.self.inside.total) c.self.view_is c.self.invariant) c.args.p c.requires.first c.index.result.now c.index.ensures c.args.i c.args.q c.args.j c.requires.first_state c.requires.second_state

pub returns : goal.returns
returns c =
    allowed_told c.args.self.now c.self.inside.barred.items c.self.inside.links.items c.self.inside.total (subst (λ (h : Graph). IsStored h c.self.inside.barred.items c.self.inside.links.items c.self.inside.total) c.self.view_is c.self.invariant) c.args.p c.requires.first c.index.result.now c.index.ensures c.args.i c.args.q c.args.j c.allows.result c.requires.first_state c.requires.second_state c.allows.ensures.none c.allows.ensures.some
