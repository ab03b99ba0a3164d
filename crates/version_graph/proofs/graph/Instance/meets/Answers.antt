use Rattle.std.proofs.Common.{◌∙◌, ap, sym, subst, length}
use Rattle.version_graph.specs.Graph.{Graph}
use Rattle.version_graph.specs.Stored.{IsStored}
use Rattle.bit_rows.specs.Rows.{row_at, any_both}
use Rattle.version_graph.specs.Links.{table_at}
use Rattle.version_graph.proofs.LinkLemmas.{link_rows, link_wide, meets_told, meets_none}
use Rattle.version_graph.proofs.graph.Instance.meets.Goals as goal

pub allows_any-requires-clause-known : goal.allows_any-requires-clause-known
allows_any-requires-clause-known c k h e = link_rows c.args.self.now c.self.inside.barred.items c.self.inside.links.items c.self.inside.total (subst (λ (h : Graph). IsStored h c.self.inside.barred.items c.self.inside.links.items c.self.inside.total) c.self.view_is c.self.invariant) c.args.p c.requires.first c.index.result.now c.index.ensures c.args.i c.requires.first_state k h

pub allows_any-requires-clause-wide : goal.allows_any-requires-clause-wide
allows_any-requires-clause-wide c k h e =
    link_wide c.args.self.now c.self.inside.barred.items c.self.inside.links.items c.self.inside.total (subst (λ (h : Graph). IsStored h c.self.inside.barred.items c.self.inside.links.items c.self.inside.total) c.self.view_is c.self.invariant) c.args.p c.requires.first c.index.result.now c.index.ensures c.args.i c.args.q c.requires.first_state k h e
    ∙ sym (c.requires.made.wide c.args.q c.requires.second) ∙ ap length (sym c.row.ensures)

pub returns-in-Some : goal.returns-in-Some
returns-in-Some c =
    let found = c.in-Some.ensures in
    meets_told c.args.self.now c.self.inside.barred.items c.self.inside.links.items c.self.inside.total (subst (λ (h : Graph). IsStored h c.self.inside.barred.items c.self.inside.links.items c.self.inside.total) c.self.view_is c.self.invariant) c.args.p c.requires.first c.index.result.now c.index.ensures c.args.domains.now c.args.i c.args.q found.0 c.in-Some.is_met c.requires.first_state (c.requires.made.wide c.args.q c.requires.second) found.1 found.2
    (found.3 ∙ ap (any_both (row_at (table_at c.index.result.now found.0) c.args.i)) c.row.ensures)

pub returns-in-None : goal.returns-in-None
returns-in-None c =
    meets_none c.args.self.now c.self.inside.barred.items c.self.inside.links.items c.self.inside.total (subst (λ (h : Graph). IsStored h c.self.inside.barred.items c.self.inside.links.items c.self.inside.total) c.self.view_is c.self.invariant) c.args.p c.requires.first c.index.result.now c.index.ensures c.args.domains.now c.args.i c.args.q c.is_filled.result c.in-None.ensures c.is_filled.ensures
