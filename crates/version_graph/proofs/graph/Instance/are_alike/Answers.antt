use Rattle.std.proofs.Common.{◌∙◌, ap, sym, subst, length}
use Rattle.version_graph.specs.Graph.{Graph}
use Rattle.version_graph.specs.Stored.{IsStored}
use Rattle.bit_rows.specs.Rows.{row_at, agree_under}
use Rattle.version_graph.specs.Links.{table_at}
use Rattle.version_graph.proofs.LinkLemmas.{link_rows, link_wide, alike_told}
use Rattle.version_graph.proofs.graph.Instance.are_alike.Goals as goal

pub are_alike-requires-clause-first : goal.are_alike-requires-clause-first
are_alike-requires-clause-first c k h e = link_rows c.args.self.now c.self.inside.barred.items c.self.inside.links.items c.self.inside.total (subst (λ (h : Graph). IsStored h c.self.inside.barred.items c.self.inside.links.items c.self.inside.total) c.self.view_is c.self.invariant) c.args.p c.requires.first c.index.result.now c.index.ensures c.args.i c.requires.first_state k h

pub are_alike-requires-clause-second : goal.are_alike-requires-clause-second
are_alike-requires-clause-second c k h e = link_rows c.args.self.now c.self.inside.barred.items c.self.inside.links.items c.self.inside.total (subst (λ (h : Graph). IsStored h c.self.inside.barred.items c.self.inside.links.items c.self.inside.total) c.self.view_is c.self.invariant) c.args.p c.requires.first c.index.result.now c.index.ensures c.args.j c.requires.second_state k h

pub are_alike-requires-clause-wide : goal.are_alike-requires-clause-wide
are_alike-requires-clause-wide c k h e =
    link_wide c.args.self.now c.self.inside.barred.items c.self.inside.links.items c.self.inside.total (subst (λ (h : Graph). IsStored h c.self.inside.barred.items c.self.inside.links.items c.self.inside.total) c.self.view_is c.self.invariant) c.args.p c.requires.first c.index.result.now c.index.ensures c.args.i c.args.q c.requires.first_state k h e
    ∙ sym (c.requires.made.wide c.args.q c.requires.other) ∙ ap length (sym c.row.ensures)

pub returns : goal.returns
returns c =
    alike_told c.args.self.now c.self.inside.barred.items c.self.inside.links.items c.self.inside.total (subst (λ (h : Graph). IsStored h c.self.inside.barred.items c.self.inside.links.items c.self.inside.total) c.self.view_is c.self.invariant) c.args.p c.requires.first c.index.result.now c.index.ensures c.args.domains.now c.args.i c.args.j c.args.q c.are_alike.result c.requires.first_state c.requires.second_state
    (c.requires.made.wide c.args.q c.requires.other) c.are_alike.ensures.none
    (λ k h e. c.are_alike.ensures.some k h e ∙ ap (agree_under (row_at (table_at c.index.result.now k) c.args.i) (row_at (table_at c.index.result.now k) c.args.j)) c.row.ensures)
