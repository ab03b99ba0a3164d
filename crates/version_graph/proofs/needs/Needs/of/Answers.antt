use Rattle.std.proofs.Common.{◌≡◌, ◌∙◌, ◌+◌, ◌-◌, ◌<◌, [], ℕ, List, ap, sym, subst, arith, length, get_or}
use Rattle.std.proofs.lemmas.List.{get_or_read}
use Rattle.version_graph.specs.Flat.{cut}
use Rattle.version_graph.specs.Needed.{need_row}
use Rattle.version_graph.proofs.FlatLemmas.{length-cut}
use Rattle.version_graph.proofs.NeedLemmas.{need_inside, need_is}
use Rattle.version_graph.proofs.needs.Needs.of.Goals as goal

pub index-requires : goal.index-requires
index-requires c =
    omega (arith, c.requires.known, ap length c.self.view_is, length-cut c.self.inside.firsts.items c.self.inside.rows.rows, c.self.inside.firsts.ok.0)

pub row-requires : goal.row-requires
row-requires c =
    let firsts = c.self.inside.firsts.items in
    let rows = c.self.inside.rows.rows in
    let known : c.args.p < length (cut firsts rows) = omega (arith, c.requires.known, ap length c.self.view_is) in
    let state : c.args.i < length (get_or (cut firsts rows) c.args.p []) = omega (arith, c.requires.state, ap (λ v. length (get_or v c.args.p [])) c.self.view_is) in
    let first = get_or_read firsts c.args.p c.index.result.now (omega (arith, known, length-cut firsts rows)) c.index.ensures 0 in
    omega (arith, first, need_inside firsts rows c.self.invariant c.args.p c.args.i known state)

pub returns : goal.returns
returns c =
    let firsts = c.self.inside.firsts.items in
    let rows = c.self.inside.rows.rows in
    let known : c.args.p < length (cut firsts rows) = omega (arith, c.requires.known, ap length c.self.view_is) in
    let state : c.args.i < length (get_or (cut firsts rows) c.args.p []) = omega (arith, c.requires.state, ap (λ v. length (get_or v c.args.p [])) c.self.view_is) in
    let first = get_or_read firsts c.args.p c.index.result.now (omega (arith, known, length-cut firsts rows)) c.index.ensures 0 in
    c.row.ensures ∙ ap (λ n. get_or rows (n + c.args.i) []) first ∙ sym (need_is firsts rows c.self.invariant c.args.p c.args.i known state)
    ∙ ap (λ v. need_row v c.args.p c.args.i) c.self.view_is
