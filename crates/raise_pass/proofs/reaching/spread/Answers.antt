use Rattle.std.proofs.Common.{◌≡◌, ◌∙◌, ap, arith, get_or, refl}
use Rattle.version_graph.specs.Graph.{does_need, IsListOf}
use Rattle.version_graph.specs.Needed.{need_row}
use Rattle.raise_pass.proofs.ReachLemmas.{need-known, needed-list, need-reached, reached-more, spread-grows, spread-more, grows-trans, met-more}
use Rattle.raise_pass.proofs.reaching.spread.Goals as goal

pub loop-q-preserved : goal.loop-q-preserved
loop-q-preserved c =
    let inv = c.loop-q.invariant in
    let g = c.args.instance.now in
    let chosen = c.args.chosen.now in
    let order = c.args.order.now.items in
    let place = c.args.next in
    let p = get_or order place 0 in
    let at : c.number_at-p.result ≡ p = c.number_at-p.ensures ∙ ap (λ o. get_or o place 0) c.as_slice.ensures.value in
    let known = c.requires.listed.known place c.requires.place in
    let row = c.of-needed.result.now in
    let list : IsListOf (does_need g p (get_or chosen p 0)) row =
    needed-list g c.args.needs.now chosen p c.state_of.result row c.requires.needs known (c.requires.states p known)
    (c.state_of.ensures ∙ ap (λ x. get_or chosen x 0) at) (c.of-needed.ensures ∙ ap (λ x. need_row c.args.needs.now x c.state_of.result) at) in
    let q = get_or row c.loop-q.q-index 0 in
    let need = list.sound c.loop-q.q-index (omega arith) in
    let reached = need-reached g chosen p q known (c.requires.reached.sound p (c.requires.listed.marked place c.requires.place)) need in
    record {
      listed = c.mark.ensures.listed;
      reached = reached-more g chosen c.loop-q.reached.items _ q inv.reached reached c.mark.ensures.marks;
      spread = spread-grows g chosen c.loop-q.reached.items _ c.loop-q.order.items _ place inv.spread (let a = inv.grows.longer in let b = c.requires.place in omega (arith, a, b)) c.mark.ensures.grows;
      grows = grows-trans _ _ _ _ _ _ inv.grows c.mark.ensures.grows;
      room = (let a = inv.room in let b = c.mark.ensures.room in omega (arith, a, b));
      met = met-more c.loop-q.reached.items _ row c.loop-q.q-index q refl c.mark.ensures.marks inv.met;
    }

pub mark-requires-clause-known : goal.mark-requires-clause-known
mark-requires-clause-known c =
    let g = c.args.instance.now in
    let chosen = c.args.chosen.now in
    let order = c.args.order.now.items in
    let place = c.args.next in
    let p = get_or order place 0 in
    let at : c.number_at-p.result ≡ p = c.number_at-p.ensures ∙ ap (λ o. get_or o place 0) c.as_slice.ensures.value in
    let known = c.requires.listed.known place c.requires.place in
    let row = c.of-needed.result.now in
    let list : IsListOf (does_need g p (get_or chosen p 0)) row =
    needed-list g c.args.needs.now chosen p c.state_of.result row c.requires.needs known (c.requires.states p known)
    (c.state_of.ensures ∙ ap (λ x. get_or chosen x 0) at) (c.of-needed.ensures ∙ ap (λ x. need_row c.args.needs.now x c.state_of.result) at) in
    need-known g p (get_or chosen p 0) (get_or row c.loop-q.q-index 0) (list.sound c.loop-q.q-index (omega arith))

pub returns-clause-spread : goal.returns-clause-spread
returns-clause-spread c =
    let inv = c.loop-q.invariant in
    let g = c.args.instance.now in
    let chosen = c.args.chosen.now in
    let order = c.args.order.now.items in
    let place = c.args.next in
    let p = get_or order place 0 in
    let at : c.number_at-p.result ≡ p = c.number_at-p.ensures ∙ ap (λ o. get_or o place 0) c.as_slice.ensures.value in
    let known = c.requires.listed.known place c.requires.place in
    let row = c.of-needed.result.now in
    let list : IsListOf (does_need g p (get_or chosen p 0)) row =
    needed-list g c.args.needs.now chosen p c.state_of.result row c.requires.needs known (c.requires.states p known)
    (c.state_of.ensures ∙ ap (λ x. get_or chosen x 0) at) (c.of-needed.ensures ∙ ap (λ x. need_row c.args.needs.now x c.state_of.result) at) in
    spread-more g chosen c.loop-q.reached.items c.loop-q.order.items place p row inv.spread (inv.grows.same place c.requires.place) list (λ k b. inv.met k (omega (arith, b)))
