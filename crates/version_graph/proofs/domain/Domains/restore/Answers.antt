use Rattle.std.proofs.Common.{◌≡◌, ◌∙◌, ◌<◌, ◌+◌, ℕ, cond, ap, sym, subst, set, arith, length, get_or, true, false, []}
use Rattle.std.proofs.lemmas.List.{get_or_read}
use Rattle.version_graph.specs.Domain.{has, row, AreCounted}
use Rattle.version_graph.proofs.RowLemmas.{size_less, counted-written}
use Rattle.version_graph.proofs.domain.Domains.restore.Goals as goal

pub overflow_add-index_mut : goal.overflow_add-index_mut
overflow_add-index_mut c =
    let rows = c.self.inside.rows.items in
    let p = c.args.p in
    let i = c.args.i in
    let away : has rows p i ≡ false = ap (λ d. has d p i) c.self.view_is ∙ c.requires.away in
    let inside : p < length rows = omega (arith, c.requires.known, ap length c.self.view_is) in
    let state : i < length (row rows p) = omega (arith, c.requires.state, ap (λ d. length (row d p)) c.self.view_is) in
    let count : c.index_mut-2.result.now ≡ get_or c.self.inside.sizes.items p 0 =
    get_or_read c.self.inside.sizes.items p c.index_mut-2.result.now (omega (arith, inside, c.self.invariant.each)) c.index_mut-2.ensures.value 0 in
    omega (arith, count, c.self.invariant.count p inside, size_less rows p i state away, c.self.invariant.narrow p)

pub invariant_of-self : goal.invariant_of-self
invariant_of-self c =
    let rows = c.self.inside.rows.items in
    let p = c.args.p in
    let i = c.args.i in
    let away : has rows p i ≡ false = ap (λ d. has d p i) c.self.view_is ∙ c.requires.away in
    let inside : p < length rows = omega (arith, c.requires.known, ap length c.self.view_is) in
    let state : i < length (row rows p) = omega (arith, c.requires.state, ap (λ d. length (row d p)) c.self.view_is) in
    let count : c.index_mut-2.result.now ≡ get_or c.self.inside.sizes.items p 0 =
    get_or_read c.self.inside.sizes.items p c.index_mut-2.result.now (omega (arith, inside, c.self.invariant.each)) c.index_mut-2.ensures.value 0 in
    let here : c.index_mut.result.now ≡ get_or rows p [] = get_or_read rows p c.index_mut.result.now inside c.index_mut.ensures.value [] in
    let new : c.set.new.self ≡ set (row rows p) i true = c.set.ensures ∙ ap (λ r. set r i true) here in
    let counted : (c.index_mut-2.result.now + 1) + cond (has rows p i) 1 0 ≡ get_or c.self.inside.sizes.items p 0 + cond true 1 0 = omega (arith, count, ap (λ b. cond {A = ℕ} b 1 0) away) in
    subst (λ r. AreCounted (set rows p r) (set c.self.inside.sizes.items p (c.index_mut-2.result.now + 1))) (sym new)
    (counted-written rows c.self.inside.sizes.items p i (c.index_mut-2.result.now + 1) true c.self.invariant inside state counted)
