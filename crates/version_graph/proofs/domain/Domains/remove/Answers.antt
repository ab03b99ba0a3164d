use Rattle.std.proofs.Common.{◌≡◌, ◌∙◌, ◌+◌, ◌-◌, ℕ, cond, ap, sym, subst, set, arith, length, get_or, true, false, []}
use Rattle.std.proofs.lemmas.List.{get_or_read}
use Rattle.version_graph.specs.Domain.{has, row, AreCounted}
use Rattle.version_graph.proofs.RowLemmas.{has_known, size_some, counted-written}
use Rattle.version_graph.proofs.domain.Domains.remove.Goals as goal

pub index_mut-requires : goal.index_mut-requires
index_mut-requires c =
    let rows = c.self.inside.rows.items in
    let p = c.args.p in
    let i = c.args.i in
    let there : has rows p i ≡ true = ap (λ d. has d p i) c.self.view_is ∙ c.requires in
    let known = has_known rows p i there in
    let inside = known.0 in
    let state = known.1 in
    omega (arith, inside, c.self.inside.rows.ok.0)

pub clear-requires : goal.clear-requires
clear-requires c =
    let rows = c.self.inside.rows.items in
    let p = c.args.p in
    let i = c.args.i in
    let there : has rows p i ≡ true = ap (λ d. has d p i) c.self.view_is ∙ c.requires in
    let known = has_known rows p i there in
    let inside = known.0 in
    let state = known.1 in
    let here : c.index_mut.result.now ≡ get_or rows p [] = get_or_read rows p c.index_mut.result.now inside c.index_mut.ensures.value [] in
    omega (arith, state, ap length here)

pub index_mut-requires-2 : goal.index_mut-requires-2
index_mut-requires-2 c =
    let rows = c.self.inside.rows.items in
    let p = c.args.p in
    let i = c.args.i in
    let there : has rows p i ≡ true = ap (λ d. has d p i) c.self.view_is ∙ c.requires in
    let known = has_known rows p i there in
    let inside = known.0 in
    let state = known.1 in
    omega (arith, inside, c.self.invariant.each, c.self.inside.sizes.ok.0)

pub overflow_sub-index_mut : goal.overflow_sub-index_mut
overflow_sub-index_mut c =
    let rows = c.self.inside.rows.items in
    let p = c.args.p in
    let i = c.args.i in
    let there : has rows p i ≡ true = ap (λ d. has d p i) c.self.view_is ∙ c.requires in
    let known = has_known rows p i there in
    let inside = known.0 in
    let state = known.1 in
    let count : c.index_mut-2.result.now ≡ get_or c.self.inside.sizes.items p 0 =
    get_or_read c.self.inside.sizes.items p c.index_mut-2.result.now (omega (arith, inside, c.self.invariant.each)) c.index_mut-2.ensures.value 0 in
    omega (arith, count, c.self.invariant.count p inside, size_some rows p i there)

pub invariant_of-self : goal.invariant_of-self
invariant_of-self c =
    let rows = c.self.inside.rows.items in
    let p = c.args.p in
    let i = c.args.i in
    let there : has rows p i ≡ true = ap (λ d. has d p i) c.self.view_is ∙ c.requires in
    let known = has_known rows p i there in
    let inside = known.0 in
    let state = known.1 in
    let count : c.index_mut-2.result.now ≡ get_or c.self.inside.sizes.items p 0 =
    get_or_read c.self.inside.sizes.items p c.index_mut-2.result.now (omega (arith, inside, c.self.invariant.each)) c.index_mut-2.ensures.value 0 in
    let here : c.index_mut.result.now ≡ get_or rows p [] = get_or_read rows p c.index_mut.result.now inside c.index_mut.ensures.value [] in
    let new : c.clear.new.self ≡ set (row rows p) i false = c.clear.ensures ∙ ap (λ r. set r i false) here in
    let counted : (c.index_mut-2.result.now - 1) + cond (has rows p i) 1 0 ≡ get_or c.self.inside.sizes.items p 0 + cond false 1 0 = omega (arith, count, ap (λ b. cond {A = ℕ} b 1 0) there, c.self.invariant.count p inside, size_some rows p i there) in
    subst (λ r. AreCounted (set rows p r) (set c.self.inside.sizes.items p (c.index_mut-2.result.now - 1))) (sym new)
    (counted-written rows c.self.inside.sizes.items p i (c.index_mut-2.result.now - 1) false c.self.invariant inside state counted)
