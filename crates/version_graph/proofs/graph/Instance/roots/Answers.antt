use Rattle.std.proofs.Common.{◌≡◌, ◌∙◌, ◌++◌, ◌∷◌, [], cond, ap, sym, subst, arith}
use Rattle.std.specs.List.{filter, range_with_len}
use Rattle.version_graph.specs.Graph.{packages, is_root, IsListOf}
use Rattle.version_graph.proofs.ListLemmas.{filter-range-more, filter-listed, range-listed, root-known}
use Rattle.version_graph.proofs.graph.Instance.roots.Goals as goal

pub loop-p-preserved : goal.loop-p-preserved
loop-p-preserved c =
    c.in_ok-push_if.ensures
    ∙ ap (λ xs. xs ++ cond c.is_root.result (c.loop-p.p ∷ []) []) c.loop-p.invariant
    ∙ ap (λ b. filter (is_root c.args.self.now) (range_with_len 0 c.loop-p.p) ++ cond b (c.loop-p.p ∷ []) []) c.is_root.ensures
    ∙ sym (filter-range-more (is_root c.args.self.now) c.loop-p.p)

pub returns : goal.returns
returns c =
    let whole : c.loop-p.p ≡ packages c.args.self.now = omega (arith, c.packages-p-end.ensures.count) in
    subst (IsListOf (is_root c.args.self.now)) (sym (c.loop-p.invariant ∙ ap (λ n. filter (is_root c.args.self.now) (range_with_len 0 n)) whole))
    (filter-listed (is_root c.args.self.now) (range_with_len 0 (packages c.args.self.now)) (range-listed (packages c.args.self.now)).rising
    (λ q t. (range-listed (packages c.args.self.now)).whole q (root-known c.args.self.now q t)))
