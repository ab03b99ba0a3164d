use Rattle.std.proofs.Common.{◌≡◌, ◌∙◌, ◌++◌, ◌∷◌, [], cond, ap, sym, subst, arith}
use Rattle.std.proofs.lemmas.Bool.{and_parts, lt-ltb}
use Rattle.std.specs.List.{filter, range_with_len}
use Rattle.version_graph.specs.Graph.{states, IsListOf}
use Rattle.version_graph.specs.Domain.{has}
use Rattle.version_graph.proofs.ListLemmas.{filter-range-more, filter-listed, range-listed}
use Rattle.graph_pruning.specs.Marked.{standing_in, does_stand}
use Rattle.graph_pruning.proofs.ReachLemmas.{known_in}
use Rattle.graph_pruning.proofs.reducing.standing_states.Goals as goal

pub loop-i-preserved : goal.loop-i-preserved
loop-i-preserved c =
    let test = does_stand (has c.args.domains.now) (standing_in c.args.classes.now) c.args.p in
    c.in_ok-push_standing.ensures ∙ ap (λ xs. xs ++ cond (test c.loop-i.i) (c.loop-i.i ∷ []) []) c.loop-i.invariant ∙ sym (filter-range-more test c.loop-i.i)

pub returns : goal.returns
returns c =
    let g = c.args.instance.now in
    let test = does_stand (has c.args.domains.now) (standing_in c.args.classes.now) c.args.p in
    let whole : c.loop-i.i ≡ states g c.args.p = omega (arith, c.states-i-end.ensures.count) in
    subst (IsListOf test) (sym (c.loop-i.invariant ∙ ap (λ n. filter test (range_with_len 0 n)) whole))
    (filter-listed test (range_with_len 0 (states g c.args.p)) (range-listed (states g c.args.p)).rising
    (λ q t. (range-listed (states g c.args.p)).whole q (lt-ltb q (states g c.args.p) (known_in g c.args.domains.now c.args.p q c.requires.made (and_parts (has c.args.domains.now c.args.p q) _ t).0).1)))
