use Rattle.std.proofs.Common.{◌≡◌, ◌∙◌, ◌++◌, ◌∷◌, [], ap, sym, subst, arith, length, take}
use Rattle.std.proofs.Math.Seq.{take-length}
use Rattle.std.specs.List.{filter}
use Rattle.version_graph.specs.Graph.{does_need, last, IsListOf}
use Rattle.version_graph.proofs.ListLemmas.{filter-listed, need-forbidden}
use Rattle.version_graph.proofs.needs.add_need.Goals as goal

pub returns : goal.returns
returns c =
    let xs = c.neighbours-neighbours.result.now in
    let test = does_need c.args.instance.now c.args.p c.args.i in
    let whole : c.loop-q.q-index ≡ length xs = omega arith in
    let same : take c.loop-q.q-index xs ≡ xs = ap (λ n. take n xs) whole ∙ take-length xs in
    record {
      row = c.loop-q.rows.rest;
      rows = c.in_ok-end_row.ensures.rows ∙ ap (λ rs. rs ++ c.loop-q.rows.rest ∷ []) c.loop-q.invariant.rows;
      ended = c.in_ok-end_row.ensures.rest;
      list = subst (IsListOf test) (sym (c.loop-q.invariant.rest ∙ ap (filter test) same))
          (filter-listed test xs c.neighbours-neighbours.ensures.list.rising
          (λ q t. c.neighbours-neighbours.ensures.whole c.args.i q (last c.args.instance.now q) (need-forbidden c.args.instance.now c.args.p c.args.i q t)));
    }
