use Rattle.std.proofs.Common.{◌≡◌, ◌∙◌, ◌+◌, ◌∷◌, [], subst, sym, ap, arith, length, get_or}
use Rattle.std.proofs.lemmas.List.{length-append, length-map}
use Rattle.std.specs.declared.vec.Vec.{Vec}
use Rattle.version_graph.specs.Graph.{packages, are_neighbours, IsListOf}
use Rattle.version_graph.specs.Stored.{rows_of}
use Rattle.maxsum_messages.specs.Kept.{AreSenders}
use Rattle.maxsum_messages.proofs.Rows.{pushed-all, rows-pushed}
use Rattle.maxsum_messages.proofs.building.senders_of.Goals as goal

pub loop-p-preserved : goal.loop-p-preserved
loop-p-preserved c =
    let g = c.args.instance.now in
    let old = rows_of c.loop-p.rows.items in
    let pushed = ap rows_of c.in_ok-push.ensures.items ∙ rows-pushed c.loop-p.rows.items c.in_ok-neighbours_of.field-0 in
    let long : length old ≡ c.loop-p.p = length-map c.loop-p.rows.items (λ (v : Vec _ _). v.items) ∙ c.loop-p.invariant.each in
    record {
      each = ap length c.in_ok-push.ensures.items ∙ length-append c.loop-p.rows.items (c.in_ok-neighbours_of.field-0 ∷ []) ∙ ap (λ n. n + 1) c.loop-p.invariant.each;
      senders = λ q h. subst (λ rows. AreSenders (packages g) q (get_or rows q [])) (sym pushed)
          (pushed-all [] (λ n xs. AreSenders (packages g) n xs) old _ (λ r l. c.loop-p.invariant.senders r (omega (arith, l, long)))
          (subst (λ n. AreSenders (packages g) n c.in_ok-neighbours_of.field-0.items) (sym long) c.in_ok-neighbours_of.ensures.senders) q (omega (arith, h, long)));
      listed = λ q h. subst (λ rows. IsListOf (are_neighbours g q) (get_or rows q [])) (sym pushed)
          (pushed-all [] (λ n xs. IsListOf (are_neighbours g n) xs) old _ (λ r l. c.loop-p.invariant.listed r (omega (arith, l, long)))
          (subst (λ n. IsListOf (are_neighbours g n) c.in_ok-neighbours_of.field-0.items) (sym long) c.in_ok-neighbours_of.ensures.listed) q (omega (arith, h, long)));
    }
