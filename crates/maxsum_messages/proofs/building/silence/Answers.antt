use Rattle.std.proofs.Common.{◌≡◌, ◌∙◌, ◌<◌, ◌+◌, ◌∷◌, [], List, subst, sym, ap, arith, length, get_or}
use Rattle.std.proofs.lemmas.List.{length-append, length-map}
use Rattle.std.specs.declared.vec.Vec.{Vec}
use Rattle.version_graph.specs.Stored.{rows_of}
use Rattle.maxsum_messages.proofs.Rows.{pushed-all, pushed-each, cell, row-read}
use Rattle.maxsum_messages.proofs.building.silence.Goals as goal

pub loop-q-preserved : goal.loop-q-preserved
loop-q-preserved g c =
    let none = g.W.Weight.none in
    let old = c.loop-q.said.items in
    let senders = c.args.senders.now in
    let new = c.in_ok-push.ensures.items in
    let made = c.in_ok-silent_grid.ensures in
    let long = c.loop-q.invariant.each in
    let known : c.loop-q.q < length (rows_of senders) = omega (arith, length-map senders (λ (v : Vec _ _). v.items)) in
    let here = row-read senders c.loop-q.q c.index-senders-q.result c.index-senders-q.is known in
    let count : c.len.result ≡ length (get_or (rows_of senders) c.loop-q.q []) = omega (arith, c.len.ensures, c.index-senders-q.result.ok.0, ap length here) in
    record {
      each = ap length new ∙ length-append old (c.in_ok-silent_grid.field-0 ∷ []) ∙ ap (λ n. n + 1) long;
      answered = λ r h. ap (λ said. length (get_or said r [])) new
          ∙ pushed-all [] (λ n (grid : List (List _)). length grid ≡ length (get_or (rows_of senders) n [])) old c.in_ok-silent_grid.field-0 (λ n l. c.loop-q.invariant.answered n (omega (arith, l, long)))
          (made.each ∙ count ∙ ap (λ n. length (get_or (rows_of senders) n [])) (sym long)) r (omega (arith, h, long));
      wide = λ r k h.
          subst (λ said. k < length (get_or said r []) → length (get_or (get_or said r []) k []) ≡ get_or c.args.sizes.now r 0) (sym new)
          (pushed-all [] (λ n (grid : List (List _)). k < length grid → length (get_or grid k []) ≡ get_or c.args.sizes.now n 0) old c.in_ok-silent_grid.field-0 (λ n l. c.loop-q.invariant.wide n k (omega (arith, l, long)))
          (λ l. made.wide k (omega (arith, l, made.each)) ∙ ap (λ n. get_or c.args.sizes.now n 0) (sym long)) r (omega (arith, h, long)));
      zero = λ r k j. ap (λ said. cell none (get_or said r []) k j) new
          ∙ pushed-each [] (λ (grid : List (List _)). cell none grid k j ≡ none) old c.in_ok-silent_grid.field-0 (λ n. c.loop-q.invariant.zero n k j) (made.zero k j) r;
    }
