use Rattle.std.proofs.Common.{◌≡◌, ◌∙◌, ◌∷◌, ◌<◌, [], ℕ, List, ap, sym, subst, arith, length, length-append, get_or}
use Rattle.std.specs.List.Sorted.{IsStrictlyIncreasing}
use Rattle.version_graph.specs.Stored.{rows_of}
use Rattle.version_graph.specs.Links.{Linked, IsFree}
use Rattle.version_graph.proofs.RowLemmas.{row-copied}
use Rattle.version_graph.proofs.LinkLemmas.{links_more}
use Rattle.version_graph.proofs.linking.free_links.Goals as goal

pub make-requires-clause-rising : goal.make-requires-clause-rising
make-requires-clause-rising c =
    subst (λ (xs : List ℕ). IsStrictlyIncreasing xs) (sym (row-copied c.args.rows.now c.loop-p.p c.index-rows-p.result c.in_ok-numbers.numbers.items c.as_slice.result.now c.index-rows-p.is c.loop-p-test.true c.in_ok-numbers.ensures.items c.as_slice.ensures.value)) (c.requires.rising c.loop-p.p c.loop-p-test.true)

pub make-requires-clause-known : goal.make-requires-clause-known
make-requires-clause-known c =
    subst (λ (xs : List ℕ). (k : ℕ) → k < length xs → get_or xs k 0 < length c.args.sizes.now) (sym (row-copied c.args.rows.now c.loop-p.p c.index-rows-p.result c.in_ok-numbers.numbers.items c.as_slice.result.now c.index-rows-p.is c.loop-p-test.true c.in_ok-numbers.ensures.items c.as_slice.ensures.value))
    (λ k h. c.requires.known c.loop-p.p k c.loop-p-test.true h)

pub loop-p-preserved : goal.loop-p-preserved
loop-p-preserved c =
    let links = c.loop-p.links.items in
    let new = c.push.new.self.items in
    let made = c.in_ok-make.field-0 in
    record {
      each = omega (arith, ap length c.in_ok-push.ensures.items, length-append links (made ∷ []), c.loop-p.invariant.each);
      numbers = links_more links new made c.loop-p.p (λ p (l : Linked). l.numbers ≡ get_or (rows_of c.args.rows.now) p []) c.in_ok-push.ensures.items c.loop-p.invariant.each
          c.loop-p.invariant.numbers (c.in_ok-make.ensures.numbers ∙ row-copied c.args.rows.now c.loop-p.p c.index-rows-p.result c.in_ok-numbers.numbers.items c.as_slice.result.now c.index-rows-p.is c.loop-p-test.true c.in_ok-numbers.ensures.items c.as_slice.ensures.value);
      free = links_more links new made c.loop-p.p (λ p l. IsFree l (get_or c.args.sizes.now p 0) c.args.sizes.now) c.in_ok-push.ensures.items c.loop-p.invariant.each
          c.loop-p.invariant.free c.in_ok-make.ensures.free;
    }
