use Rattle.std.proofs.Common.{◌≡◌, ◌∙◌, ◌^◌, [], length, get_or, ap, subst, sym, arith}
use Rattle.std.proofs.lemmas.List.{length-map}
use Rattle.std.specs.declared.vec.Vec.{Vec}
use Rattle.version_graph.specs.Graph.{packages}
use Rattle.version_graph.specs.Stored.{rows_of}
use Rattle.maxsum_messages.specs.Kept.{AreShaped, AreSenders}
use Rattle.maxsum_messages.proofs.Sums.{heard-silent}
use Rattle.maxsum_messages.proofs.inbox.Inbox.make.Goals as goal

pub invariant_of-result : goal.invariant_of-result
invariant_of-result g c =
    let none = g.W.Weight.none in
    let plus = g.W.Weight.plus in
    let sizes = c.in_ok-sizes.sizes.items in
    let rows = rows_of c.in_ok-senders.senders.items in
    let said = c.in_ok-said.said.items in
    let told = c.in_ok-senders.ensures in
    let count : length sizes ≡ packages c.args.instance.now = ap length c.in_ok-sizes.ensures in
    let many : length rows ≡ length sizes = length-map c.in_ok-senders.senders.items (λ (v : Vec _ _). v.items) ∙ told.each ∙ sym count in
    let shaped = subst (λ xs. AreShaped xs rows said) c.as_slice.ensures.value (subst (λ vs. AreShaped c.as_slice.result.now (rows_of vs) said) c.as_slice-2.ensures.value c.in_ok-said.ensures.shaped) in
    let added = c.in_ok-sums.ensures in
    let same = c.as_slice-3.ensures.value in
    record {
      packages = omega (arith, count, c.in_ok-senders.ensures.few);
      each = many;
      senders = λ q h. subst (λ n. AreSenders n q (get_or rows q [])) (sym count) (told.senders q (omega (arith, h, count)));
      shaped = shaped;
      added = added.each ∙ ap length same;
      wide = λ q h. added.wide q (omega (arith, h, ap length same)) ∙ ap (λ xs. get_or xs q 0) same;
      summed = λ q i h l. added.zero q i ∙ sym (heard-silent none plus i (g.met.W.Weight.plus_none none) (get_or said q []) (λ k. c.in_ok-said.ensures.zero q k i));
      small = λ q k j. subst (g.W.Weight.is_within (2 ^ 40)) (sym (c.in_ok-said.ensures.zero q k j)) (g.met.W.Weight.within_more 0 (2 ^ 40) none g.met.W.Weight.none_within (omega arith));
    }

pub returns-clause-made : goal.returns-clause-made
returns-clause-made g c =
    let rows = rows_of c.in_ok-senders.senders.items in
    let said = c.in_ok-said.said.items in
    let shaped = subst (λ xs. AreShaped xs rows said) c.as_slice.ensures.value (subst (λ vs. AreShaped c.as_slice.result.now (rows_of vs) said) c.as_slice-2.ensures.value c.in_ok-said.ensures.shaped) in
    record {
      sizes = c.in_ok-sizes.ensures;
      listed = c.in_ok-senders.ensures.listed;
      answered = λ p h. shaped.answered p (omega (arith, h, ap length c.in_ok-sizes.ensures));
    }
