use Rattle.std.proofs.Common.{◌≡◌, ap, arith, length, subst, sym}
use Rattle.version_graph.specs.Graph.{Graph}
use Rattle.version_graph.specs.Part.{IsRestrictedTo}
use Rattle.version_graph.specs.Copied.{IsCopiedTo}
use Rattle.version_graph.proofs.PartLemmas.{restricted-from, restricted-on, if-ok, places-kept, copied_more}
use Rattle.version_graph.proofs.graph.Instance.restricted.Goals as goal

pub loop-p-preserved : goal.loop-p-preserved
loop-p-preserved c =
    let g = c.args.self.now in
    let m = c.args.part.now in
    let old = c.loop-p.builder in
    let mid = c.copy_states.new.builder in
    let new = c.copy_pairs.new.builder in
    let alone = c.copy_states.ensures.copies in
    let pairs = c.in_ok-copy_pairs.ensures.copies in
    record {
      places = places-kept g m mid new pairs (places-kept g m old mid alone c.loop-p.invariant.places);
      copied = pairs.copied (alone.copied c.loop-p.invariant.copied);
      to = copied_more g m old mid new c.loop-p.p alone pairs c.loop-p.invariant.to c.copy_states.ensures.here c.in_ok-copy_pairs.ensures.here;
    }

pub returns : goal.returns
returns c =
    let g = c.args.self.now in
    let m = c.args.part.now in
    let whole : c.loop-p.p ≡ length m = omega (arith, c.packages-p-end.ensures, ap length c.in_ok-builder.ensures.sizes, ap length c.as_slice.ensures.value, c.in_ok-sizes.ensures.each) in
    let made = restricted-from g m c.loop-p.builder c.requires c.loop-p.invariant.places c.loop-p.invariant.copied
    (subst (IsCopiedTo g m c.loop-p.builder) whole c.loop-p.invariant.to) in
    if-ok c.joined.result _ _ (λ (h : Graph) same. restricted-on g m c.loop-p.builder h made same) c.joined.ensures
