use Rattle.std.proofs.Common.{◌≡◌, ◌∙◌, ◌+◌, ◌-◌, subst, arith, get_or}
use Rattle.std.specs.Simd.Lanes.{put_chunk}
use Rattle.std.proofs.lemmas.Simd.{length-put_chunk, get_or-put_chunk_below, get_or-put_chunk_at, get_or-put_chunk_above}
use Rattle.bit_rows.specs.Stored.{meet_at}
use Rattle.bit_rows.proofs.lanes.meet_into.Goals as goal

pub returns : goal.returns
returns c =
    let i = c.args.i in
    let old = c.args.target.now in
    let v = c.met-lanes.result in
    let long = c.met-lanes.ensures.long in
    record {
      long = length-put_chunk i old v;
      inside = λ k from to.
          let at : i + (k - i) ≡ k = omega (arith, from) in
          subst (λ n. get_or (put_chunk i old v) n 0 ≡ meet_at old c.args.other.now n) at
          (get_or-put_chunk_at i old v (k - i) 0 (omega (arith, from, to, long)) (omega (arith, c.requires.first, long))
          ∙ c.met-lanes.ensures.each (k - i) (omega (arith, from, to)));
      below = λ k below. get_or-put_chunk_below i old v k 0 below;
      above = λ k above. get_or-put_chunk_above i old v k 0 (omega (arith, above, long));
    }
