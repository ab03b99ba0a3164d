use Rattle.std.proofs.Common.{not, eqb, arith, w64}
use Rattle.std.proofs.lemmas.Simd.{bitmask_splat}
use Rattle.bit_rows.proofs.LaneLemmas.{any_told}
use Rattle.bit_rows.proofs.lanes.is_any_set.Goals as goal

pub returns : goal.returns
returns c =
    let v = c.args.lanes in
    any_told v _ c.fits-lanes.0 (bitmask_splat w64 (λ a b. not (eqb a b)) v 8 0 c.fits-lanes.0 (omega arith))
