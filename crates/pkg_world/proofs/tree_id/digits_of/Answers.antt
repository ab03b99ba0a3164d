-- The digits of bytes spell these bytes again.
use Rattle.std.proofs.Common.{ap, ◌∙◌}
use Rattle.hex.proofs.HexLemmas.{decode_sized-encode_lower}
use Rattle.pkg_world.specs.TreeIds.{spelled, tree_of}
use Rattle.pkg_world.proofs.tree_id.digits_of.Goals as goal

pub returns-clause-reads : goal.returns-clause-reads
returns-clause-reads c =
    ap tree_of c.in-Ok.ensures.written ∙ ap spelled (decode_sized-encode_lower c.args.bytes.now 20 c.told-bytes c.fits-bytes)
