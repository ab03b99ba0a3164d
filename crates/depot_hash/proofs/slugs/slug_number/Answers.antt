use Rattle.std.proofs.Common.{reverse, lit<, ◌∙◌}
use Rattle.depot_hash.proofs.Divisions.{checksum_goes_on}
use Rattle.depot_hash.proofs.slugs.slug_number.Goals as goal

pub returns : goal.returns
returns c =
    c.crc32c-2.ensures ∙ rw (c.crc32c.ensures, c.bytes.ensures, c.reverse.ensures.after, c.into_bytes-number.ensures) (checksum_goes_on 0 (reverse c.args.uuid.now) c.args.tree.now (lit< tt))
