-- The packages so far are mentioned, and the rest is to be mentioned.
use Rattle.std.proofs.Common.{◌≡◌, drop, map}
use Rattle.offer_book.specs.Numbers as spec
use Rattle.offer_book.proofs.mentions.mention_extra.Given as goal

abbrev pub invariant-loop-uuid : goal.invariant-loop-uuid
invariant-loop-uuid l = spec.mention_all l.initial.mentions.entries (map spec.unnamed l.extra) ≡ spec.mention_all l.mentions.entries (map spec.unnamed (drop l.uuid-index l.extra))
