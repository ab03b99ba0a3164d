-- The packages so far are mentioned, and the rest is to be mentioned.
use Rattle.std.proofs.Common.{◌≡◌, drop}
use Rattle.offer_book.specs.Numbers as spec
use Rattle.offer_book.proofs.mentions.mention_all.Given as goal

abbrev pub invariant-loop-name : goal.invariant-loop-name
invariant-loop-name l = spec.mention_all l.initial.mentions.entries l.list ≡ spec.mention_all l.mentions.entries (drop l.name-index l.list)
