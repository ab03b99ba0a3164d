use Rattle.std.proofs.Common.{◌≡◌, drop}
use Rattle.offers_command.specs.OffersDue as spec
use Rattle.offers_command.proofs.offers_answer.put_uuids.Given as goal

abbrev pub invariant-loop-listed : goal.invariant-loop-listed
invariant-loop-listed l = spec.put_listed l.name l.initial.uuids.keys l.packages ≡ spec.put_listed l.name l.uuids.keys (drop l.listed-index l.packages)
