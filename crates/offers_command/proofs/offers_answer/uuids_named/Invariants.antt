use Rattle.std.proofs.Common.{◌≡◌, drop, fold}
use Rattle.offers_command.specs.OffersDue as spec
use Rattle.offers_command.proofs.offers_answer.uuids_named.Given as goal

abbrev pub invariant-loop-registry : goal.invariant-loop-registry
invariant-loop-registry l = spec.uuids_named l.name l.list ≡ fold (spec.put_uuids l.name) l.uuids.keys (drop l.registry-index l.list)
