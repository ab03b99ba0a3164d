-- None of the offers so far is at the version.
use Rattle.std.proofs.Common.{◌≡◌, drop, find, map}
use Rattle.offer_terms.specs.Offered.{offering, is_of}
use Rattle.manifest_writing.proofs.stanza.at_version.Given as goal

abbrev pub invariant-loop-offer : goal.invariant-loop-offer
invariant-loop-offer l = find (is_of l.version) (map offering l.offers) ≡ find (is_of l.version) (map offering (drop l.offer-index l.offers))
