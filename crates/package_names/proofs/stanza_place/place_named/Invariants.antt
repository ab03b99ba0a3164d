-- No stanza so far has the name.
use Rattle.std.proofs.Common.{◌≡◌, ◌+◌, ◌-◌, drop, length, map, option_map}
use Rattle.manifest_file.specs.Said.{said_stanza}
use Rattle.package_names.specs.Stanzas as spec
use Rattle.package_names.proofs.stanza_place.place_named.Given as goal

abbrev pub invariant-places : goal.invariant-places
invariant-places l = spec.place_named l.name (map said_stanza l.stanzas) ≡ option_map (λ p. l.place + p) (spec.place_named l.name (map said_stanza (drop l.place l.stanzas)))

abbrev pub decreases-places : goal.decreases-places
decreases-places l = length l.stanzas - l.place
