-- What is to be added is what the stanzas fix that are left.
use Rattle.std.proofs.Common.{◌≡◌, ◌++◌, drop, map}
use Rattle.std.specs.List.{flat_map}
use Rattle.manifest_file.specs.Said.{said_stanza}
use Rattle.fixed_packages.specs.Candidates.{stanza_fixes}
use Rattle.fixed_packages.proofs.candidate.add_stanzas.Given as goal

abbrev pub invariant-loop-stanza : goal.invariant-loop-stanza
invariant-loop-stanza l =
    l.found.items ++ flat_map (stanza_fixes l.manifest) (map said_stanza (drop l.stanza-index l.stanzas)) ≡ l.initial.found.items ++ flat_map (stanza_fixes l.manifest) (map said_stanza l.stanzas)
