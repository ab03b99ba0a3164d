-- No stanza so far has fetched it.
use Rattle.std.proofs.Common.{◌≡◌, drop, map}
use Rattle.manifest_file.specs.Said.{said_stanza}
use Rattle.pkg_commands.specs.Fetching as spec
use Rattle.pkg_commands.proofs.fetching.has_fetched.Given as goal

abbrev pub invariant-loop-stanza : goal.invariant-loop-stanza
invariant-loop-stanza l =
    spec.has_fetched (map said_stanza l.stanzas) l.uuid l.url l.rev l.subdir ≡ spec.has_fetched (map said_stanza (drop l.stanza-index l.stanzas)) l.uuid l.url l.rev l.subdir
