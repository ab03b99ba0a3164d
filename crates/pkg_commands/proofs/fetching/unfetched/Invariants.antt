-- No dependency so far is to be fetched.
use Rattle.std.proofs.Common.{◌≡◌, drop, map}
use Rattle.manifest_file.specs.Said.{said_stanza}
use Rattle.pkg_commands.specs.Fetching as spec
use Rattle.pkg_commands.proofs.fetching.unfetched.Given as goal

abbrev pub invariant-loop-dep : goal.invariant-loop-dep
invariant-loop-dep l =
    spec.unfetched l.sources l.deps (map said_stanza l.stanzas) ≡ spec.unfetched l.sources (drop l.dep-index l.deps) (map said_stanza l.stanzas)
