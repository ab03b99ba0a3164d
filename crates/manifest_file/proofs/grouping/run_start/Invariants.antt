use Rattle.std.proofs.Common.{◌≡◌, ◌<◌, ◌-◌, map, take, drop}
use Rattle.manifest_file.specs.Said.{said_stanza}
use Rattle.manifest_file.specs.Written.{grouped, with_run}
use Rattle.manifest_file.proofs.grouping.run_start.Given as goal

abbrev pub invariant-loop-start : goal.invariant-loop-start
invariant-loop-start l =
    (l.start < l.end)
    × (grouped (map said_stanza (drop l.start l.stanzas)) ≡ with_run (map said_stanza (take (l.end - l.start) (drop l.start l.stanzas))) (grouped (map said_stanza (drop l.end l.stanzas))))

abbrev pub decreases-loop-start : goal.decreases-loop-start
decreases-loop-start l = l.start
