use Rattle.std.proofs.Common.{◌≡◌, ◌≤◌, length, drop, map}
use Rattle.manifest_file.specs.Said.{said_stanza}
use Rattle.home_commands.specs.VerifyDue as spec
use Rattle.home_commands.proofs.verify_answer.bearers_in.Given as goal

abbrev pub invariant-loop-left : goal.invariant-loop-left
invariant-loop-left l = (l.left ≤ length l.stanzas) × (l.bearers ≡ spec.bearers_in l.name (map said_stanza (drop l.left l.stanzas)))

abbrev pub decreases-loop-left : goal.decreases-loop-left
decreases-loop-left l = l.left
