-- The triggers so far are loaded.
use Rattle.std.proofs.Common.{◌≡◌, drop}
use Rattle.manifest_file.specs.Said.{said_stanza}
use Rattle.manifest_file.specs.Steps.{has_id}
use Rattle.extension_rules.specs.Rules.{is_active}
use Rattle.extension_rules.proofs.activity.is_active.Given as goal

abbrev pub invariant-loop-name : goal.invariant-loop-name
invariant-loop-name l = is_active (has_id l.loaded) (said_stanza l.parent) l.triggers ≡ is_active (has_id l.loaded) (said_stanza l.parent) (drop l.name-index l.triggers)
