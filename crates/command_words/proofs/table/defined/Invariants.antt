use Rattle.std.proofs.Common.{◌≡◌, map, take}
use Rattle.clap.specs.Words.{app_of}
use Rattle.command_words.specs.Table as spec
use Rattle.command_words.specs.Seen.{entry_of}
use Rattle.command_words.proofs.table.defined.Given as goal

abbrev pub invariant-loop-entry : goal.invariant-loop-entry
invariant-loop-entry l = app_of l.made ≡ spec.definition l.command (map entry_of (take l.entry-index l.table))
