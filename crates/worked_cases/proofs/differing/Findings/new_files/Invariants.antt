-- the lines so far, and the files to come
use Rattle.std.proofs.Common.{◌≡◌, ◌+◌}
use Rattle.worked_cases.specs.Differing.{line_count, failing, is_known}
use Rattle.worked_cases.proofs.differing.Findings.new_files.Given as goal

abbrev pub invariant-files : goal.invariant-files
invariant-files l =
    goal.iterator-files.can_next l.path-iterator × goal.iterator-files.is_finite l.path-iterator ×
    (line_count l.initial.self + failing (is_known l.before l.changed) l.after.entries ≡ line_count l.self + failing (is_known l.before l.changed) l.path-iterator)
