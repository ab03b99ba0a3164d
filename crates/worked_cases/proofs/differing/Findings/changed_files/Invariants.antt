-- the lines so far, and the files to come
use Rattle.std.proofs.Common.{◌≤◌, ◌+◌}
use Rattle.worked_cases.specs.Differing.{line_count, failing, is_made}
use Rattle.worked_cases.proofs.differing.Findings.changed_files.Given as goal

abbrev pub invariant-files : goal.invariant-files
invariant-files l =
    goal.iterator-files.can_next l.path-iterator × goal.iterator-files.is_finite l.path-iterator ×
    (line_count l.initial.self + failing (is_made l.after) l.changed.entries ≤ line_count l.self + failing (is_made l.after) l.path-iterator)
