-- the lines so far, and the files to come
use Rattle.std.proofs.Common.{◌≡◌, ◌+◌}
use Rattle.worked_cases.specs.Differing.{line_count, failing, is_kept}
use Rattle.worked_cases.proofs.differing.Findings.kept_files.Given as goal

abbrev pub invariant-files : goal.invariant-files
invariant-files l =
    goal.iterator-files.can_next l.path-iterator × goal.iterator-files.is_finite l.path-iterator ×
    (line_count l.initial.self + failing (is_kept l.changed l.after) l.before.entries ≡ line_count l.self + failing (is_kept l.changed l.after) l.path-iterator)
