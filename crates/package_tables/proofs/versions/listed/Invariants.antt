-- the rows so far, and those to come
use Rattle.std.proofs.Common.{◌≡◌, ◌++◌, map}
use Rattle.std.specs.BTreeMap.{btree_map_len}
use Rattle.package_tables.specs.Sections as spec
use Rattle.package_tables.proofs.versions.listed.Given as goal

abbrev pub invariant-loop-version : goal.invariant-loop-version
invariant-loop-version l = map spec.version_row l.fn.marks.entries ≡ l.rows.items ++ map spec.version_row l.marks.entries

abbrev pub decreases-loop-version : goal.decreases-loop-version
decreases-loop-version l = btree_map_len l.marks
