-- the names so far are gone, and those to come are left
use Rattle.std.proofs.Common.{◌≡◌, drop}
use Rattle.toml.specs.View.{table_view}
use Rattle.project_file.specs.Said.{said}
use Rattle.project_changes.specs.Words.{without_names}
use Rattle.project_changes.proofs.removing.remove_names.Given as goal

abbrev pub invariant-loop-name : goal.invariant-loop-name
invariant-loop-name l = record {
  told : without_names (said l.fn.project) l.names ≡ without_names (said l.after) (drop l.name-index l.names);
  rest : table_view l.after.rest ≡ table_view l.fn.project.rest;
}
