use Rattle.toml.specs.View.{table_view}
use Rattle.project_file.proofs.project.Project.put_back.Goals as goal

pub returns : goal.returns
returns c =
    record {
      after_weakdeps = table_view c.put_each.new.table;
      after_version = table_view c.put_one.new.table;
      weakdeps_put = rw c.items.ensures.items at c.in_ok-put_each.ensures;
      version_put = c.in_ok-put_one.ensures;
      uuid_put = c.in_ok-put_one-2.ensures;
    }
