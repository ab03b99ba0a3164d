use Rattle.toml.specs.View.{table_view}
use Rattle.project_file.proofs.project.Project.put_middle.Goals as goal

pub returns : goal.returns
returns c =
    record {
      after_sources = table_view c.put_each.new.table;
      after_name = table_view c.put_one.new.table;
      sources_put = rw c.items.ensures.items at c.in_ok-put_each.ensures;
      name_put = c.in_ok-put_one.ensures;
      manifest_put = c.in_ok-put_one-2.ensures;
    }
