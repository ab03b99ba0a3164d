use Rattle.toml.specs.View.{table_view}
use Rattle.project_file.proofs.project.Project.put_front.Goals as goal

pub returns : goal.returns
returns c =
    record {
      after_extras = table_view c.put_each.new.table;
      after_extensions = table_view c.put_each-2.new.table;
      after_deps = table_view c.put_each-3.new.table;
      extras_put = rw c.items.ensures.items at c.in_ok-put_each.ensures;
      extensions_put = rw c.items-2.ensures.items at c.in_ok-put_each-2.ensures;
      deps_put = rw c.items-3.ensures.items at c.in_ok-put_each-3.ensures;
      compat_put = rw c.items-4.ensures.items at c.in_ok-put_each-4.ensures;
    }
