use Rattle.std.proofs.Common.{Some, ap, arith}
use Rattle.toml.specs.Data.{table}
use Rattle.toml.specs.View.{table_view}
use Rattle.toml_view.specs.Reading.{at, mapped, or_empty}
use Rattle.project_file.proofs.putting.put_each.Goals as goal

pub returns : goal.returns
returns g c =
    record {
      value = Some (table (table_view c.in_ok-pairs.pairs));
      reads = ap (λ r. mapped or_empty (mapped (λ v. Some v) (at c.args.key.now r))) c.in_ok-pairs.ensures.back;
      flat = omega (arith, c.in_ok-pairs.ensures.flat);
      dated = c.in_ok-pairs.ensures.dated;
      put_there = c.in_ok-put_table.ensures;
    }
