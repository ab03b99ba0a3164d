use Rattle.std.proofs.Common.{Some, ap, arith}
use Rattle.toml.specs.View.{view}
use Rattle.toml_view.specs.Reading.{at, mapped}
use Rattle.project_file.proofs.putting.put_value.Goals as goal

pub returns : goal.returns
returns g c =
    record {
      value = Some (view c.in_ok-written.written);
      reads = ap (λ r. mapped (λ v. Some v) (at c.args.key.now r)) c.in_ok-written.ensures.back;
      flat = omega (arith, c.in_ok-written.ensures.flat);
      dated = c.in_ok-written.ensures.dated;
      put_there = c.in_ok-put.ensures;
    }
