use Rattle.std.proofs.Common.{ap, sym, ◌∙◌}
use Rattle.project_places.specs.Active as spec
use Rattle.project_places.proofs.active.by_join.Goals as goal

pub returns-in-Ok : goal.returns-in-Ok
returns-in-Ok c = c.by_path.ensures c.args.cwd.now ∙ ap (spec.by_path c.args.cwd.now) (sym c.in-Ok.ensures)
