use Rattle.project_file.proofs.Written.{cloned_view}
use Rattle.project_file.proofs.tables.copied.Goals as goal

pub returns-in-Ok : goal.returns-in-Ok
returns-in-Ok c = cloned_view _ (λ x y same. same) _ _ c.in-Ok.ensures.cases
