use Rattle.fixed_packages.proofs.ConsultedLemmas.{fixed-rest}
use Rattle.fixed_packages.proofs.laws.fixed_rest_on_files.Goals as goal

pub returns : goal.returns
returns c = fixed-rest
