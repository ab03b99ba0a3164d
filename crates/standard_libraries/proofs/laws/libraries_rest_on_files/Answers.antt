use Rattle.standard_libraries.proofs.ConsultedLemmas.{libraries-rest}
use Rattle.standard_libraries.proofs.laws.libraries_rest_on_files.Goals as goal

pub returns : goal.returns
returns c = libraries-rest
