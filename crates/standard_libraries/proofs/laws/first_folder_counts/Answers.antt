use Rattle.standard_libraries.proofs.FirstFolder.{first-folder}
use Rattle.standard_libraries.proofs.laws.first_folder_counts.Goals as goal

pub returns : goal.returns
returns c = first-folder
