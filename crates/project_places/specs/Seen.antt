-- The definitions' values that the private types of the code stand for.
use Rattle.project_places.specs.declared.active.Active as code
use Rattle.project_places.specs.declared.active.Active.TheVariants.{InFolder, TheFile}
use Rattle.project_places.specs.Active.{Active, in_folder, the_file}

abbrev pub active_of : code.Active → Active
active_of (InFolder folder) = in_folder folder
active_of (TheFile path) = the_file path
