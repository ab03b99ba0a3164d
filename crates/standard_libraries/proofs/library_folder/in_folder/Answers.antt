use Rattle.std.proofs.Common.{◌≡◌, Ok, MatchResult}
use Rattle.project_places.specs.Files.{Refuses}
use Rattle.standard_libraries.specs.Libraries.{libraries_at}
use Rattle.standard_libraries.proofs.Listing.{listed-here}
use Rattle.standard_libraries.proofs.library_folder.in_folder.Goals as goal

pub returns-in-Ok-Some-clause-told : goal.returns-in-Ok-Some-clause-told
returns-in-Ok-Some-clause-told g c =
    listed-here (λ all folders. MatchResult c.of_names.result (λ found. libraries_at all c.args.julia.now folders ≡ Ok found.entries) (Refuses (libraries_at all c.args.julia.now folders)))
    _ c.args.folder.now c.in-Ok-Some.names.items (rw c.in-Ok-Some.field-0-is at c.in-Ok-Some.ensures.found) (rw (← c.items.ensures, ← c.names_in.ensures.files) c.of_names.ensures.told)
