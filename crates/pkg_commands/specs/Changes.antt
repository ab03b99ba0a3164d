-- What a command changes before packages are chosen: the project, its manifest, and the fixed packages, which are those of the
-- catalog. `develop` alone adds or replaces one, and `free` alone takes one away. (Pkg; which packages are fixed is an own
-- rule.)
--     changed command catalog project manifest     the three after the command, or the first refusal of its words
use Rattle.std.specs.Prelude.{List, map, Option, Some, None, Result, Ok}
use Rattle.pkg_world.specs.Each.{then_ok}
use Rattle.project_file.specs.Said as project
use Rattle.manifest_file.specs.Saying as manifest
use Rattle.manifest_file.specs.Said.{said as said_manifest}
use Rattle.offer_terms.specs.Demanded.{FixedSaid, fixed_said}
use Rattle.offer_catalog.specs.SaidCatalog.{SaidCatalog}
use Rattle.project_changes.specs.Refusals.{ChangeRefusal}
use Rattle.project_changes.specs.Words.{with_words, without_names, with_package}
use Rattle.project_changes.specs.Stanzas.{with_pin, without_mark, freed}
use Rattle.project_changes.specs.Fixing.{developed, with_fixed, without_fixed}
use Rattle.project_changes.specs.declared.freeing.Freed.{Freed}
use Rattle.project_changes.specs.declared.freeing.Freed.TheVariants.{Mark, Origin}
use Rattle.pkg_commands.specs.Commands.{SaidCommand, resolve, add, rm, pin, free, develop}
use Rattle.pkg_commands.specs.declared.changed.Changed as code

pub record Changed : Type 0 where
  pub project : project.Said
  pub manifest : manifest.Said
  pub fixed : List FixedSaid

abbrev pub changed_to : project.Said → manifest.Said → List FixedSaid → Changed
changed_to said found fixed = record { project = said; manifest = found; fixed = fixed }

-- the three without the room of their lists
abbrev pub seen_change : code.Changed → Changed
seen_change it = changed_to (project.said it.project) (said_manifest it.manifest) (map fixed_said it.fixed.items)

-- what is freed is a mark in the manifest, or a fixed package
abbrev pub without_freed : SaidCatalog → project.Said → manifest.Said → Freed → Changed
without_freed catalog said found (Mark place) = changed_to said (without_mark found place) catalog.fixed
without_freed catalog said found (Origin id) = changed_to said found (without_fixed id catalog.fixed)

-- a folder without a package changes nothing
abbrev pub with_developed : SaidCatalog → project.Said → manifest.Said → Option FixedSaid → Result Changed ChangeRefusal
with_developed catalog said found None = Ok (changed_to said found catalog.fixed)
with_developed catalog said found (Some given) = then_ok (with_package said given.name given.uuid) (λ after. Ok (changed_to after found (with_fixed given catalog.fixed)))

abbrev pub changed : SaidCommand → SaidCatalog → project.Said → manifest.Said → Result Changed ChangeRefusal
changed resolve catalog said found = Ok (changed_to said found catalog.fixed)
changed (add words) catalog said found = then_ok (with_words catalog found said words) (λ after. Ok (changed_to after found catalog.fixed))
changed (rm names) catalog said found = then_ok (without_names said names) (λ after. Ok (changed_to after found catalog.fixed))
changed (pin name version) catalog said found = then_ok (with_pin found name version) (λ after. Ok (changed_to said after catalog.fixed))
changed (free name) catalog said found = then_ok (freed said found name) (λ it. Ok (without_freed catalog said found it))
changed (develop path folder) catalog said found = with_developed catalog said found (developed path folder)
