-- The fixed packages of a project and its manifest, by their identifiers. Of those that either fixes the first of an
-- identifier counts, and what they say is read by their names and then by their identifiers: the first refusal counts.
-- (Own rules; a folder without a project file: a missing file.)
--     fixed_in files home said manifest     what each says, by the identifiers, or the first refusal
use Rattle.std.specs.Prelude.{◌≡◌, ℕ, List, [], ◌∷◌, fold, Option, Some, None, Result, Ok, Err, MatchResult}
use Rattle.std.specs.Ordering.{ordering_then}
use Rattle.std.specs.declared.cmp.Ordering.{Ordering}
use Rattle.std.specs.BTreeMap.{insert_entry}
use Rattle.pkg_world.specs.Each.{then_ok, read_each, onto}
use Rattle.pkg_world.specs.Path.{Path}
use Rattle.pkg_world.specs.Tree.{Files, holds}
use Rattle.pkg_world.specs.declared.cause.Cause.TheVariants.{BadShape}
use Rattle.pkg_world.specs.declared.place.Home.{Home}
use Rattle.package_tables.specs.Row.{by_bytes, put_to}
use Rattle.registry_tables.specs.Answers.{Read, Refuses, missing, bad}
use Rattle.registry_tables.specs.declared.fault.RegFault.{RegFault}
use Rattle.project_file.specs.Said as project
use Rattle.project_places.specs.Active.{file_in}
use Rattle.project_places.specs.Files as places
use Rattle.manifest_file.specs.Saying as manifest
use Rattle.manifest_file.specs.declared.origin.Origin.{Origin}
use Rattle.fixed_packages.specs.SaidGiven.{SaidGiven}
use Rattle.fixed_packages.specs.Given.{of_project}
use Rattle.fixed_packages.specs.Candidates.{candidates}
use Rattle.fixed_packages.specs.Firsts.{put_new}
use Rattle.fixed_packages.specs.declared.basis.Basis.{Basis}
use Rattle.fixed_packages.specs.declared.basis.Basis.TheVariants.{Folder, Escaping, Stated}
use Rattle.fixed_packages.specs.declared.candidate.Candidate.{Candidate}

-- candidates by their identifiers
abbrev pub FirstById : Type 0
FirstById = List (List ℕ × Candidate)

-- one more candidate at its place in the order, unless its identifier is there
abbrev pub put_first : FirstById → Candidate → FirstById
put_first found candidate = put_new found candidate.uuid candidate

-- candidates by their identifiers; the first of an identifier counts
abbrev pub by_id : List Candidate → FirstById
by_id found = fold put_first [] found

-- a name and an identifier, which stand for the order of reading
abbrev pub Key : Type 0
Key = List ℕ × List ℕ

abbrev pub by_key : Key → Key → Ordering
by_key a b = ordering_then (by_bytes a.0 b.0) (by_bytes a.1 b.1)

abbrev pub InReadingOrder : Type 0
InReadingOrder = List (Key × Basis)

abbrev pub put_named : InReadingOrder → List ℕ × Candidate → InReadingOrder
put_named packages entry = insert_entry by_key packages (entry.1.name, entry.1.uuid) entry.1.basis

-- candidates in the order of their names and then of their identifiers
abbrev pub by_name : FirstById → InReadingOrder
by_name found = fold put_named [] found

-- a file that is read where it may be absent is refused as any other
abbrev pub read_as : {T : Type 0} → places.Read T → Read T
read_as (Ok value) = Ok value
read_as (Err refused) = Err (bad refused.0 refused.1)

-- a folder without a project file: that file is missing
abbrev pub or_missing : Path → Option project.Said → Read project.Said
or_missing file None = Err (missing file)
or_missing file (Some said) = Ok said

-- the project file at a path, which must be there
abbrev pub project_needed : Files → Path → Read project.Said
project_needed files file = then_ok (read_as (places.at_file file (places.project_in (holds file files)))) (or_missing file)

-- what the project file at a path says of a package
abbrev pub given_at : Files → List ℕ → Origin → Path → Read SaidGiven
given_at files name origin file = then_ok (project_needed files file) (λ said. Ok (of_project name origin said))

-- what a package says
abbrev pub given_by : Files → List ℕ → Basis → Read SaidGiven
given_by files name (Folder folder origin) = given_at files name origin (file_in files folder)
given_by files name (Escaping file keys) = Err (bad file (BadShape keys))
given_by files name (Stated given) = Ok given

-- what packages say, by their identifiers
abbrev pub Said : Type 0
Said = List (List ℕ × SaidGiven)

abbrev pub package_read : Files → Key × Basis → Read Said
package_read files entry = then_ok (given_by files entry.0.0 entry.1) (λ given. Ok ((entry.0.1, given) ∷ []))

-- what the packages say, one after the other
abbrev pub packages_read : Files → InReadingOrder → Read Said
packages_read files packages = read_each (package_read files) packages

-- the same in the order of the identifiers
abbrev pub fixed_of : Files → InReadingOrder → Read Said
fixed_of files packages = then_ok (packages_read files packages) (λ found. Ok (put_to by_bytes [] found))

abbrev pub fixed_in : Files → Home → project.Said → manifest.Said → Read Said
fixed_in files home said found = fixed_of files (by_name (by_id (candidates home said found)))

-- what is read was put behind what there was
abbrev pub Adds : {T : Type 0} → Read (List T) → List T → List T → Result (Unit {0}) RegFault → Type 0
Adds reading old new answer = MatchResult answer (λ _. onto old reading ≡ Ok new) (Refuses (onto old reading))
