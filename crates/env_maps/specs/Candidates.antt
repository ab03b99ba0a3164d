-- Package folders (Julia manual, Code Loading; the form of a bare file, and the identifiers that are made up, are ours).
use Rattle.std.specs.Prelude.{ℕ, Bool, if◌then◌else◌, List, [], ◌∷◌, ◌++◌, codes, Option, Some, None, is_none, option_map, Ok}
use Rattle.std.specs.Option.{option_and_then}
use Rattle.pkg_world.specs.Each.{then_ok}
use Rattle.pkg_world.specs.Path.{Path, joined, path_text}
use Rattle.pkg_world.specs.Tree.{Files, holds, is_file}
use Rattle.project_file.specs.Said as project
use Rattle.env_maps.specs.declared.id.Id.{Id}
use Rattle.env_maps.specs.declared.spot.Spot.{Spot}
use Rattle.project_places.specs.Active.{file_in, or_next}
use Rattle.env_maps.specs.ByName.{by_name, given}
use Rattle.project_places.specs.Files.{Read, at_file, project_in}
use Rattle.extension_rules.specs.NamedIds.{named_id}
use Rattle.entry_files.specs.Entries.{source_text}
use Rattle.env_maps.specs.Contexts.{Uses, same_uuid}
use Rattle.env_maps.specs.Maps.{project_uses}

-- an entry that is a file, with the folder whose project file belongs to it
abbrev pub spot_if : Files → Option Path → Path → Option Spot
spot_if files home entry = if is_file (holds entry files) then Some (record { entry = entry; home = home }) else None

-- `src/X.jl` in a folder of that name
abbrev pub inside : Files → Path → List ℕ → List ℕ → Option Spot
inside files folder inner name =
    option_and_then (λ home. option_and_then (spot_if files (Some home)) (joined home (source_text name))) (joined folder inner)

-- a file of that name alone
abbrev pub alone : Files → Path → List ℕ → Option Spot
alone files folder inner = option_and_then (spot_if files None) (joined folder inner)

-- the first that is a file of `X/src/X.jl`, `X.jl/src/X.jl` and `X.jl`
abbrev pub spot : Files → Path → List ℕ → Option Spot
spot files folder name =
    or_next (inside files folder name name) (or_next (inside files folder (name ++ codes ".jl") name) (alone files folder (name ++ codes ".jl")))

-- a package of a package folder: its entry file, its identifier, and what it uses where it has a project file
pub record Candidate : Type 0 where
  pub entry : Path
  pub uuid : Option (List ℕ)
  pub uses : Option Uses

-- the namespace fe0723d6-3a44-4c41-8065-ee0f42c8ceab
abbrev pub namespace : List ℕ
namespace = 254 ∷ 7 ∷ 35 ∷ 214 ∷ 58 ∷ 68 ∷ 76 ∷ 65 ∷ 128 ∷ 101 ∷ 238 ∷ 15 ∷ 66 ∷ 200 ∷ 206 ∷ 171 ∷ []

-- the identifier of a package whose project file has none: version 5 (RFC 9562), of that file's path
abbrev pub made_up : Path → List ℕ
made_up file = named_id namespace (path_text file)

abbrev pub uuid_or_made : Path → Option (List ℕ) → List ℕ
uuid_or_made file None = made_up file
uuid_or_made file (Some uuid) = uuid

-- without a project file a package has no identifier and uses nothing of its own
abbrev pub candidate_of : Path → Path → Option project.Said → Candidate
candidate_of entry file None = record { entry = entry; uuid = None; uses = None }
candidate_of entry file (Some said) = record { entry = entry; uuid = Some (uuid_or_made file said.uuid); uses = Some (project_uses said) }

abbrev pub candidate_with : Files → Path → Path → Read Candidate
candidate_with files entry file = then_ok (at_file file (project_in (holds file files))) (λ said. Ok (candidate_of entry file said))

abbrev pub candidate_at : Files → Path → Option Path → Read Candidate
candidate_at files entry None = Ok (record { entry = entry; uuid = None; uses = None })
candidate_at files entry (Some home) = candidate_with files entry (file_in files home)

abbrev pub of_spot : Files → Option Spot → Read (Option Candidate)
of_spot files None = Ok None
of_spot files (Some spot) = then_ok (candidate_at files spot.entry spot.home) (λ candidate. Ok (Some candidate))

-- the package of that name in a package folder
abbrev pub candidate_read : Files → Path → List ℕ → Read (Option Candidate)
candidate_read files folder name = of_spot files (spot files folder name)

-- the packages of these names
abbrev pub candidates_in : Files → Path → List (List ℕ) → Read (List (List ℕ × Option Candidate))
candidates_in files folder names = by_name (candidate_read files folder) names

-- the package of any name; none where its project file is refused
abbrev pub candidate : Files → Path → List ℕ → Option Candidate
candidate files folder name = given (candidate_read files folder name)

-- two identifiers that are the same, or none both
abbrev pub equal_uuids : Option (List ℕ) → Option (List ℕ) → Bool
equal_uuids None b = is_none b
equal_uuids (Some a) b = same_uuid (Some a) b

-- the identity of a package of that name
abbrev pub root_at : List ℕ → Option Candidate → Option Id
root_at name found = option_map (λ candidate. record { uuid = candidate.uuid; name = name }) found

-- the package of a name where it has that identifier
abbrev pub if_uuid : Option (List ℕ) → Candidate → Option Candidate
if_uuid uuid candidate = if equal_uuids candidate.uuid uuid then Some candidate else None

abbrev pub with_uuid : Option (List ℕ) → Option Candidate → Option Candidate
with_uuid uuid found = option_and_then (if_uuid uuid) found

-- what an identity uses, by the package of its name
abbrev pub graph_at : Option (List ℕ) → Option Candidate → Option Uses
graph_at uuid found = option_and_then (λ candidate. candidate.uses) (with_uuid uuid found)

-- the entry of an identity, by the package of its name
abbrev pub path_at : Option (List ℕ) → Option Candidate → Option Path
path_at uuid found = option_map (λ candidate. candidate.entry) (with_uuid uuid found)
