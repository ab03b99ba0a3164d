-- The place that the texts of an environment give. (own rule)
use Rattle.std.specs.Prelude.{◌≡◌, ℕ, ◌==◌, if◌then◌else◌, List, [], ◌∷◌, ◌++◌, length, codes, Option, Some, None, IsOk, Result, Ok, Err, MatchResult}
use Rattle.jl_versions.specs.Meant.{version_meant}
use Rattle.jl_versions.specs.Triple.{triple_of}
use Rattle.jl_versions.specs.declared.version.Version.{Version}
use Rattle.pkg_world.specs.Each.{then_ok, onto}
use Rattle.pkg_world.specs.Path.{Path, joined, pieces_at}
use Rattle.pkg_world.specs.declared.place.Place.{Place}
use Rattle.pkg_top.specs.declared.place.PlaceFault.{PlaceFault}
use Rattle.pkg_top.specs.declared.place.PlaceFault.TheVariants.{BadPath, BadJulia, Memory}

-- a path, or the text that is none
abbrev pub Placed : Type 0 → Type 0
Placed T = Result T (List ℕ)

abbrev pub or_text : List ℕ → Option Path → Placed Path
or_text text None = Err text
or_text text (Some path) = Ok path

-- the path that a text means; refused where it rises above the root
abbrev pub path_from : Path → List ℕ → Placed Path
path_from base text = or_text text (joined base text)

-- the depot of one piece of a depot path; an empty piece has none
abbrev pub depot_of : Path → List ℕ → Placed (List Path)
depot_of cwd piece = if length piece == 0 then Ok [] else then_ok (path_from cwd piece) (λ path. Ok (path ∷ []))

-- the depots of a depot path's pieces, in order
abbrev pub depots_of : Path → List (List ℕ) → Placed (List Path)
depots_of cwd [] = Ok []
depots_of cwd (piece ∷ more) = then_ok (depot_of cwd piece) (λ found. onto found (depots_of cwd more))

-- without a depot path `.julia` in the home folder is the one depot, and without a home folder there is none
abbrev pub home_depot : Path → Option (List ℕ) → Placed (List Path)
home_depot cwd None = Ok []
home_depot cwd (Some home) = then_ok (path_from cwd home) (λ path. Ok ((path ++ codes ".julia" ∷ []) ∷ []))

abbrev pub depots_from : Path → Option (List ℕ) → Option (List ℕ) → Placed (List Path)
depots_from cwd home None = home_depot cwd home
depots_from cwd home (Some text) = depots_of cwd (pieces_at 58 text)

abbrev pub stdlib_from : Path → Option (List ℕ) → Placed (Option Path)
stdlib_from cwd None = Ok None
stdlib_from cwd (Some text) = then_ok (path_from cwd text) (λ path. Ok (Some path))

abbrev pub triple_meant : Result Version ℕ → Result (List ℕ) ℕ
triple_meant (Ok version) = Ok (triple_of version)
triple_meant (Err place) = Err place

-- the three numbers of Julia's version, or the first bad place of its text; 1.11.0 without a text
abbrev pub julia_from : Option (List ℕ) → Result (List ℕ) ℕ
julia_from None = Ok (1 ∷ 11 ∷ 0 ∷ [])
julia_from (Some text) = triple_meant (version_meant text)

abbrev pub RefusesJulia : Result (List ℕ) ℕ → PlaceFault → Type 0
RefusesJulia meant (BadPath text) = ⊥
RefusesJulia meant (BadJulia place) = meant ≡ Err place
RefusesJulia meant Memory = Unit {0}

-- the numbers that are read, or the place of the refusal, or want of memory
abbrev pub ReadsJulia : Result (List ℕ) PlaceFault → Result (List ℕ) ℕ → Type 0
ReadsJulia answer meant = MatchResult answer (λ julia. meant ≡ Ok julia) (RefusesJulia meant)

pub record Paths : Type 0 where
  pub cwd : Path
  pub depots : List Path
  pub stdlib : Option Path

-- the paths of a place, or the first text that is no path
abbrev pub paths_from : List ℕ → Option (List ℕ) → Option (List ℕ) → Option (List ℕ) → Placed Paths
paths_from cwd home depots stdlib =
    then_ok (path_from [] cwd) λ folder.
    then_ok (depots_from folder home depots) λ found.
    then_ok (stdlib_from folder stdlib) λ library.
    Ok (record { cwd = folder; depots = found; stdlib = library })

abbrev pub paths_of : Place → Paths
paths_of place = record { cwd = place.cwd; depots = place.depots.items; stdlib = place.stdlib }

abbrev pub RefusesPlaced : {T : Type 0} → Placed T → PlaceFault → Type 0
RefusesPlaced meant (BadPath text) = meant ≡ Err text
RefusesPlaced meant (BadJulia place) = ⊥
RefusesPlaced meant Memory = Unit {0}

-- what is placed, or the text that is no path, or want of memory
abbrev pub Places : {S T : Type 0} → (S → T) → Result S PlaceFault → Placed T → Type 0
Places view answer meant = MatchResult answer (λ value. meant ≡ Ok (view value)) (RefusesPlaced meant)

-- the place of the texts
pub record IsPlaceOf (place : Place) (paths : Placed Paths) (load_path project : Option (List ℕ)) (julia : Result (List ℕ) ℕ) : Type 0 where
  pub paths_are : paths ≡ Ok (paths_of place)
  pub load_path_is : place.load_path ≡ load_path
  pub project_is : place.project ≡ project
  pub julia_is : julia ≡ Ok place.julia

-- a path is refused first, and Julia's text only where all paths are good
abbrev pub RefusesPlace : Placed Paths → Result (List ℕ) ℕ → PlaceFault → Type 0
RefusesPlace paths julia (BadPath text) = paths ≡ Err text
RefusesPlace paths julia (BadJulia place) = IsOk paths × (julia ≡ Err place)
RefusesPlace paths julia Memory = Unit {0}

abbrev pub GivesPlace : Result Place PlaceFault → Placed Paths → Option (List ℕ) → Option (List ℕ) → Result (List ℕ) ℕ → Type 0
GivesPlace answer paths load_path project julia =
    MatchResult answer (λ place. IsPlaceOf place paths load_path project julia) (RefusesPlace paths julia)
