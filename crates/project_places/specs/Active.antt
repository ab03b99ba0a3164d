-- The active project's file, by the text that names it (Julia manual, Code Loading; where nothing names it, an own rule).
use Rattle.std.specs.Prelude.{ℕ, Bool, ◌==◌, nat_lt, length, map, if◌then◌else◌, List, [], ◌∷◌, ◌++◌, slice_index, codes, Option, Some, None}
use Rattle.std.specs.Fmt.{decimal}
use Rattle.std.specs.List.{position_or_len, before_first, after_first}
use Rattle.std.specs.Str.{bytes_eq}
use Rattle.std.specs.Option.{option_and_then}
use Rattle.pkg_world.specs.declared.place.Place.{Place}
use Rattle.pkg_world.specs.Path.{Path, joined, last_ends_in}
use Rattle.pkg_world.specs.Tree.{Files, holds, is_file}

-- a folder whose project file counts, or that file itself
pub data Active : Type 0 where
  in_folder : Path → Active
  the_file : Path → Active

-- of two names in a folder the first that is a file, else the second, which need not be there
abbrev pub first_there : Files → Path → List ℕ → List ℕ → Path
first_there files folder preferred other = if is_file (holds (folder ++ preferred ∷ []) files) then folder ++ preferred ∷ [] else folder ++ other ∷ []

-- the project file of a folder: `JuliaProject.toml` where that is a file, else `Project.toml`
abbrev pub file_in : Files → Path → Path
file_in files folder = first_there files folder (codes "JuliaProject.toml") (codes "Project.toml")

-- whether a folder has a project file
abbrev pub has_project : Files → Path → Bool
has_project files folder = is_file (holds (file_in files folder) files)

-- the first path that a test takes
abbrev pub first_with : (Path → Bool) → List Path → Option Path
first_with takes [] = None
first_with takes (path ∷ more) = if takes path then Some path else first_with takes more

-- a path and those above it, up to the root
abbrev pub upwards : Path → List Path
upwards [] = [] ∷ []
upwards (part ∷ path) = map (λ above. part ∷ above) (upwards path) ++ [] ∷ []

-- `@.`: the nearest folder with a project file, from a folder upwards to the root
abbrev pub nearest : Files → Path → Option Path
nearest files folder = first_with (has_project files) (upwards folder)

abbrev pub is_hash : ℕ → Bool
is_hash b = b == 35

-- a name in which the numbers stand in the place of its first `#`s
abbrev pub with_numbers : List ℕ → List ℕ → List ℕ
with_numbers [] name = name
with_numbers (n ∷ ns) name =
    if nat_lt (position_or_len is_hash name) (length name) then before_first is_hash name ++ (decimal n ++ with_numbers ns (after_first is_hash name)) else name

-- the folder of a named environment inside a depot: the first three `#` are the numbers of Julia's version
abbrev pub environment_text : List ℕ → List ℕ → List ℕ
environment_text julia name = codes "environments/" ++ with_numbers julia name

-- `environments/vMAJOR.MINOR`
abbrev pub version_folder : List ℕ → List ℕ
version_folder julia = codes "environments/v" ++ (decimal (slice_index julia 0) ++ (codes "." ++ decimal (slice_index julia 1)))

abbrev pub or_else : Path → Option Path → Path
or_else cwd None = cwd
or_else cwd (Some path) = path

-- a folder of the first depot; the current folder without a depot, and where it rises above the root
abbrev pub in_first : Path → List Path → List ℕ → Path
in_first cwd [] text = cwd
in_first cwd (depot ∷ more) text = or_else cwd (joined depot text)

-- the folder where no text names a project: that of Julia's version in the first depot
abbrev pub default_folder : Place → Path
default_folder place = in_first place.cwd place.depots.items (version_folder place.julia)

abbrev pub or_next : {T : Type 0} → Option T → Option T → Option T
or_next None next = next
or_next (Some found) next = Some found

abbrev pub if_project : Files → Path → Option Path
if_project files folder = if has_project files folder then Some folder else None

-- a folder with a project file
abbrev pub environment_in : Files → Option Path → Option Path
environment_in files folder = option_and_then (if_project files) folder

-- `@NAME`: the first depot's environment of that name that has a project file
abbrev pub first_environment : Files → List Path → List ℕ → Option Path
first_environment files [] text = None
first_environment files (depot ∷ more) text = or_next (environment_in files (joined depot text)) (first_environment files more text)

-- what a path means that a text gave; one that rises above the root stands for the current folder
abbrev pub by_path : Path → Option Path → Active
by_path cwd None = in_folder cwd
by_path cwd (Some path) = if last_ends_in path (codes ".toml") then the_file path else in_folder path

-- a named environment; where no depot has it, it is to be made in the first
abbrev pub by_environment : Files → Place → List ℕ → Path
by_environment files place text = or_else (in_first place.cwd place.depots.items text) (first_environment files place.depots.items text)

-- what stands behind an at sign; `@.` without a project file, and `@stdlib`, stand for the current folder
unfoldable pub by_sign : Files → Place → List ℕ → Path
by_sign files place name =
    if length name == 0 then default_folder place
    else if bytes_eq name (codes ".") then or_else place.cwd (nearest files place.cwd)
    else if bytes_eq name (codes "stdlib") then place.cwd
    else by_environment files place (environment_text place.julia name)

abbrev pub is_sign : ℕ → Bool
is_sign b = b == 64

-- what a text means; an empty one stands for the current folder, and an at sign may come first
unfoldable pub by_text : Files → Place → List ℕ → Active
by_text files place text =
    if length text == 0 then in_folder place.cwd
    else if position_or_len is_sign text == 0 then in_folder (by_sign files place (after_first is_sign text))
    else by_path place.cwd (joined place.cwd text)

abbrev pub named_by : Files → Place → Option (List ℕ) → Active
named_by files place None = in_folder (default_folder place)
named_by files place (Some text) = by_text files place text

abbrev pub file_of : Files → Active → Path
file_of files (in_folder folder) = file_in files folder
file_of files (the_file path) = path

-- the active project's file, which need not be there
abbrev pub active_file : Files → Place → Path
active_file files place = file_of files (named_by files place place.project)
