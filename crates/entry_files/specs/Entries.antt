-- Entry files: where the code of a package begins, and that of an extension (Julia manual, Code Loading; which folder holds
-- extensions is our own rule).
use Rattle.std.specs.Prelude.{ℕ, Bool, false, if◌then◌else◌, List, ◌++◌, codes, Option, Some, None}
use Rattle.std.specs.Option.{option_and_then}
use Rattle.std.specs.Str.{bytes_eq}
use Rattle.pkg_world.specs.Path.{Path, joined, folder_of, path_text}
use Rattle.pkg_world.specs.Tree.{Files, holds, is_file}
use Rattle.project_places.specs.Active.{or_next}

-- `src/X.jl`
abbrev pub source_text : List ℕ → List ℕ
source_text name = codes "src/" ++ (name ++ codes ".jl")

-- whether a text meant that path
abbrev pub is_path : Option Path → Path → Bool
is_path None path = false
is_path (Some meant) path = bytes_eq (path_text meant) (path_text path)

-- the folder above `src` of an entry that ends in `src/P.jl`; none where it ends otherwise
abbrev pub home_of : List ℕ → Path → Option Path
home_of name entry =
    if is_path (joined (folder_of (folder_of entry)) (source_text name)) entry then Some (folder_of (folder_of entry)) else None

-- `ext/E/E.jl`
abbrev pub nested_text : List ℕ → List ℕ
nested_text extension = codes "ext/" ++ (extension ++ (codes "/" ++ (extension ++ codes ".jl")))

-- `ext/E.jl`
abbrev pub flat_text : List ℕ → List ℕ
flat_text extension = codes "ext/" ++ (extension ++ codes ".jl")

abbrev pub if_file : Files → Path → Option Path
if_file files path = if is_file (holds path files) then Some path else None

-- the entry of an extension in the folder of its parent: `ext/E/E.jl` where that is a file, else `ext/E.jl`, which need not
-- be there
abbrev pub extension_in : Files → List ℕ → Path → Option Path
extension_in files extension home =
    or_next (option_and_then (if_file files) (joined home (nested_text extension))) (joined home (flat_text extension))

-- the entry of an extension by that of its parent
abbrev pub extension_entry : Files → List ℕ → List ℕ → Path → Option Path
extension_entry files parent extension entry = option_and_then (extension_in files extension) (home_of parent entry)
