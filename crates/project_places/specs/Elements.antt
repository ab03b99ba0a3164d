-- What an element of the load path means (Julia manual, Code Loading).
use Rattle.std.specs.Prelude.{ℕ, ◌==◌, ◌||◌, Bool, length, if◌then◌else◌, List, codes, Option, Some, None}
use Rattle.std.specs.List.{position_or_len, after_first, ends_with}
use Rattle.std.specs.Str.{bytes_eq}
use Rattle.pkg_world.specs.declared.place.Place.{Place}
use Rattle.pkg_world.specs.Path.{Path, joined, path_text}
use Rattle.pkg_world.specs.Tree.{Files, Content, bytes, a_folder, nothing, holds}
use Rattle.project_places.specs.declared.element.Element.{Element}
use Rattle.project_places.specs.declared.element.Element.TheVariants.{Project, Folder, Nothing}
use Rattle.project_places.specs.Active.{file_in, has_project, nearest, first_environment, environment_text, active_file, is_sign}

-- a file whose name is that of a project file
abbrev pub is_project_name : Path → Bool
is_project_name path = ends_with (λ a b. a == b) (path_text path) (codes "/Project.toml") || ends_with (λ a b. a == b) (path_text path) (codes "/JuliaProject.toml")

-- a file is a project where it is named as one
abbrev pub by_file_name : Path → Element
by_file_name path = if is_project_name path then Project path else Nothing

-- a folder with a project file is a project, and so is a file named as one; a folder without one is a package folder
abbrev pub by_content : Files → Path → Content → Element
by_content files path (bytes b) = by_file_name path
by_content files path a_folder = if has_project files path then Project (file_in files path) else Folder path
by_content files path nothing = Nothing

-- what stands at a path; one that rises above the root isn't there
abbrev pub by_path : Files → Option Path → Element
by_path files None = Nothing
by_path files (Some path) = by_content files path (holds path files)

-- a folder that has a project file
abbrev pub by_project : Files → Option Path → Element
by_project files None = Nothing
by_project files (Some folder) = Project (file_in files folder)

-- `@`: the active project, where a text other than `@` names it
abbrev pub active : Files → Place → Option (List ℕ) → Element
active files place None = Nothing
active files place (Some text) = if bytes_eq text (codes "@") then Nothing else Project (active_file files place)

-- what stands behind an at sign
unfoldable pub by_sign : Files → Place → List ℕ → Element
by_sign files place name =
    if length name == 0 then active files place place.project
    else if bytes_eq name (codes ".") then by_project files (nearest files place.cwd)
    else if bytes_eq name (codes "stdlib") then by_path files place.stdlib
    else by_project files (first_environment files place.depots.items (environment_text place.julia name))

-- what a text means; an empty one is none, since it stands for others
unfoldable pub element : Files → Place → List ℕ → Element
element files place text =
    if length text == 0 then Nothing
    else if position_or_len is_sign text == 0 then by_sign files place (after_first is_sign text)
    else by_path files (joined place.cwd text)
