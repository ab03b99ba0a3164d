-- Which names are taken, so that a project can't have another package under them. (Own rule.)
--     taken project name given     what the name has: its identifier in `deps` where another one is given; else that of the
--                                  project, where the name is the project's own; else its identifier in `weakdeps`
use Rattle.std.specs.Prelude.{ℕ, Bool, false, if◌then◌else◌, List, Option, Some, None, option_map}
use Rattle.std.specs.Option.{option_or, option_and_then}
use Rattle.std.specs.Str.{bytes_eq}
use Rattle.package_tables.specs.Row.{value_of}
use Rattle.project_file.specs.Said as project
use Rattle.offer_terms.specs.Offered.{Text, Id}

-- whether something is there, and is this
abbrev pub is_this : List ℕ → Option (List ℕ) → Bool
is_this it None = false
is_this it (Some found) = bytes_eq it found

-- an identifier that isn't the given one
abbrev pub unless_given : Id → Id → Option Id
unless_given given found = if bytes_eq given found then None else Some found

-- the identifier that some dependencies have at a name, where another one is given
abbrev pub other_dep : List (Text × Id) → Text → Option Id → Option Id
other_dep deps name None = None
other_dep deps name (Some given) = option_and_then (unless_given given) (value_of name deps)

-- the project's identifier, where the name is the project's own
abbrev pub own_id : project.Said → Text → Option (Option Id)
own_id said name = if is_this name said.name then Some said.uuid else None

abbrev pub own_or_weak : project.Said → Text → Option (Option Id)
own_or_weak said name = option_or (own_id said name) (option_map Some (value_of name said.weakdeps))

abbrev pub taken : project.Said → Text → Option Id → Option (Option Id)
taken said name given = option_or (option_map Some (other_dep said.deps name given)) (own_or_weak said name)
