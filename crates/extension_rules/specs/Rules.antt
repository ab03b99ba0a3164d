-- What triggers an extension, and which extensions are active (Pkg, Project.toml; Julia manual, Code Loading).
use Rattle.std.specs.Prelude.{ℕ, Bool, false, if◌then◌else◌, List, [], map, filter, Option, Some, None, is_some}
use Rattle.std.specs.List.{list_all, list_any, filter_map, flat_map}
use Rattle.std.specs.Option.{option_and_then, option_or}
use Rattle.std.specs.Str.{bytes_eq}
use Rattle.manifest_file.specs.Saying.{SaidStanza}
use Rattle.extension_rules.specs.ByName.{found_at}
use Rattle.extension_rules.specs.declared.activity.ActiveExtension.{ActiveExtension}

-- the identifier of a trigger: that of the optional dependency of its name, else of the dependency
abbrev pub trigger_id : List (List ℕ × List ℕ) → List (List ℕ × List ℕ) → List ℕ → Option (List ℕ)
trigger_id weakdeps deps name = option_or (found_at name weakdeps) (found_at name deps)

-- the identifiers of some triggers, where each has one
abbrev pub trigger_ids : List (List ℕ × List ℕ) → List (List ℕ × List ℕ) → List (List ℕ) → Option (List (List ℕ))
trigger_ids weakdeps deps names =
    if list_all (λ name. is_some (trigger_id weakdeps deps name)) names then Some (filter_map (trigger_id weakdeps deps) names) else None

-- the identifiers of an extension's triggers; None where there is no such extension, or one of its triggers has none
abbrev pub triggers : List (List ℕ × List (List ℕ)) → List (List ℕ × List ℕ) → List (List ℕ × List ℕ) → List ℕ → Option (List (List ℕ))
triggers extensions weakdeps deps name = option_and_then (trigger_ids weakdeps deps) (found_at name extensions)

-- whether an identifier is there and loaded
abbrev pub is_loaded : (List ℕ → Bool) → Option (List ℕ) → Bool
is_loaded loaded None = false
is_loaded loaded (Some id) = loaded id

-- whether all triggers of an extension are loaded
abbrev pub is_active : (List ℕ → Bool) → SaidStanza → List (List ℕ) → Bool
is_active loaded parent names = list_all (λ name. is_loaded loaded (trigger_id parent.weakdeps parent.deps name)) names

-- those of a package's extensions that are active where it is
abbrev pub active_named : (List ℕ → Bool) → SaidStanza → List (List ℕ × List (List ℕ)) → List ActiveExtension
active_named loaded parent extensions =
    map (λ extension. record { parent = parent.uuid; extension = extension.0 }) (filter (λ extension. is_active loaded parent extension.1) extensions)

-- the active extensions of a package, where it is loaded, by their names
abbrev pub active_of : (List ℕ → Bool) → SaidStanza → List ActiveExtension
active_of loaded parent = if loaded parent.uuid then active_named loaded parent parent.extensions else []

-- the pairs of parent and extension whose parent and triggers are all loaded, by the order of the stanzas
abbrev pub active : (List ℕ → Bool) → List SaidStanza → List ActiveExtension
active loaded stanzas = flat_map (active_of loaded) stanzas

abbrev pub is_id_among : List (List ℕ) → List ℕ → Bool
is_id_among ids id = list_any (λ other. bytes_eq other id) ids
