-- What becomes of a project whose dependency is set or taken out (Pkg, `add` and `rm`). Lists stay in the order of the names.
use Rattle.std.specs.Prelude.{ℕ, Bool, not, ◌||◌, if◌then◌else◌, List}
use Rattle.std.specs.FinMap.Entries.{put}
use Rattle.std.specs.List.{filter, list_any}
use Rattle.std.specs.Ordering.{nat_cmp}
use Rattle.std.specs.Cmp.Lexicographic.{slice_cmp}
use Rattle.std.specs.Str.{bytes_eq}
use Rattle.project_file.specs.Spelled.{Spelled}
use Rattle.project_file.specs.Said.{Said}
use Rattle.project_file.specs.declared.source.Source.{Source}

-- whether the list has the name
abbrev pub has_name : {X : Type 0} → List ℕ → List (List ℕ × X) → Bool
has_name name pairs = list_any (λ pair. bytes_eq pair.0 name) pairs

-- the list with this value at the name, which stands in its place
abbrev pub with_entry : {X : Type 0} → List ℕ → X → List (List ℕ × X) → List (List ℕ × X)
with_entry name value pairs = put (slice_cmp nat_cmp) name value pairs

-- the list without the name
abbrev pub without_entry : {X : Type 0} → List ℕ → List (List ℕ × X) → List (List ℕ × X)
without_entry name pairs = filter (λ pair. not (bytes_eq pair.0 name)) pairs

-- whether another list of packages has the name, so that what stands at it is still spoken of
abbrev pub is_spoken_of : List ℕ → Said → Bool
is_spoken_of name project = has_name name project.weakdeps || has_name name project.extras

abbrev pub with_lists : List (List ℕ × List ℕ) → List (List ℕ × Spelled) → List (List ℕ × Source) → Said → Said
with_lists deps compat sources project =
    record {
      name = project.name;
      uuid = project.uuid;
      version = project.version;
      deps = deps;
      weakdeps = project.weakdeps;
      extensions = project.extensions;
      compat = compat;
      extras = project.extras;
      sources = sources;
      manifest = project.manifest;
      rest = project.rest;
    }

-- the project whose dependencies have the name with this identifier
unfoldable pub with_dep : List ℕ → List ℕ → Said → Said
with_dep name uuid project = with_lists (with_entry name uuid project.deps) project.compat project.sources project

-- the project without the name among its dependencies, and without what was said of it for their sake
unfoldable pub without_dep : List ℕ → Said → Said
without_dep name project =
    with_lists (without_entry name project.deps)
    (if is_spoken_of name project then project.compat else without_entry name project.compat)
    (if is_spoken_of name project then project.sources else without_entry name project.sources) project

-- the project without a source of the name
unfoldable pub without_source : List ℕ → Said → Said
without_source name project = with_lists project.deps project.compat (without_entry name project.sources) project
