-- The values in a stanza (Pkg, Manifest.toml, format 2.0).
use Rattle.std.specs.Prelude.{ℕ, Bool, false, not, ◌&&◌, if◌then◌else◌, List, [], codes, Option, Some, None, unwrap_or, Result}
use Rattle.toml.specs.Data.{Data, Members, as_table}
use Rattle.toml_view.specs.Reading.{text_of, uuid_of, tree_id_of, flag_of, has_key, mapped, opt, need, list_of, each}
use Rattle.toml_view.specs.declared.refusal.Refusal.{Refusal}
use Rattle.manifest_file.specs.declared.dependencies.Dependencies.{Dependencies}
use Rattle.manifest_file.specs.declared.dependencies.Dependencies.TheVariants.{Names, Ids}

abbrev pub flag_at : List ℕ → Members → Result Bool Refusal
flag_at key members = mapped (λ found. unwrap_or found false) (opt flag_of key members)

abbrev pub ids_or : Option Members → Result Dependencies Refusal → Result Dependencies Refusal
ids_or (Some members) names = mapped (λ ids. Ids ids) (each uuid_of members)
ids_or None names = names

-- a table of names to identifiers, or a list of names
abbrev pub dependencies_of : Data → Result Dependencies Refusal
dependencies_of value = ids_or (as_table value) (mapped (λ names. Names names) (list_of text_of value))

-- an absent key has no dependencies
abbrev pub dependencies_at : List ℕ → Members → Result Dependencies Refusal
dependencies_at key members = mapped (λ found. unwrap_or found (Names [])) (opt dependencies_of key members)

-- whether the package comes from a repository, so that its tree is needed
abbrev pub needs_tree : Members → Bool
needs_tree members = not (has_key (codes "path") members) && has_key (codes "repo-url") members

abbrev pub tree_at : Members → Result (Option (List ℕ)) Refusal
tree_at members =
    if needs_tree members then mapped (λ tree. Some tree) (need tree_id_of (codes "git-tree-sha1") members)
    else opt tree_id_of (codes "git-tree-sha1") members
