-- Where a project says that a package comes from (Pkg, `[sources]`): a path, or an address with a revision and a folder.
use Rattle.std.specs.Prelude.{ℕ, ◌||◌, if◌then◌else◌, List, [], ◌∷◌, codes, Option, Some, None, Result, Ok, Err}
use Rattle.toml.specs.Data.{Data, Members, as_table}
use Rattle.toml_view.specs.KeyOrder.{in_key_order, verdict}
use Rattle.toml_view.specs.Reading.{shape, or_shape, chained, text_of, has_key, opt}
use Rattle.toml_view.specs.declared.refusal.Refusal.{Refusal}
use Rattle.project_file.specs.declared.source.Source.{Source}
use Rattle.project_file.specs.declared.source.Source.TheVariants.{Path, Url}

-- what a reading gives, or another value where it is refused
abbrev pub read_or : {T : Type 0} → T → Result T Refusal → T
read_or other (Ok value) = value
read_or other (Err refusal) = other

-- a path counts where both are there
abbrev pub source_from : Option (List ℕ) → Option (List ℕ) → Option (List ℕ) → Option (List ℕ) → Result Source Refusal
source_from (Some path) url rev subdir = Ok (Path path)
source_from None (Some url) rev subdir = Ok (Url url rev subdir)
source_from None None rev subdir = Err shape

-- a text that may be absent
abbrev pub text_in : List ℕ → Members → Result (Option (List ℕ)) Refusal
text_in key members = opt text_of key members

abbrev pub text_or_none : List ℕ → Members → Option (List ℕ)
text_or_none key members = read_or None (text_in key members)

-- each of the four keys that is there has to be a text; other keys don't count
abbrev pub placed_source : Members → Result Source Refusal
placed_source members = in_key_order (
    verdict (codes "path") (text_in (codes "path") members)
    ∷ verdict (codes "url") (text_in (codes "url") members)
    ∷ verdict (codes "rev") (text_in (codes "rev") members)
    ∷ verdict (codes "subdir") (text_in (codes "subdir") members)
    ∷ []) (source_from (text_or_none (codes "path") members) (text_or_none (codes "url") members) (text_or_none (codes "rev") members) (text_or_none (codes "subdir") members))

-- a source with neither a path nor an address is refused itself
abbrev pub source_in : Members → Result Source Refusal
source_in members = if has_key (codes "path") members || has_key (codes "url") members then placed_source members else Err shape

abbrev pub source_of : Data → Result Source Refusal
source_of value = chained source_in (or_shape (as_table value))
