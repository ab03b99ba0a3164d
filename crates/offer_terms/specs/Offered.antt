-- What the resolver chooses among, and what it chooses: offers as a function of the package's identifier, and a selection,
-- which is read by look-up alone. Files and numbers of packages play no part here. (Pkg, registries and Compatibility)
--     Offering             one version of a package, with what it needs and what it allows
--     Offers               for each package what is offered of it
--     version_in s u       the selected version of a package, where it is selected
--     offer_at o u v       what is offered of a package at a version
--     taken o s u          what is offered of a package at its selected version
--     with_version s u v   the selection with this version of that package
use Rattle.std.specs.Prelude.{ℕ, Bool, List, map, find, filter, Option}
use Rattle.std.specs.Option.{option_and_then}
use Rattle.std.specs.Str.{bytes_eq}
use Rattle.std.specs.BTreeMap.{is_at}
use Rattle.std.specs.Map.{set_value}
use Rattle.jl_versions.specs.Order.{version_cmp}
use Rattle.jl_versions.specs.declared.version.Version.{Version}
use Rattle.compat_spec.specs.declared.part.Part.{Part}
use Rattle.compat_spec.specs.declared.allowed.Allowed.{Allowed}
use Rattle.compat_spec.specs.declared.allowed.Allowed.TheVariants as kinds
use Rattle.compat_spec.specs.Meaning.{specifier_holds}
use Rattle.compat_spec.specs.Ranges.{Ranged}
use Rattle.compat_spec.specs.RangeMeaning.{ranges_hold}
use Rattle.manifest_file.specs.declared.origin.Origin.{Origin}
use Rattle.offer_terms.specs.ById.{at_id}
use Rattle.offer_terms.specs.declared.offer.Offer.{Offer}

-- the bytes of a name, and those of an identifier
abbrev pub Text : Type 0
Text = List ℕ

abbrev pub Id : Type 0
Id = List ℕ

-- extensions, each with the names of its triggers
abbrev pub Exts : Type 0
Exts = List (Text × List Text)

-- what a compat entry allows, without the room of its list: a specifier's parts, or ranges
pub data Allows : Type 0 where
  of_parts : List Part → Allows
  of_ranges : List Ranged → Allows

abbrev pub allows : Allowed → Allows
allows (kinds.Spec parts) = of_parts parts
allows (kinds.Ranges set) = of_ranges set.items

abbrev pub allows_holds : Allows → List ℕ → Bool
allows_holds (of_parts parts) triple = specifier_holds parts triple
allows_holds (of_ranges ranges) triple = ranges_hold ranges triple

-- One version that is offered of a package. Neither Julia nor the project's own package is among the dependencies, and no
-- weak dependency is. Compat stands on the dependencies and weak dependencies, and on Julia by Julia's identifier.
pub record Offering : Type 0 where
  pub version : Version
  pub deps : List (Text × Id)
  pub weak : List (Text × Id)
  pub compat : List (Id × Allows)
  pub origin : Origin
  pub extensions : Exts

-- an entry of compat without the room of its list
abbrev pub allowing : Id × Allowed → Id × Allows
allowing entry = (entry.0, allows entry.1)

-- an offer without its package's number and without the room of its lists
abbrev pub offering : Offer → Offering
offering offer = record {
  version = offer.version;
  deps = offer.deps.items;
  weak = offer.weak.items;
  compat = map allowing offer.compat.items;
  origin = offer.origin;
  extensions = offer.extensions.items;
}

-- by the package's identifier, what is offered of it in the order of versions; nothing where there is no offer
abbrev pub Offers : Type 0
Offers = Id → List Offering

-- versions by the identifiers of their packages, in the order of these and each once
abbrev pub Selected : Type 0
Selected = List (Id × Version)

abbrev pub version_in : Selected → Id → Option Version
version_in s u = at_id s u

abbrev pub is_of : Version → Offering → Bool
is_of v x = is_at (version_cmp v) x.version

abbrev pub offer_at : Offers → Id → Version → Option Offering
offer_at o u v = find (is_of v) (o u)

abbrev pub taken : Offers → Selected → Id → Option Offering
taken o s u = option_and_then (offer_at o u) (version_in s u)

-- changed at this package alone, where it is selected
abbrev pub with_version : Selected → Id → Version → Selected
with_version s u v = set_value (bytes_eq u) s v

-- the packages of the set alone
abbrev pub cut_to : (Id → Bool) → Selected → Selected
cut_to set s = filter (λ e. set e.0) s
