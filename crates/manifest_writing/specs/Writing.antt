-- What a manifest says of a selection (Pkg, Manifest.toml, format 2.0): Julia's version, and a stanza for each selected package
-- in the order of their names and identifiers.
--     written book demand found selected     the manifest
use Rattle.std.specs.Prelude.{Bool, List, [], map, find, Option, Some, None, option_map, unwrap_or}
use Rattle.std.specs.List.{list_any, filter_map}
use Rattle.std.specs.Ordering.{ordering_then}
use Rattle.std.specs.Str.{bytes_eq}
use Rattle.std.specs.declared.cmp.Ordering.{Ordering}
use Rattle.jl_versions.specs.Triple.{release}
use Rattle.jl_versions.specs.declared.version.Version.{Version}
use Rattle.package_tables.specs.Row.{by_bytes, put_to, value_of}
use Rattle.manifest_file.specs.Saying.{SaidStanza, Said}
use Rattle.offer_terms.specs.Offered.{Text, Id, Exts, Offering, Selected, offer_at}
use Rattle.offer_terms.specs.Demanded.{Wanted}
use Rattle.offer_terms.specs.Booked.{Packed, is_for, book_offers}

-- by the identifiers of packages, the extensions that were found in their trees
abbrev pub Found : Type 0
Found = List (Id × Exts)

-- a package's name and identifier
abbrev pub Key : Type 0
Key = Text × Id

abbrev pub by_key : Key → Key → Ordering
by_key a b = ordering_then (by_bytes a.0 b.0) (by_bytes a.1 b.1)

abbrev pub name_of : Option Packed → Text
name_of None = []
name_of (Some it) = it.name

-- the name that the book has for a package
abbrev pub name_in : List Packed → Id → Text
name_in book u = name_of (find (is_for u) book)

-- versions by names and identifiers
abbrev pub InOrder : Type 0
InOrder = List (Key × Version)

abbrev pub with_name : List Packed → Id × Version → Key × Version
with_name book e = ((name_in book e.0, e.0), e.1)

-- the selected packages in the order of their names and identifiers
abbrev pub in_order : List Packed → Selected → InOrder
in_order book s = put_to by_key [] (map (with_name book) s)

abbrev pub is_pinned : Wanted → Id → Bool
is_pinned w u = list_any (λ pin. bytes_eq pin.0 u) w.pins

-- a package's extensions: those that were found in its tree, where one was looked at, else those of its offer
abbrev pub extensions_of : Found → Id → Offering → Exts
extensions_of found u x = unwrap_or (value_of u found) x.extensions

-- what is said of a package that is offered so at its version
abbrev pub stanza_of : (Id → Bool) → Found → Key × Version → Offering → SaidStanza
stanza_of pinned found e x = record {
  name = e.0.0;
  uuid = e.0.1;
  version = Some e.1;
  origin = x.origin;
  pinned = pinned e.0.1;
  deps = x.deps;
  weakdeps = x.weak;
  extensions = extensions_of found e.0.1 x;
}

-- nothing is said of a package that isn't offered at its version
abbrev pub stanza_at : List Packed → (Id → Bool) → Found → Key × Version → Option SaidStanza
stanza_at book pinned found e = option_map (stanza_of pinned found e) (offer_at (book_offers book) e.0.1 e.1)

abbrev pub stanzas_of : List Packed → (Id → Bool) → Found → InOrder → List SaidStanza
stanzas_of book pinned found packages = filter_map (stanza_at book pinned found) packages

abbrev pub written : List Packed → Wanted → Found → Selected → Said
written book w found s = record {
  julia_version = Some (release w.julia);
  stanzas = stanzas_of book (is_pinned w) found (in_order book s);
}
