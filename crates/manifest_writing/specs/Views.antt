-- Maps as plain lists: without their keys' and values' room.
use Rattle.std.specs.Prelude.{List, map, String, string_bytes}
use Rattle.std.specs.declared.alloc.Global.{Global}
use Rattle.jl_versions.specs.declared.version.Version.{Version}
use Rattle.pkg_world.specs.Listing.{Listing}
use Rattle.offer_terms.specs.Offered.{Text, Id}
use Rattle.manifest_writing.specs.Writing.{Found, Key, InOrder}

abbrev pub keyed_entry : (String Global × Id) × Version → Key × Version
keyed_entry e = ((string_bytes e.0.0, e.0.1), e.1)

abbrev pub keyed : List ((String Global × Id) × Version) → InOrder
keyed es = map keyed_entry es

-- extensions by their packages' identifiers
abbrev pub found_said : List (Id × Listing (Text × List Text)) → Found
found_said es = map (λ e. (e.0, e.1.items)) es
