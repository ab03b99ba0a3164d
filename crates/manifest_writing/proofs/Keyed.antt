-- Maps with texts in their keys, seen as plain lists.
use Rattle.std.proofs.Common.{◌≡◌, true, false, cond, ◌||◌, bytes_eq, List, [], ◌∷◌, ◌++◌, map, String, Global, string_bytes, string_cmp, Option, Some, None, option_map, Less, Equal, Greater, refl, ap}
use Rattle.std.specs.BTreeMap.{insert_entry}
use Rattle.std.specs.List.{filter_map, cons_option, list_any}
use Rattle.std.specs.Option.{option_to_list}
use Rattle.std.specs.Ordering.{is_eq, match_ordering, ordering_then}
use Rattle.std.specs.declared.cmp.Ordering.{Ordering}
use Rattle.jl_versions.specs.declared.version.Version.{Version}
use Rattle.pkg_world.specs.Listing.{Listing}
use Rattle.package_tables.specs.Row.{by_bytes, value_of}
use Rattle.offer_terms.specs.Demanded.{version_entry}
use Rattle.offer_terms.specs.Offered.{Text, Id}
use Rattle.offer_terms.specs.declared.demand.VersionPair.{VersionPair}
use Rattle.manifest_writing.specs.Views.{keyed_entry, keyed, found_said}
use Rattle.manifest_writing.specs.Writing.{by_key}

-- keys of texts and identifiers go as a map's do
abbrev pub text_key : String Global × Id → String Global × Id → Ordering
text_key a b = ordering_then (string_cmp a.0 b.0) (by_bytes a.1 b.1)

pub keyed-insert : (es : List ((String Global × Id) × Version)) (k : String Global × Id) (v : Version)
    → keyed (insert_entry text_key es k v) ≡ insert_entry by_key (keyed es) (string_bytes k.0, k.1) v
keyed-insert [] k v = refl
keyed-insert (e ∷ es) k v =
    elim (text_key k e.0) as (λ o. keyed (match_ordering o ((k, v) ∷ e ∷ es) ((e.0, v) ∷ es) (e ∷ insert_entry text_key es k v))
    ≡ match_ordering o (keyed_entry (k, v) ∷ keyed (e ∷ es)) (keyed_entry (e.0, v) ∷ keyed es) (keyed_entry e ∷ insert_entry by_key (keyed es) (string_bytes k.0, k.1) v)) [
      | Less ↦ refl
      | Equal ↦ refl
      | Greater ↦ ap (λ t. keyed_entry e ∷ t) (keyed-insert es k v)
    ]

-- what is found of extensions, without the room of their lists
pub found-said : (u : Id) (es : List (Id × Listing (Text × List Text))) → value_of u (found_said es) ≡ option_map (λ (list : Listing (Text × List Text)). list.items) (value_of u es)
found-said u [] = refl
found-said u (e ∷ es) =
    elim (is_eq (by_bytes u e.0)) as (λ b. cond b (Some e.1.items) (value_of u (found_said es)) ≡ option_map (λ (list : Listing (Text × List Text)). list.items) (cond b (Some e.1) (value_of u es))) [
      | true ↦ refl
      | false ↦ found-said u es
    ]

-- one more that is kept, or none
pub then-kept : {X Y : Type 0} (f : X → Option Y) (x : X) (xs : List X) → option_to_list (f x) ++ filter_map f xs ≡ filter_map f (x ∷ xs)
then-kept f x xs =
    elim (f x) as (λ o. option_to_list o ++ filter_map f xs ≡ cons_option o (filter_map f xs)) [
      | None ↦ refl
      | Some y ↦ refl
    ]

-- pinned packages, by the pairs of a demand
pub pins-said : (q : Id) (pins : List VersionPair) → list_any (λ (pin : VersionPair). bytes_eq pin.uuid q) pins ≡ list_any (λ (pin : Id × Version). bytes_eq pin.0 q) (map version_entry pins)
pins-said q [] = refl
pins-said q (pin ∷ pins) = ap (λ b. bytes_eq pin.uuid q || b) (pins-said q pins)
