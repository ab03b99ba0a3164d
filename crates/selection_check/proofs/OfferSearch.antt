-- What halving finds among offers in rising order of their versions.
use Rattle.std.proofs.Common.{◌≡◌, ℕ, ◌<◌, Bool, true, false, cond, List, [], ◌∷◌, length, map, get_or, slice_get, Some, None, Less, Equal, Greater, is_eq, find, position, option_map, HoldsAt, refl, sym, ap, ◌∙◌, arith}
use Rattle.std.specs.List.Sorted.{IsNonDecreasingBy, IsPartitionPoint}
use Rattle.std.specs.Ordering.{ordering_index, ordering_reverse}
use Rattle.std.proofs.lemmas.List.{get_or-map, length-map}
use Rattle.std.proofs.lemmas.List.Folds.{find_at}
use Rattle.std.proofs.lemmas.List.Sums.{position_or_len_is}
use Rattle.std.proofs.lemmas.Map.Keys.{Less-from_sorted}
use Rattle.std.proofs.lemmas.Option.{slice_get_within, get_or_from_slice_get}
use Rattle.jl_versions.specs.Order.{version_cmp}
use Rattle.jl_versions.specs.OrderLaws.{version_total, equal_is_same}
use Rattle.jl_versions.specs.declared.version.Version.{Version}
use Rattle.offer_terms.specs.Offered.{offering, is_of}
use Rattle.offer_terms.specs.Kept.{DoRise}
use Rattle.offer_terms.specs.declared.offer.Offer.{Offer}
use Rattle.offer_terms.proofs.Finds.{find_there, find_nowhere}
use Rattle.offer_terms.proofs.Searches.{searched_hit, searched_miss}

abbrev of_version : Version → Offer → Bool
of_version v offer = is_eq (version_cmp v offer.version)

find_mapped : (v : Version) (offers : List Offer) → find (is_of v) (map offering offers) ≡ option_map offering (find (of_version v) offers)
find_mapped v [] = refl
find_mapped v (x ∷ offers) =
    elim (of_version v x) as (λ b. cond b (Some (offering x)) (find (is_of v) (map offering offers)) ≡ option_map offering (cond b (Some x) (find (of_version v) offers))) [
      | true ↦ refl
      | false ↦ find_mapped v offers
    ]

pub offer_hit : (offers : List Offer) (v : Version) (i : ℕ) (x : Offer) → DoRise offers → i < length offers → HoldsAt (λ (y : Offer). version_cmp y.version v ≡ Equal) offers i → slice_get offers i ≡ Some x →
    Some (offering x) ≡ find (is_of v) (map offering offers)
offer_hit offers v i x rising inside here there =
    let at : Some i ≡ position (of_version v) offers = searched_hit version_total (λ (y : Offer). y.version) v offers i inside here rising in
    sym (find_mapped v offers ∙ ap (option_map offering) (find_there (of_version v) offers i at ∙ there))

pub offer_miss : (offers : List Offer) (v : Version) (i : ℕ) → DoRise offers →
    (IsNonDecreasingBy (λ (y : Offer). ordering_index (version_cmp y.version v)) offers → IsPartitionPoint (λ (y : Offer). version_cmp y.version v ≡ Less) (λ (y : Offer). version_cmp y.version v ≡ Greater) offers i) →
    None ≡ find (is_of v) (map offering offers)
offer_miss offers v i rising point =
    let nowhere : None ≡ position (of_version v) offers = searched_miss version_total (λ (y : Offer). y.version) v offers i point rising in
    sym (find_mapped v offers ∙ ap (option_map offering) (find_nowhere (of_version v) offers nowhere))

-- an offer is the one of its version
pub offer_stands : (offers : List Offer) (i : ℕ) (x : Offer) → DoRise offers → slice_get offers i ≡ Some x → find (is_of x.version) (map offering offers) ≡ Some (offering x)
offer_stands offers i x rising there =
    find_mapped x.version offers ∙ ap (option_map offering) (find_at (of_version x.version) offers ∙ ap (slice_get offers) (position_or_len_is (of_version x.version) offers i x (omega (arith, inside)) before here) ∙ there)
  where
    inside : i < length offers
    inside = slice_get_within offers i x there

    at : get_or offers i x ≡ x
    at = get_or_from_slice_get offers i x x there

    version_at : (k : ℕ) → k < length offers → get_or (map (λ (y : Offer). y.version) offers) k x.version ≡ (get_or offers k x).version
    version_at k below = get_or-map (λ (y : Offer). y.version) offers k x x.version below

    before : (k : ℕ) → k < i → of_version x.version (get_or offers k x) ≡ false
    before k below =
        let less = Less-from_sorted version_cmp (map (λ (y : Offer). y.version) offers) k i x.version rising below (omega (arith, inside, length-map offers (λ (y : Offer). y.version))) in
        let above : version_cmp (get_or offers k x).version x.version ≡ Less =
        (λ j. version_cmp (sym (version_at k (omega (arith, below, inside))) j) (sym (version_at i inside ∙ ap (λ (y : Offer). y.version) at) j)) ∙ less in
        ap is_eq (version_total.antisymm x.version (get_or offers k x).version ∙ ap ordering_reverse above)

    here : i < length offers → of_version x.version (get_or offers i x) ≡ true
    here _ = ap (λ (y : Offer). of_version x.version y) at ∙ ap is_eq ((equal_is_same x.version x.version).1 refl)
