-- Names in the order of a map.
use Rattle.std.proofs.Common.{◌≡◌, ℕ, List, [], ◌∷◌, String, Global, string_bytes, string_cmp, Less, Equal, Greater, Bool, true, false, refl, ap, T}
use Rattle.std.specs.Ordering.{nat_cmp, match_ordering}
use Rattle.std.specs.Cmp.Lexicographic.{slice_cmp, nat_list_cmp_total}
use Rattle.std.specs.BTreeMap.{insert_entry}
use Rattle.std.specs.FinMap.Entries.{put, by_order, is_sorted-put}
use Rattle.pkg_world.specs.ByName.{is_by_name}
use Rattle.manifest_file.specs.Saying.{in_name_order}
use Rattle.manifest_file.specs.Sorting.{pairs_of}

-- an entry of a map is put among its texts
pub pairs_of-insert : {X : Type 0} (es : List (String Global × X)) (k : String Global) (v : X)
    → pairs_of (insert_entry string_cmp es k v) ≡ put (slice_cmp nat_cmp) (string_bytes k) v (pairs_of es)
pairs_of-insert [] k v = refl
pairs_of-insert {X} (e ∷ es) k v =
    elim (string_cmp k e.0) as (λ o. pairs_of (match_ordering o ((k, v) ∷ e ∷ es) ((e.0, v) ∷ es) (e ∷ insert_entry string_cmp es k v))
    ≡ by_order o ((string_bytes k, v) ∷ pairs_of (e ∷ es)) ((string_bytes e.0, v) ∷ pairs_of es) ((string_bytes e.0, e.1) ∷ put (slice_cmp nat_cmp) (string_bytes k) v (pairs_of es))) [
      | Less ↦ refl
      | Equal ↦ refl
      | Greater ↦ ap (λ t. (string_bytes e.0, e.1) ∷ t) (pairs_of-insert es k v)
    ]

is_true : (b : Bool) → T b → b ≡ true
is_true true h = refl
is_true false h = absurd h

by_name-T : (pairs : List (List ℕ × List ℕ)) → T (is_by_name (in_name_order pairs))
by_name-T [] = tt
by_name-T (pair ∷ pairs) = is_sorted-put (slice_cmp nat_cmp) nat_list_cmp_total pair.0 pair.1 (in_name_order pairs) (by_name-T pairs)

pub by_name-in_name_order : (pairs : List (List ℕ × List ℕ)) → is_by_name (in_name_order pairs) ≡ true
by_name-in_name_order pairs = is_true (is_by_name (in_name_order pairs)) (by_name-T pairs)
