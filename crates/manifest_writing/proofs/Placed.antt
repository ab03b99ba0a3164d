-- The order of names and identifiers, and what stands in it.
use Rattle.std.proofs.Common.{◌≡◌, Bool, true, false, cond, ◌||◌, List, [], ◌∷◌, map, Option, Some, None, is_some, Less, Equal, Greater, bytes_eq, refl, sym, ap, ◌∙◌, subst}
use Rattle.std.specs.BTreeMap.{insert_entry, is_at}
use Rattle.std.specs.Cmp.{IsTotalOrder, tied_itself}
use Rattle.std.specs.Cmp.Lexicographic.{nat_list_cmp_total}
use Rattle.std.specs.List.{AllByRecursion, list_any}
use Rattle.std.specs.List.Sorted.{IsStrictlySortedBy}
use Rattle.std.specs.Map.{lookup, keys_of}
use Rattle.std.specs.Ordering.{is_eq, match_ordering}
use Rattle.std.specs.declared.cmp.Ordering.{Ordering}
use Rattle.std.proofs.lemmas.Cmp.{then_total}
use Rattle.std.proofs.lemmas.Map.Lookups.{CmpEqualImpliesEq, exact_bytes, exact_pairs}
use Rattle.std.proofs.lemmas.Option.{none-some}
use Rattle.std.proofs.lemmas.Slice.Eq.{bytes_eq-Decides}
use Rattle.jl_versions.specs.declared.version.Version.{Version}
use Rattle.package_tables.specs.Row.{by_bytes, put_to}
use Rattle.registry_tables.proofs.Ordered.{found-insert, sorted-insert}
use Rattle.offer_terms.specs.ById.{AreRising}
use Rattle.offer_terms.specs.Booked.{Packed}
use Rattle.offer_terms.specs.Offered.{Id, Selected, version_in}
use Rattle.manifest_writing.specs.Writing.{Key, by_key, name_in, with_name, in_order}

-- an order of what is read of keys
read_total : {K L : Type 0} (f : K → L) {R : L → L → Ordering} → IsTotalOrder R → IsTotalOrder (λ x y. R (f x) (f y))
read_total f o = record {
  antisymm = λ x y. o.antisymm (f x) (f y);
  trans = λ x y z. o.trans (f x) (f y) (f z);
  congr = λ x y z. o.congr (f x) (f y) (f z);
}

pub key_total : IsTotalOrder by_key
key_total = then_total (read_total (λ (k : Key). k.0) nat_list_cmp_total) (read_total (λ (k : Key). k.1) nat_list_cmp_total)

pub exact_key : CmpEqualImpliesEq by_key
exact_key = exact_pairs by_bytes by_bytes exact_bytes exact_bytes

-- ---- the keys rise

sorted-put : (done pairs : List (Key × Version)) → IsStrictlySortedBy by_key (keys_of done) → IsStrictlySortedBy by_key (keys_of (put_to by_key done pairs))
sorted-put done [] rise = rise
sorted-put done (p ∷ pairs) rise = sorted-put (insert_entry by_key done p.0 p.1) pairs (sorted-insert by_key key_total p.0 p.1 done rise)

pub in_order_rises : (book : List Packed) (s : Selected) → IsStrictlySortedBy by_key (keys_of (in_order book s))
unfolding IsStrictlySortedBy
in_order_rises book s = sorted-put [] (map (with_name book) s) tt

-- ---- what is true of each pair is true of each entry

module _ (P : Key × Version → Type 0) where
  all-insert : (es : List (Key × Version)) (k : Key) (v : Version) → P (k, v) → AllByRecursion P es → AllByRecursion P (insert_entry by_key es k v)
  all-insert [] k v new all = (new, tt)
  all-insert (e ∷ es) k v new all =
      elim (by_key k e.0) as (λ o. by_key k e.0 ≡ o → AllByRecursion P (match_ordering o ((k, v) ∷ e ∷ es) ((e.0, v) ∷ es) (e ∷ insert_entry by_key es k v))) [
        | Less ↦ λ _. (new, all)
        | Equal ↦ λ tie. (subst (λ (q : Key). P (q, v)) (exact_key k e.0 tie) new, all.1)
        | Greater ↦ λ _. (all.0, all-insert es k v new all.1)
      ] refl

  all-put : (done pairs : List (Key × Version)) → AllByRecursion P done → AllByRecursion P pairs → AllByRecursion P (put_to by_key done pairs)
  all-put done [] all pairs = all
  all-put done (p ∷ more) all pairs = all-put (insert_entry by_key done p.0 p.1) more (all-insert done p.0 p.1 pairs.0 all) pairs.1

  all-named : (book : List Packed) (s : Selected) → AllByRecursion (λ (x : Id × Version). P (with_name book x)) s → AllByRecursion P (map (with_name book) s)
  all-named book [] all = tt
  all-named book (x ∷ s) all = (all.0, all-named book s all.1)

  pub all-in_order : (book : List Packed) (s : Selected) → AllByRecursion (λ (x : Id × Version). P (with_name book x)) s → AllByRecursion P (in_order book s)
  all-in_order book s all = all-put [] (map (with_name book) s) tt (all-named book s all)

-- ---- each selected package stands there

or_none : (b : Bool) → b ≡ (b || false)
or_none true = refl
or_none false = refl

moved : {X : Type 0} (b : Bool) (v : X) (o : Option X) (more : Bool) → (is_some (cond b (Some v) o) || more) ≡ (is_some o || (b || more))
moved true v None more = refl
moved true v (Some w) more = refl
moved false v o more = refl

has-put : (q : Key) (done pairs : List (Key × Version)) → is_some (lookup (is_at (by_key q)) (put_to by_key done pairs))
    ≡ (is_some (lookup (is_at (by_key q)) done) || list_any (λ (p : Key × Version). is_eq (by_key q p.0)) pairs)
has-put q done [] = or_none (is_some (lookup (is_at (by_key q)) done))
has-put q done (p ∷ pairs) =
    has-put q (insert_entry by_key done p.0 p.1) pairs
    ∙ ap (λ o. is_some o || list_any (λ (p : Key × Version). is_eq (by_key q p.0)) pairs) (found-insert by_key key_total q p.0 p.1 done)
    ∙ moved (is_eq (by_key q p.0)) p.1 (lookup (is_at (by_key q)) done) (list_any (λ (p : Key × Version). is_eq (by_key q p.0)) pairs)

right_or : (a b : Bool) → b ≡ true → (a || b) ≡ true
right_or true b is = refl
right_or false b is = is

pub key_itself : (q : Key) → is_eq (by_key q q) ≡ true
key_itself q = ap is_eq (tied_itself key_total q)

named_there : (book : List Packed) (s : Selected) (u : Id) (v : Version) → version_in s u ≡ Some v → list_any (λ (p : Key × Version). is_eq (by_key (name_in book u, u) p.0)) (map (with_name book) s) ≡ true
named_there book [] u v found = absurd (none-some v found)
named_there book (x ∷ s) u v found =
    elim (bytes_eq u x.0) as (λ b. bytes_eq u x.0 ≡ b → cond b (Some x.1) (version_in s u) ≡ Some v
    → (is_eq (by_key (name_in book u, u) (name_in book x.0, x.0)) || list_any (λ (p : Key × Version). is_eq (by_key (name_in book u, u) p.0)) (map (with_name book) s)) ≡ true) [
      | true ↦ λ is _. ap (λ b. b || list_any (λ (p : Key × Version). is_eq (by_key (name_in book u, u) p.0)) (map (with_name book) s))
          (subst (λ (t : Id). is_eq (by_key (name_in book u, u) (name_in book t, t)) ≡ true) ((bytes_eq-Decides u x.0).0 is) (key_itself (name_in book u, u)))
      | false ↦ λ _ later. right_or (is_eq (by_key (name_in book u, u) (name_in book x.0, x.0))) _ (named_there book s u v later)
    ] refl found

pub selected_there : (book : List Packed) (s : Selected) (u : Id) (v : Version) → version_in s u ≡ Some v → is_some (lookup (is_at (by_key (name_in book u, u))) (in_order book s)) ≡ true
selected_there book s u v found = has-put (name_in book u, u) [] (map (with_name book) s) ∙ named_there book s u v found

-- ---- each entry of a selection is the one that is found

none_below : (x : Id) (s : Selected) → AllByRecursion (λ y. by_bytes x y ≡ Less) (keys_of s) → version_in s x ≡ None
none_below x [] below = refl
none_below x (y ∷ s) below =
    elim (bytes_eq x y.0) as (λ b. bytes_eq x y.0 ≡ b → cond b (Some y.1) (version_in s x) ≡ None) [
      | true ↦ λ is. let wrong : Less ≡ Equal = sym below.0 ∙ ap (by_bytes x) (sym ((bytes_eq-Decides x y.0).0 is)) ∙ tied_itself nat_list_cmp_total x in cc
      | false ↦ λ _. none_below x s below.1
    ] refl

later_found : (x : Id × Version) (s : Selected) (e : Id × Version) → version_in s x.0 ≡ None → version_in s e.0 ≡ Some e.1 → version_in (x ∷ s) e.0 ≡ Some e.1
later_found x s e fresh found =
    elim (bytes_eq e.0 x.0) as (λ b. bytes_eq e.0 x.0 ≡ b → cond b (Some x.1) (version_in s e.0) ≡ Some e.1) [
      | true ↦ λ is. absurd (none-some e.1 (sym fresh ∙ ap (version_in s) (sym ((bytes_eq-Decides e.0 x.0).0 is)) ∙ found))
      | false ↦ λ _. found
    ] refl

all_later : (x : Id × Version) (s more : Selected) → version_in s x.0 ≡ None → AllByRecursion (λ (e : Id × Version). version_in s e.0 ≡ Some e.1) more → AllByRecursion (λ (e : Id × Version). version_in (x ∷ s) e.0 ≡ Some e.1) more
all_later x s [] fresh all = tt
all_later x s (e ∷ more) fresh all = (later_found x s e fresh all.0, all_later x s more fresh all.1)

pub each_found : (s : Selected) → AreRising (keys_of s) → AllByRecursion (λ (e : Id × Version). version_in s e.0 ≡ Some e.1) s
unfolding IsStrictlySortedBy
each_found [] rise = tt
each_found (x ∷ s) rise =
    (ap (λ b. cond b (Some x.1) (version_in s x.0)) ((bytes_eq-Decides x.0 x.0).1 refl), all_later x s s (none_below x.0 s rise.0) (each_found s rise.1))
