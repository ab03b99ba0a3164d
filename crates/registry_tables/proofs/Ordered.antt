-- Entries in the order of their keys: what is found at a key after entries were put, and that the keys rise.
use Rattle.std.proofs.Common.{◌≡◌, Bool, true, false, cond, ◌||◌, List, [], ◌∷◌, fold, find, Option, Some, None, option_map, is_some, refl, sym, ap, ◌∙◌}
use Rattle.std.specs.BTreeMap.{insert_entry, is_at}
use Rattle.std.specs.BTreeSet.{insert_key}
use Rattle.std.specs.Cmp.{IsTotalOrder, Equal-is, alike_right}
use Rattle.std.specs.List.{AllByRecursion, list_any}
use Rattle.std.specs.List.Sorted.{IsStrictlySortedBy}
use Rattle.std.specs.Map.{lookup, keys_of}
use Rattle.std.specs.Option.{option_or}
use Rattle.std.specs.Ordering.{is_eq, match_ordering, ordering_reverse}
use Rattle.std.specs.declared.cmp.Ordering.{Ordering}
use Rattle.std.specs.declared.cmp.Ordering.TheVariants.{Less, Equal, Greater}
use Rattle.registry_tables.specs.Lasts.{last_of}

pub or_none : {A : Type 0} (x : Option A) → option_or x None ≡ x
or_none None = refl
or_none (Some x) = refl

pub or_assoc : {A : Type 0} (x y z : Option A) → option_or (option_or x y) z ≡ option_or x (option_or y z)
or_assoc None y z = refl
or_assoc (Some x) y z = refl

-- what one gives, else the next
either : {A B : Type 0} (f : A → B) (b : Bool) (x : A) (o : Option A) → option_or (cond b (Some (f x)) None) (option_map f o) ≡ option_map f (cond b (Some x) o)
either f true x o = refl
either f false x o = refl

-- what a later one gives, else this one, else what there was
later : {A : Type 0} (o : Option A) (b : Bool) (x : A) (before : Option A) → option_or o (cond b (Some x) before) ≡ option_or (option_or o (cond b (Some x) None)) before
later None true x before = refl
later None false x before = refl
later (Some y) b x before = refl

map_or : {A B : Type 0} (f : A → B) (o : Option A) (b : Bool) (x : A) → option_or (option_map f o) (cond b (Some (f x)) None) ≡ option_map f (option_or o (cond b (Some x) None))
map_or f None true x = refl
map_or f None false x = refl
map_or f (Some y) b x = refl

tied : {A : Type 0} (b : Bool) (v w : A) (x : Option A) → cond b (Some v) x ≡ cond b (Some v) (cond b (Some w) x)
tied true v w x = refl
tied false v w x = refl

past : {A : Type 0} (a b : Bool) (v w : A) (x : Option A) → (a ≡ true → b ≡ true → ⊥) → cond a (Some w) (cond b (Some v) x) ≡ cond b (Some v) (cond a (Some w) x)
past true true v w x apart = absurd (apart refl refl)
past true false v w x apart = refl
past false b v w x apart = refl

-- a new key's value is found where nothing was before
added : {A : Type 0} (b : Bool) (v : A) (here : Option A) → (b ≡ true → here ≡ None) → cond b (Some v) here ≡ option_or here (cond b (Some v) None)
added true v here none = ap (λ o. option_or o (Some v)) (sym (none refl))
added false v here none = sym (or_none here)

-- and not where something was
kept : {A : Type 0} (b : Bool) (v w : A) (here : Option A) → (b ≡ true → here ≡ Some w) → here ≡ option_or here (cond b (Some v) None)
kept true v w here there = there refl ∙ ap (λ o. option_or o (Some v)) (sym (there refl))
kept false v w here there = sym (or_none here)

module _ {K : Type 0} (cmp : K → K → Ordering) (total : IsTotalOrder cmp) where
  apart : (q k x : K) → cmp k x ≡ Greater → is_eq (cmp q x) ≡ true → is_eq (cmp q k) ≡ true → ⊥
  apart q k x after here there =
      let wrong : Equal ≡ Greater = sym ((Equal-is (cmp q x)).0 here) ∙ total.congr q k x ((Equal-is (cmp q k)).0 there) ∙ after in cc

  all_past : (k x : K) (ys : List K) → cmp k x ≡ Less → AllByRecursion (λ y. cmp x y ≡ Less) ys → AllByRecursion (λ y. cmp k y ≡ Less) ys
  all_past k x [] lt below = tt
  all_past k x (y ∷ ys) lt below = (total.trans k x y lt below.0, all_past k x ys lt below.1)

module _ {K X : Type 0} (cmp : K → K → Ordering) (total : IsTotalOrder cmp) where
  -- what is found after a key was put
  pub found-insert : (q k : K) (v : X) (es : List (K × X)) → lookup (is_at (cmp q)) (insert_entry cmp es k v) ≡ cond (is_eq (cmp q k)) (Some v) (lookup (is_at (cmp q)) es)
  found-insert q k v [] = refl
  found-insert q k v (e ∷ es) =
      elim (cmp k e.0) as (λ o. cmp k e.0 ≡ o → lookup (is_at (cmp q)) (match_ordering o ((k, v) ∷ e ∷ es) ((e.0, v) ∷ es) (e ∷ insert_entry cmp es k v))
      ≡ cond (is_eq (cmp q k)) (Some v) (cond (is_eq (cmp q e.0)) (Some e.1) (lookup (is_at (cmp q)) es))) [
        | Less ↦ λ _. refl
        | Equal ↦ λ tie. tied (is_eq (cmp q e.0)) v e.1 (lookup (is_at (cmp q)) es)
            ∙ ap (λ o. cond (is_eq o) (Some v) (cond (is_eq (cmp q e.0)) (Some e.1) (lookup (is_at (cmp q)) es))) (sym (alike_right total k e.0 q tie))
        | Greater ↦ λ after. ap (cond (is_eq (cmp q e.0)) (Some e.1)) (found-insert q k v es)
            ∙ past (is_eq (cmp q e.0)) (is_eq (cmp q k)) v e.1 (lookup (is_at (cmp q)) es) (apart cmp total q k e.0 after)
      ] refl

  alike : (q k : K) (es : List (K × X)) → is_eq (cmp q k) ≡ true → lookup (is_at (cmp q)) es ≡ lookup (is_at (cmp k)) es
  alike q k es there =
      let tests : is_at (cmp q) ≡ is_at (cmp k) = λ i x. is_eq (total.congr q k x ((Equal-is (cmp q k)).0 there) i) in
      ap (λ test. lookup test es) tests

  -- one entry more at its place in the order, unless its key is there
  abbrev pub put_new : List (K × X) → K → X → List (K × X)
  put_new es k v = cond (is_some (lookup (is_at (cmp k)) es)) es (insert_entry cmp es k v)

  -- what is found after a key was put, unless it was there
  pub found-put : (q k : K) (v : X) (es : List (K × X)) → lookup (is_at (cmp q)) (put_new es k v) ≡ option_or (lookup (is_at (cmp q)) es) (cond (is_eq (cmp q k)) (Some v) None)
  found-put q k v es =
      elim (lookup (is_at (cmp k)) es) as (λ o. lookup (is_at (cmp k)) es ≡ o → lookup (is_at (cmp q)) (cond (is_some o) es (insert_entry cmp es k v))
      ≡ option_or (lookup (is_at (cmp q)) es) (cond (is_eq (cmp q k)) (Some v) None)) [
        | None ↦ λ none. found-insert q k v es ∙ added (is_eq (cmp q k)) v (lookup (is_at (cmp q)) es) (λ there. alike q k es there ∙ none)
        | Some w ↦ λ some. kept (is_eq (cmp q k)) v w (lookup (is_at (cmp q)) es) (λ there. alike q k es there ∙ some)
      ] refl

  -- ---- rising keys

  below-insert : (x k : K) (v : X) (es : List (K × X)) → AllByRecursion (λ y. cmp x y ≡ Less) (keys_of es) → cmp x k ≡ Less → AllByRecursion (λ y. cmp x y ≡ Less) (keys_of (insert_entry cmp es k v))
  below-insert x k v [] below lt = (lt, tt)
  below-insert x k v (e ∷ es) below lt =
      elim (cmp k e.0) as (λ o. AllByRecursion (λ y. cmp x y ≡ Less) (keys_of (match_ordering o ((k, v) ∷ e ∷ es) ((e.0, v) ∷ es) (e ∷ insert_entry cmp es k v)))) [
        | Less ↦ (lt, below)
        | Equal ↦ below
        | Greater ↦ (below.0, below-insert x k v es below.1 lt)
      ]

  -- one key more
  pub sorted-insert : (k : K) (v : X) (es : List (K × X)) → IsStrictlySortedBy cmp (keys_of es) → IsStrictlySortedBy cmp (keys_of (insert_entry cmp es k v))
  unfolding IsStrictlySortedBy
  sorted-insert k v [] rise = (tt, tt)
  sorted-insert k v (e ∷ es) rise =
      elim (cmp k e.0) as (λ o. cmp k e.0 ≡ o → IsStrictlySortedBy cmp (keys_of (match_ordering o ((k, v) ∷ e ∷ es) ((e.0, v) ∷ es) (e ∷ insert_entry cmp es k v)))) [
        | Less ↦ λ lt. ((lt, all_past cmp total k e.0 (keys_of es) lt rise.0), rise)
        | Equal ↦ λ tie. rise
        | Greater ↦ λ gt. (below-insert e.0 k v es rise.0 (total.antisymm e.0 k ∙ ap ordering_reverse gt), sorted-insert k v es rise.1)
      ] refl

  -- ---- many entries, which items give

  module _ {A : Type 0} (key : A → K) (value : A → X) (q : K) where
    abbrev pub is_of : A → Bool
    is_of x = is_eq (cmp q (key x))

    -- where an entry that is there stays, the first item of a key counts
    pub found-firsts : (es : List (K × X)) (xs : List A)
        → lookup (is_at (cmp q)) (fold (λ done x. put_new done (key x) (value x)) es xs) ≡ option_or (lookup (is_at (cmp q)) es) (option_map value (find is_of xs))
    found-firsts es [] = sym (or_none (lookup (is_at (cmp q)) es))
    found-firsts es (x ∷ xs) =
        found-firsts (put_new es (key x) (value x)) xs
        ∙ ap (λ o. option_or o (option_map value (find is_of xs))) (found-put q (key x) (value x) es)
        ∙ or_assoc (lookup (is_at (cmp q)) es) (cond (is_of x) (Some (value x)) None) (option_map value (find is_of xs))
        ∙ ap (option_or (lookup (is_at (cmp q)) es)) (either value (is_of x) x (find is_of xs))

    -- where an entry takes the place of the one that is there, the last item of a key counts
    pub found-lasts : (es : List (K × X)) (xs : List A)
        → lookup (is_at (cmp q)) (fold (λ done x. insert_entry cmp done (key x) (value x)) es xs) ≡ option_or (option_map value (last_of is_of xs)) (lookup (is_at (cmp q)) es)
    found-lasts es [] = refl
    found-lasts es (x ∷ xs) =
        found-lasts (insert_entry cmp es (key x) (value x)) xs
        ∙ ap (option_or (option_map value (last_of is_of xs))) (found-insert q (key x) (value x) es)
        ∙ later (option_map value (last_of is_of xs)) (is_of x) (value x) (lookup (is_at (cmp q)) es)
        ∙ ap (λ o. option_or o (lookup (is_at (cmp q)) es)) (map_or value (last_of is_of xs) (is_of x) x)

  -- entries that are put one after the other rise
  pub sorted-all : {A : Type 0} (key : A → K) (value : A → X) (es : List (K × X)) (xs : List A) → IsStrictlySortedBy cmp (keys_of es)
      → IsStrictlySortedBy cmp (keys_of (fold (λ done x. insert_entry cmp done (key x) (value x)) es xs))
  sorted-all key value es [] rise = rise
  sorted-all key value es (x ∷ xs) rise = sorted-all key value (insert_entry cmp es (key x) (value x)) xs (sorted-insert (key x) (value x) es rise)

-- ---- keys alone

or_swap : (a b c : Bool) → (a || (b || c)) ≡ (b || (a || c))
or_swap true true c = refl
or_swap true false c = refl
or_swap false b c = refl

or_again : (b c : Bool) → (b || c) ≡ (b || (b || c))
or_again true c = refl
or_again false c = refl

module _ {K : Type 0} (cmp : K → K → Ordering) (total : IsTotalOrder cmp) where
  -- a key is there after one was put where it is that one, or was there before
  pub among-insert : (q k : K) (ks : List K) → list_any (is_at (cmp q)) (insert_key cmp ks k) ≡ (is_eq (cmp q k) || list_any (is_at (cmp q)) ks)
  among-insert q k [] = refl
  among-insert q k (x ∷ xs) =
      elim (cmp k x) as (λ o. cmp k x ≡ o → list_any (is_at (cmp q)) (match_ordering o (k ∷ x ∷ xs) (x ∷ xs) (x ∷ insert_key cmp xs k))
      ≡ (is_eq (cmp q k) || (is_eq (cmp q x) || list_any (is_at (cmp q)) xs))) [
        | Less ↦ λ _. refl
        | Equal ↦ λ tie. or_again (is_eq (cmp q x)) (list_any (is_at (cmp q)) xs)
            ∙ ap (λ o. is_eq o || (is_eq (cmp q x) || list_any (is_at (cmp q)) xs)) (sym (alike_right total k x q tie))
        | Greater ↦ λ _. ap (λ b. is_eq (cmp q x) || b) (among-insert q k xs) ∙ or_swap (is_eq (cmp q x)) (is_eq (cmp q k)) (list_any (is_at (cmp q)) xs)
      ] refl

  below-key : (x k : K) (ks : List K) → AllByRecursion (λ y. cmp x y ≡ Less) ks → cmp x k ≡ Less → AllByRecursion (λ y. cmp x y ≡ Less) (insert_key cmp ks k)
  below-key x k [] below lt = (lt, tt)
  below-key x k (y ∷ ys) below lt =
      elim (cmp k y) as (λ o. AllByRecursion (λ z. cmp x z ≡ Less) (match_ordering o (k ∷ y ∷ ys) (y ∷ ys) (y ∷ insert_key cmp ys k))) [
        | Less ↦ (lt, below)
        | Equal ↦ below
        | Greater ↦ (below.0, below-key x k ys below.1 lt)
      ]

  -- one key more
  pub sorted-key : (k : K) (ks : List K) → IsStrictlySortedBy cmp ks → IsStrictlySortedBy cmp (insert_key cmp ks k)
  unfolding IsStrictlySortedBy
  sorted-key k [] rise = (tt, tt)
  sorted-key k (y ∷ ys) rise =
      elim (cmp k y) as (λ o. cmp k y ≡ o → IsStrictlySortedBy cmp (match_ordering o (k ∷ y ∷ ys) (y ∷ ys) (y ∷ insert_key cmp ys k))) [
        | Less ↦ λ lt. ((lt, all_past cmp total k y ys lt rise.0), rise)
        | Equal ↦ λ tie. rise
        | Greater ↦ λ gt. (below-key y k ys rise.0 (total.antisymm y k ∙ ap ordering_reverse gt), sorted-key k ys rise.1)
      ] refl
