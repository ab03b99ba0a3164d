-- Entries in the order of their keys: what is found after a key was put, and that the keys rise.
use Rattle.std.proofs.Common.{◌≡◌, Bool, true, false, cond, List, [], ◌∷◌, Option, Some, refl, sym, ap, ◌∙◌, inl, inr}
use Rattle.std.specs.BTreeMap.{insert_entry, is_at}
use Rattle.std.specs.Cmp.{IsTotalOrder, Equal-is, alike_right, tied_itself}
use Rattle.std.specs.List.{AllByRecursion}
use Rattle.std.specs.List.Sorted.{IsStrictlySortedBy}
use Rattle.std.specs.Map.{lookup, keys_of}
use Rattle.std.specs.Ordering.{is_eq, match_ordering, ordering_reverse}
use Rattle.std.specs.declared.cmp.Ordering.{Ordering}
use Rattle.std.specs.declared.cmp.Ordering.TheVariants.{Less, Equal, Greater}
use Rattle.package_tables.proofs.Among.{Among, key_same, value_same}

tied : {A : Type 0} (b : Bool) (v w : A) (x : Option A) → cond b (Some v) x ≡ cond b (Some v) (cond b (Some w) x)
tied true v w x = refl
tied false v w x = refl

past : {A : Type 0} (a b : Bool) (v w : A) (x : Option A) → (a ≡ true → b ≡ true → ⊥) → cond a (Some w) (cond b (Some v) x) ≡ cond b (Some v) (cond a (Some w) x)
past true true v w x apart = absurd (apart refl refl)
past true false v w x apart = refl
past false b v w x apart = refl

module _ {K : Type 0} (cmp : K → K → Ordering) (total : IsTotalOrder cmp) where
  apart : (q k x : K) → cmp k x ≡ Greater → is_eq (cmp q x) ≡ true → is_eq (cmp q k) ≡ true → ⊥
  apart q k x after here there =
      let wrong : Equal ≡ Greater = sym ((Equal-is (cmp q x)).0 here) ∙ total.congr q k x ((Equal-is (cmp q k)).0 there) ∙ after in cc

  all_past : (k x : K) (ys : List K) → cmp k x ≡ Less → AllByRecursion (λ y. cmp x y ≡ Less) ys → AllByRecursion (λ y. cmp k y ≡ Less) ys
  all_past k x [] lt below = tt
  all_past k x (y ∷ ys) lt below = (total.trans k x y lt below.0, all_past k x ys lt below.1)

  -- nothing is below itself, nor below what is below it
  pub not_both : (k q : K) → cmp k q ≡ Less → cmp q k ≡ Less → ⊥
  not_both k q up down = let wrong : Less ≡ Greater = sym up ∙ total.antisymm k q ∙ ap ordering_reverse down in cc

  pub not_itself : (k : K) → cmp k k ≡ Less → ⊥
  not_itself k lt = let wrong : Less ≡ Equal = sym lt ∙ tied_itself total k in cc

module _ {K X : Type 0} (cmp : K → K → Ordering) (total : IsTotalOrder cmp) where
  -- what is found after a key was put
  pub found-insert : (q k : K) (v : X) (es : List (K × X)) → lookup (is_at (cmp q)) (insert_entry cmp es k v) ≡ cond (is_eq (cmp q k)) (Some v) (lookup (is_at (cmp q)) es)
  found-insert q k v [] = refl
  found-insert q k v (e ∷ es) =
      elim (cmp k e.0) as (λ o. cmp k e.0 ≡ o → lookup (is_at (cmp q)) (match_ordering o ((k, v) ∷ e ∷ es) ((e.0, v) ∷ es) (e ∷ insert_entry cmp es k v))
      ≡ cond (is_eq (cmp q k)) (Some v) (cond (is_eq (cmp q e.0)) (Some e.1) (lookup (is_at (cmp q)) es))) [
        | Less ↦ λ _. refl
        | Equal ↦ λ tie. tied (is_eq (cmp q e.0)) v e.1 (lookup (is_at (cmp q)) es)
            ∙ ap (λ o. cond (is_eq o) (Some v) (cond (is_eq (cmp q e.0)) (Some e.1) (lookup (is_at (cmp q)) es))) (sym (alike_right total k e.0 q tie))
        | Greater ↦ λ after. ap (cond (is_eq (cmp q e.0)) (Some e.1)) (found-insert q k v es)
            ∙ past (is_eq (cmp q e.0)) (is_eq (cmp q k)) v e.1 (lookup (is_at (cmp q)) es) (apart cmp total q k e.0 after)
      ] refl

  below-insert : (x k : K) (v : X) (es : List (K × X)) → AllByRecursion (λ y. cmp x y ≡ Less) (keys_of es) → cmp x k ≡ Less → AllByRecursion (λ y. cmp x y ≡ Less) (keys_of (insert_entry cmp es k v))
  below-insert x k v [] below lt = (lt, tt)
  below-insert x k v (e ∷ es) below lt =
      elim (cmp k e.0) as (λ o. AllByRecursion (λ y. cmp x y ≡ Less) (keys_of (match_ordering o ((k, v) ∷ e ∷ es) ((e.0, v) ∷ es) (e ∷ insert_entry cmp es k v)))) [
        | Less ↦ (lt, below)
        | Equal ↦ below
        | Greater ↦ (below.0, below-insert x k v es below.1 lt)
      ]

  -- the keys rise after a key was put
  pub sorted-insert : (k : K) (v : X) (es : List (K × X)) → IsStrictlySortedBy cmp (keys_of es) → IsStrictlySortedBy cmp (keys_of (insert_entry cmp es k v))
  unfolding IsStrictlySortedBy
  sorted-insert k v [] rise = (tt, tt)
  sorted-insert k v (e ∷ es) rise =
      elim (cmp k e.0) as (λ o. cmp k e.0 ≡ o → IsStrictlySortedBy cmp (keys_of (match_ordering o ((k, v) ∷ e ∷ es) ((e.0, v) ∷ es) (e ∷ insert_entry cmp es k v)))) [
        | Less ↦ λ lt. ((lt, all_past cmp total k e.0 (keys_of es) lt rise.0), rise)
        | Equal ↦ λ tie. rise
        | Greater ↦ λ gt. (below-insert e.0 k v es rise.0 (total.antisymm e.0 k ∙ ap ordering_reverse gt), sorted-insert k v es rise.1)
      ] refl

  -- a key below all others is below each of them
  below_each : (x : K) (es : List (K × X)) (q : K) (w : X) → AllByRecursion (λ y. cmp x y ≡ Less) (keys_of es) → Among (q, w) es → cmp x q ≡ Less
  below_each x [] q w below never = absurd never
  below_each x (e ∷ es) q w below (inl here) = ap (cmp x) (sym (key_same here)) ∙ below.0
  below_each x (e ∷ es) q w below (inr later) = below_each x es q w below.1 later

  -- the entries behind the first have greater keys
  pub above_first : (e : K × X) (es : List (K × X)) (q : K) (w : X) → IsStrictlySortedBy cmp (keys_of (e ∷ es)) → Among (q, w) es → cmp e.0 q ≡ Less
  unfolding IsStrictlySortedBy
  above_first e es q w rise m = below_each e.0 es q w rise.0 m

  pub rise_after : (e : K × X) (es : List (K × X)) → IsStrictlySortedBy cmp (keys_of (e ∷ es)) → IsStrictlySortedBy cmp (keys_of es)
  unfolding IsStrictlySortedBy
  rise_after e es rise = rise.1

  -- each entry is found at its key, where the keys rise
  pub sorted_found : (es : List (K × X)) (q : K) (w : X) → IsStrictlySortedBy cmp (keys_of es) → Among (q, w) es → lookup (is_at (cmp q)) es ≡ Some w
  sorted_found [] q w rise never = absurd never
  sorted_found (e ∷ es) q w rise (inl here) =
      let tie : cmp q e.0 ≡ Equal = ap (cmp q) (key_same here) ∙ tied_itself total q in
      ap (λ o. cond (is_eq o) (Some e.1) (lookup (is_at (cmp q)) es)) tie ∙ ap (λ x. Some x) (value_same here)
  sorted_found (e ∷ es) q w rise (inr later) =
      let past_it : cmp q e.0 ≡ Greater = total.antisymm q e.0 ∙ ap ordering_reverse (above_first e es q w rise later) in
      ap (λ o. cond (is_eq o) (Some e.1) (lookup (is_at (cmp q)) es)) past_it ∙ sorted_found es q w (rise_after e es rise) later
