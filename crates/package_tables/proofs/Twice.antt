-- Putting a name twice: the later value counts.
use Rattle.std.proofs.Common.{◌≡◌, List, [], ◌∷◌, ◌++◌, Option, refl, ap, ◌∙◌}
use Rattle.std.specs.Map.{lookup}
use Rattle.std.specs.Option.{unwrap_or}
use Rattle.std.specs.BTreeMap.{insert_entry, is_at}
use Rattle.std.specs.Cmp.{IsTotalOrder, tied_itself}
use Rattle.std.specs.Ordering.{match_ordering}
use Rattle.std.specs.declared.cmp.Ordering.{Ordering}
use Rattle.std.specs.declared.cmp.Ordering.TheVariants.{Less, Equal, Greater}

pub insert_twice : {K X : Type 0} (cmp : K → K → Ordering) → IsTotalOrder cmp → (es : List (K × X)) (k : K) (v w : X) → insert_entry cmp (insert_entry cmp es k v) k w ≡ insert_entry cmp es k w
insert_twice cmp total [] k v w = ap (λ o. match_ordering o ((k, w) ∷ (k, v) ∷ []) ((k, w) ∷ []) ((k, v) ∷ insert_entry cmp [] k w)) (tied_itself total k)
insert_twice cmp total (e ∷ es) k v w =
    elim (cmp k e.0) as (λ o. cmp k e.0 ≡ o → insert_entry cmp (match_ordering o ((k, v) ∷ e ∷ es) ((e.0, v) ∷ es) (e ∷ insert_entry cmp es k v)) k w
    ≡ match_ordering o ((k, w) ∷ e ∷ es) ((e.0, w) ∷ es) (e ∷ insert_entry cmp es k w)) [
      | Less ↦ λ _. ap (λ o. match_ordering o ((k, w) ∷ (k, v) ∷ e ∷ es) ((k, w) ∷ e ∷ es) ((k, v) ∷ insert_entry cmp (e ∷ es) k w)) (tied_itself total k)
      | Equal ↦ λ tie. ap (λ o. match_ordering o ((k, w) ∷ (e.0, v) ∷ es) ((e.0, w) ∷ es) ((e.0, v) ∷ insert_entry cmp es k w)) tie
      | Greater ↦ λ after. ap (λ o. match_ordering o ((k, w) ∷ e ∷ insert_entry cmp es k v) ((e.0, w) ∷ insert_entry cmp es k v) (e ∷ insert_entry cmp (insert_entry cmp es k v) k w)) after
          ∙ ap (λ t. e ∷ t) (insert_twice cmp total es k v w)
    ] refl

-- a group that was taken out, made longer and put back
pub joined_twice : {K X : Type 0} (cmp : K → K → Ordering) → IsTotalOrder cmp → (es once twice : List (K × List X)) (k first second : K) (made group longer tail : List X) (found : Option (List X))
    → first ≡ k → second ≡ k → found ≡ lookup (is_at (cmp first)) es → once ≡ insert_entry cmp es first made → group ≡ unwrap_or found [] → longer ≡ group ++ tail
    → twice ≡ insert_entry cmp once second longer → twice ≡ insert_entry cmp es k (unwrap_or (lookup (is_at (cmp k)) es) [] ++ tail)
joined_twice cmp total es once twice k first second made group longer tail found one two old put taken pushed back =
    back ∙ ap (λ m. insert_entry cmp m second longer) put ∙ ap (λ q. insert_entry cmp (insert_entry cmp es q made) second longer) one
    ∙ ap (λ q. insert_entry cmp (insert_entry cmp es k made) q longer) two ∙ insert_twice cmp total es k made longer
    ∙ ap (insert_entry cmp es k) (pushed ∙ ap (λ g. g ++ tail) (taken ∙ ap (λ f. unwrap_or f []) (old ∙ ap (λ q. lookup (is_at (cmp q)) es) one)))
