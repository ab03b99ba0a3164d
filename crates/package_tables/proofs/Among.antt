-- Elements of a list, by recursion: what filters, maps and puts of keys leave of them.
use Rattle.std.proofs.Common.{◌≡◌, zero, suc, ◌+◌, ◌⊎◌, Bool, true, false, cond, List, [], ◌∷◌, ◌++◌, map, filter, find, Some, refl, sym, ap, subst, ◌∙◌, inl, inr, arith}
use Rattle.std.specs.Prelude.{Contains}
use Rattle.std.proofs.lemmas.Bool.{true≢false}
use Rattle.std.proofs.lemmas.Option.{none-some, same_Some}
use Rattle.std.proofs.lemmas.Map.Lookups.{CmpEqualImpliesEq}
use Rattle.std.specs.BTreeMap.{insert_entry, is_at}
use Rattle.std.specs.Cmp.{IsTotalOrder, tied_itself}
use Rattle.std.specs.Map.{lookup}
use Rattle.std.specs.Ordering.{match_ordering, is_eq}
use Rattle.std.specs.declared.cmp.Ordering.{Ordering}
use Rattle.std.specs.declared.cmp.Ordering.TheVariants.{Less, Equal, Greater}
use Rattle.package_tables.specs.Row.{put_to}

abbrev pub Among : {X : Type 0} → X → List X → Type 0
Among x [] = ⊥
Among x (y ∷ ys) = (y ≡ x) ⊎ Among x ys

-- pairs that are the same have one key and one value
pub key_same : {K X : Type 0} {p q : K × X} → p ≡ q → p.0 ≡ q.0
key_same e = λ i. (e i).0

pub value_same : {K X : Type 0} {p q : K × X} → p ≡ q → p.1 ≡ q.1
value_same e = λ i. (e i).1

pub contains_among : {X : Type 0} (xs : List X) (x : X) → Contains xs x → Among x xs
contains_among [] x (k, inside, is) = absurd (omega (arith, inside))
contains_among (y ∷ ys) x (zero, inside, is) = inl is
contains_among (y ∷ ys) x (suc k, inside, is) = inr (contains_among ys x (k, omega (arith, inside), is))

pub among_contains : {X : Type 0} (xs : List X) (x : X) → Among x xs → Contains xs x
among_contains [] x never = absurd never
among_contains (y ∷ ys) x (inl is) = (0, omega arith, is)
among_contains (y ∷ ys) x (inr later) = let (k, inside, is) = among_contains ys x later in (suc k, omega (arith, inside), is)

-- ---- filters, maps and joined lists

pub filter_only : {X : Type 0} (p : X → Bool) (xs : List X) (x : X) → Among x (filter p xs) → Among x xs × (p x ≡ true)
filter_only p [] x never = absurd never
filter_only p (y ∷ ys) x m =
    elim (p y) as (λ b. p y ≡ b → Among x (cond b (y ∷ filter p ys) (filter p ys)) → Among x (y ∷ ys) × (p x ≡ true)) [
      | true ↦ λ pass m. elim m [ inl is ↦ (inl is, ap p (sym is) ∙ pass) | inr later ↦ let (stands, passes) = filter_only p ys x later in (inr stands, passes) ]
      | false ↦ λ _ m. let (stands, passes) = filter_only p ys x m in (inr stands, passes)
    ] refl m

pub filter_every : {X : Type 0} (p : X → Bool) (xs : List X) (x : X) → Among x xs → p x ≡ true → Among x (filter p xs)
filter_every p [] x never pass = absurd never
filter_every p (y ∷ ys) x (inl is) pass =
    elim (p y) as (λ b. p y ≡ b → Among x (cond b (y ∷ filter p ys) (filter p ys))) [
      | true ↦ λ _. inl is
      | false ↦ λ fails. absurd (true≢false (sym pass ∙ ap p (sym is) ∙ fails))
    ] refl
filter_every p (y ∷ ys) x (inr later) pass =
    elim (p y) as (λ b. Among x (cond b (y ∷ filter p ys) (filter p ys))) [
      | true ↦ inr (filter_every p ys x later pass)
      | false ↦ filter_every p ys x later pass
    ]

pub map_only : {X Y : Type 0} (f : X → Y) (xs : List X) (y : Y) → Among y (map f xs) → (x : X) × Among x xs × (f x ≡ y)
map_only f [] y never = absurd never
map_only f (x ∷ xs) y (inl is) = (x, inl refl, is)
map_only f (x ∷ xs) y (inr later) = let (z, stands, is) = map_only f xs y later in (z, inr stands, is)

pub map_every : {X Y : Type 0} (f : X → Y) (xs : List X) (x : X) → Among x xs → Among (f x) (map f xs)
map_every f [] x never = absurd never
map_every f (y ∷ ys) x (inl is) = inl (ap f is)
map_every f (y ∷ ys) x (inr later) = inr (map_every f ys x later)

pub append_only : {X : Type 0} (xs ys : List X) (x : X) → Among x (xs ++ ys) → Among x xs ⊎ Among x ys
append_only [] ys x m = inr m
append_only (z ∷ xs) ys x (inl is) = inl (inl is)
append_only (z ∷ xs) ys x (inr later) = elim (append_only xs ys x later) [ inl left ↦ inl (inr left) | inr right ↦ inr right ]

pub append_left : {X : Type 0} (xs ys : List X) (x : X) → Among x xs → Among x (xs ++ ys)
append_left [] ys x never = absurd never
append_left (z ∷ xs) ys x (inl is) = inl is
append_left (z ∷ xs) ys x (inr later) = inr (append_left xs ys x later)

pub append_right : {X : Type 0} (xs ys : List X) (x : X) → Among x ys → Among x (xs ++ ys)
append_right [] ys x m = m
append_right (z ∷ xs) ys x m = inr (append_right xs ys x m)

pub find_only : {X : Type 0} (p : X → Bool) (xs : List X) (x : X) → find p xs ≡ Some x → Among x xs × (p x ≡ true)
find_only p [] x e = absurd (none-some x e)
find_only p (y ∷ ys) x e =
    elim (p y) as (λ b. p y ≡ b → cond b (Some y) (find p ys) ≡ Some x → Among x (y ∷ ys) × (p x ≡ true)) [
      | true ↦ λ pass found. let is : y ≡ x = same_Some y x found in (inl is, ap p (sym is) ∙ pass)
      | false ↦ λ _ found. let (stands, passes) = find_only p ys x found in (inr stands, passes)
    ] refl e

-- ---- pairs that were put at keys

abbrev SamePair : {K X : Type 0} → K → X → K → X → Type 0
SamePair {K} {X} k v q w = ◌≡◌ {A = K × X} (k, v) (q, w)

moved_key : {K X : Type 0} (k l : K) (v : X) (q : K) (w : X) → k ≡ l → SamePair l v q w → SamePair k v q w
moved_key k l v q w e f = λ i. ((e ∙ key_same f) i, value_same f i)

module _ {K X : Type 0} (cmp : K → K → Ordering) (exact : CmpEqualImpliesEq cmp) where
  insert_new : (es : List (K × X)) (k : K) (v : X) → Among (k, v) (insert_entry cmp es k v)
  insert_new [] k v = inl refl
  insert_new (e ∷ es) k v =
      elim (cmp k e.0) as (λ o. cmp k e.0 ≡ o → Among (k, v) (match_ordering o ((k, v) ∷ e ∷ es) ((e.0, v) ∷ es) (e ∷ insert_entry cmp es k v))) [
        | Less ↦ λ _. inl refl
        | Equal ↦ λ tie. inl (λ i. (sym (exact k e.0 tie) i, v))
        | Greater ↦ λ _. inr (insert_new es k v)
      ] refl

  insert_keeps : (es : List (K × X)) (k : K) (v : X) (q : K) (w : X) → (q ≡ k → w ≡ v) → Among (q, w) es → Among (q, w) (insert_entry cmp es k v)
  insert_keeps [] k v q w same never = absurd never
  insert_keeps (e ∷ es) k v q w same m =
      elim (cmp k e.0) as (λ o. cmp k e.0 ≡ o → Among (q, w) (match_ordering o ((k, v) ∷ e ∷ es) ((e.0, v) ∷ es) (e ∷ insert_entry cmp es k v))) [
        | Less ↦ λ _. inr m
        | Equal ↦ λ tie. elim m [
          | inl here ↦ inl (λ i. ((here i).0, sym (same (sym (key_same here) ∙ sym (exact k e.0 tie))) i))
          | inr later ↦ inr later
        ]
        | Greater ↦ λ _. elim m [ inl here ↦ inl here | inr later ↦ inr (insert_keeps es k v q w same later) ]
      ] refl

  insert_only : (es : List (K × X)) (k : K) (v : X) (q : K) (w : X) → Among (q, w) (insert_entry cmp es k v) → SamePair k v q w ⊎ Among (q, w) es
  insert_only [] k v q w m = m
  insert_only (e ∷ es) k v q w m =
      elim (cmp k e.0) as (λ o. cmp k e.0 ≡ o → Among (q, w) (match_ordering o ((k, v) ∷ e ∷ es) ((e.0, v) ∷ es) (e ∷ insert_entry cmp es k v)) → SamePair k v q w ⊎ Among (q, w) (e ∷ es)) [
        | Less ↦ λ _ m. m
        | Equal ↦ λ tie m. elim m [ inl here ↦ inl (moved_key k e.0 v q w (exact k e.0 tie) here) | inr later ↦ inr (inr later) ]
        | Greater ↦ λ _ m. elim m [
          | inl here ↦ inr (inl here)
          | inr later ↦ elim (insert_only es k v q w later) [ inl new ↦ inl new | inr old ↦ inr (inr old) ]
        ]
      ] refl m

  insert_has : (es : List (K × X)) (k : K) (v : X) (q : K) (w : X) → Among (q, w) es → (x : X) × Among (q, x) (insert_entry cmp es k v)
  insert_has [] k v q w never = absurd never
  insert_has (e ∷ es) k v q w m =
      elim (cmp k e.0) as (λ o. (x : X) × Among (q, x) (match_ordering o ((k, v) ∷ e ∷ es) ((e.0, v) ∷ es) (e ∷ insert_entry cmp es k v))) [
        | Less ↦ (w, inr m)
        | Equal ↦ elim m [ inl here ↦ (v, inl (λ i. ((here i).0, v))) | inr later ↦ (w, inr later) ]
        | Greater ↦ elim m [ inl here ↦ (w, inl here) | inr later ↦ let (x, stands) = insert_has es k v q w later in (x, inr stands) ]
      ]

  -- what stands there was put, or stood there before
  pub put_only : (done pairs : List (K × X)) (q : K) (w : X) → Among (q, w) (put_to cmp done pairs) → Among (q, w) pairs ⊎ Among (q, w) done
  put_only done [] q w m = inr m
  put_only done (p ∷ pairs) q w m =
      elim (put_only (insert_entry cmp done p.0 p.1) pairs q w m) [
        | inl later ↦ inl (inr later)
        | inr here ↦ elim (insert_only done p.0 p.1 q w here) [ inl new ↦ inl (inl new) | inr old ↦ inr old ]
      ]

  abbrev pub Either : List (K × X) → List (K × X) → K → X → Type 0
  Either pairs done q w = Among (q, w) pairs ⊎ Among (q, w) done

  before_put : (done pairs : List (K × X)) (p : K × X) (q : K) (w : X) → Either pairs (insert_entry cmp done p.0 p.1) q w → Either (p ∷ pairs) done q w
  before_put done pairs p q w (inl later) = inl (inr later)
  before_put done pairs p q w (inr here) = elim (insert_only done p.0 p.1 q w here) [ inl new ↦ inl (inl new) | inr old ↦ inr old ]

  -- what was put stands there, where each key has one value
  pub put_every : (done pairs : List (K × X)) → ((q : K) (x y : X) → Either pairs done q x → Either pairs done q y → x ≡ y) → (q : K) (w : X) → Either pairs done q w → Among (q, w) (put_to cmp done pairs)
  put_every done [] one q w m = elim m [ inl never ↦ absurd never | inr old ↦ old ]
  put_every done (p ∷ pairs) one q w m =
      put_every (insert_entry cmp done p.0 p.1) pairs (λ k x y a b. one k x y (before_put done pairs p k x a) (before_put done pairs p k y b)) q w (moved m)
    where
      moved : Either (p ∷ pairs) done q w → Either pairs (insert_entry cmp done p.0 p.1) q w
      moved (inl (inl is)) = inr (subst (λ (r : K × X). Among r (insert_entry cmp done p.0 p.1)) is (insert_new done p.0 p.1))
      moved (inl (inr later)) = inl later
      moved (inr old) = inr (insert_keeps done p.0 p.1 q w (λ same. one q w p.1 (inr old) (inl (inl (λ i. (sym same i, p.1))))) old)

  -- a key that was put stands there with some value
  pub put_has : (done pairs : List (K × X)) (q : K) (w : X) → Either pairs done q w → (x : X) × Among (q, x) (put_to cmp done pairs)
  put_has done [] q w m = elim m [ inl never ↦ absurd never | inr old ↦ (w, old) ]
  put_has done (p ∷ pairs) q w (inl (inl is)) = put_has (insert_entry cmp done p.0 p.1) pairs q w (inr (subst (λ (r : K × X). Among r (insert_entry cmp done p.0 p.1)) is (insert_new done p.0 p.1)))
  put_has done (p ∷ pairs) q w (inl (inr later)) = put_has (insert_entry cmp done p.0 p.1) pairs q w (inl later)
  put_has done (p ∷ pairs) q w (inr old) = let (x, stands) = insert_has done p.0 p.1 q w old in put_has (insert_entry cmp done p.0 p.1) pairs q x (inr stands)

  -- ---- look-ups

  pub lookup_among : (es : List (K × X)) (q : K) (w : X) → lookup (is_at (cmp q)) es ≡ Some w → Among (q, w) es
  lookup_among [] q w e = absurd (none-some w e)
  lookup_among (e ∷ es) q w found =
      elim (cmp q e.0) as (λ o. cmp q e.0 ≡ o → cond (is_eq o) (Some e.1) (lookup (is_at (cmp q)) es) ≡ Some w → Among (q, w) (e ∷ es)) [
        | Less ↦ λ _ f. inr (lookup_among es q w f)
        | Equal ↦ λ tie f. inl (λ i. (sym (exact q e.0 tie) i, same_Some e.1 w f i))
        | Greater ↦ λ _ f. inr (lookup_among es q w f)
      ] refl found

pub among_lookup : {K X : Type 0} {cmp : K → K → Ordering} (total : IsTotalOrder cmp) (es : List (K × X)) (q : K) (w : X) → Among (q, w) es → (x : X) × (lookup (is_at (cmp q)) es ≡ Some x)
among_lookup total [] q w never = absurd never
among_lookup {K} {X} {cmp} total (e ∷ es) q w (inl here) =
    let tie : cmp q e.0 ≡ Equal = ap (cmp q) (key_same here) ∙ tied_itself total q in
    (e.1, ap (λ o. cond (is_eq o) (Some e.1) (lookup (is_at (cmp q)) es)) tie)
among_lookup {K} {X} {cmp} total (e ∷ es) q w (inr later) =
    elim (is_eq (cmp q e.0)) as (λ b. (x : X) × (cond b (Some e.1) (lookup (is_at (cmp q)) es) ≡ Some x)) [
      | true ↦ (e.1, refl)
      | false ↦ among_lookup total es q w later
    ]
