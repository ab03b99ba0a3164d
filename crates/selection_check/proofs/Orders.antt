-- The order of identifiers and of verdicts is total, and what stands first of two lots stands first of both.
use Rattle.std.proofs.Common.{◌≡◌, zero, suc, true, false, cond, true≢false, ◌⊎◌, List, [], ◌∷◌, Option, Some, None, Ordering, Less, Equal, Greater, is_lt, is_gt, Contains, fold, refl, sym, ap, ◌∙◌, subst, inl, inr, arith}
use Rattle.std.specs.Cmp.{IsTotalOrder, on_total, then_total, nat_cmp_total, upto, tied_itself}
use Rattle.std.specs.Cmp.Lexicographic.{nat_list_cmp_total, options_total}
use Rattle.std.specs.Ordering.{ordering_reverse}
use Rattle.std.proofs.lemmas.Option.{none-some, same_Some}
use Rattle.offer_terms.specs.Offered.{Id}
use Rattle.offer_terms.specs.Booked.{Packed}
use Rattle.selection_check.specs.Order.{rank, id_cmp, pair_cmp, IsFirst, FirstOf, first_id}
use Rattle.selection_check.specs.Found.{first_named}

-- ---- total orders

module _ {K : Type 0} {R : K → K → Ordering} (o : IsTotalOrder R) where
  turn : (r : Ordering) → is_gt (ordering_reverse r) ≡ is_lt r
  turn Less = refl
  turn Equal = refl
  turn Greater = refl

  pub turned : (x y : K) → is_gt (R x y) ≡ is_lt (R y x)
  turned x y = ap is_gt (o.antisymm x y) ∙ turn (R y x)

  one_way : (r : Ordering) → is_lt r ≡ true → is_gt r ≡ false
  one_way Less is = refl
  one_way Equal is = refl
  one_way Greater is = absurd (true≢false (sym is))

  -- what isn't below chains
  pub not_below : (x y z : K) → is_lt (R x y) ≡ false → is_lt (R y z) ≡ false → is_lt (R x z) ≡ false
  not_below x y z a b = sym (turned z x) ∙ upto o z y x (turned z y ∙ b) (turned y x ∙ a)

  pub below_not : (x y : K) → is_lt (R x y) ≡ true → is_lt (R y x) ≡ false
  below_not x y is = sym (turned x y) ∙ one_way (R x y) is

  pub itself : (x : K) → is_lt (R x x) ≡ false
  itself x = ap is_lt (tied_itself o x)

  level : (r : Ordering) → is_lt r ≡ false → is_gt r ≡ false → r ≡ Equal
  level Less a b = absurd (true≢false a)
  level Equal a b = refl
  level Greater a b = absurd (true≢false b)

  -- two firsts are tied
  pub firsts_tied : (P : K → Type 0) (x y : K) → IsFirst R P x → IsFirst R P y → R x y ≡ Equal
  firsts_tied P x y a b = level (R x y) (b.first x a.here) (turned x y ∙ a.first y b.here)

pub first_like : {K : Type 0} (R : K → K → Ordering) {P Q : K → Type 0} (r : Option K) → ((k : K) → P k → Q k) → ((k : K) → Q k → P k) → FirstOf R P r → FirstOf R Q r
first_like R None to back none = λ k q. none k (back k q)
first_like R (Some k) to back is = record { here = to k is.here; first = λ j q. is.first j (back j q) }

-- what a search found is the first, and where it found nothing there is none
pub none_of : {K : Type 0} (R : K → K → Ordering) (P : K → Type 0) (r : Option K) → None ≡ r → FirstOf R P r → (k : K) → P k → ⊥
none_of R P r is f = subst (FirstOf R P) (sym is) f

pub some_of : {K : Type 0} (R : K → K → Ordering) (P : K → Type 0) (r : Option K) (k : K) → Some k ≡ r → FirstOf R P r → IsFirst R P k
some_of R P r k is f = subst (FirstOf R P) (sym is) f

-- ---- identifiers

pub id_total : (book : List Packed) → IsTotalOrder (id_cmp book)
id_total book = then_total (on_total (rank book) nat_cmp_total) nat_list_cmp_total

pub pair_total : (book : List Packed) → IsTotalOrder (pair_cmp book)
pair_total book = then_total (on_total (λ (x : Option Id × Id). x.0) (options_total (id_total book))) (on_total (λ (x : Option Id × Id). x.1) (id_total book))

module _ (book : List Packed) where
  single : (r : Option Id) → FirstOf (id_cmp book) (λ u. r ≡ Some u) r
  single None = λ u is. none-some u is
  single (Some t) = record { here = refl; first = λ u is. subst (λ x. is_lt (id_cmp book x t) ≡ false) (same_Some t u is) (itself (id_total book) t) }

  -- the first of two lots
  pub joined : (P Q : Id → Type 0) (a b : Option Id) → FirstOf (id_cmp book) P a → FirstOf (id_cmp book) Q b → FirstOf (id_cmp book) (λ u. P u ⊎ Q u) (first_id book a b)
  joined P Q None None f g = λ u e. elim e [ inl p ↦ f u p | inr q ↦ g u q ]
  joined P Q None (Some t) f g = record { here = inr g.here; first = λ u e. elim e [ inl p ↦ absurd (f u p) | inr q ↦ g.first u q ] }
  joined P Q (Some t) None f g = record { here = inl f.here; first = λ u e. elim e [ inl p ↦ f.first u p | inr q ↦ absurd (g u q) ] }
  joined P Q (Some u) (Some t) f g =
      elim (is_lt (id_cmp book t u)) as (λ b. is_lt (id_cmp book t u) ≡ b → FirstOf (id_cmp book) (λ x. P x ⊎ Q x) (cond b (Some t) (Some u))) [
        | true ↦ λ is. record {
          here = inr g.here;
          first = λ x e. elim e [
            | inl p ↦ not_below (id_total book) x u t (f.first x p) (below_not (id_total book) t u is)
            | inr q ↦ g.first x q
          ];
        }
        | false ↦ λ is. record {
          here = inl f.here;
          first = λ x e. elim e [
            | inl p ↦ f.first x p
            | inr q ↦ not_below (id_total book) x t u (g.first x q) is
          ];
        }
      ] refl

-- ---- what the entries of a list name

pub record Hits {X : Type 0} (name : X → Option Id) (xs : List X) (u : Id) : Type 0 where
  pub item : X
  pub there : Contains xs item
  pub hit : name item ≡ Some u

pub contains_first : {X : Type 0} (x : X) (xs : List X) → Contains (x ∷ xs) x
contains_first x xs = (0, omega arith, refl)

pub contains_later : {X : Type 0} (x y : X) (xs : List X) → Contains xs y → Contains (x ∷ xs) y
contains_later x y xs c = let inside = c.1 in (suc c.0, omega (arith, inside), c.2)

pub contains_cases : {X : Type 0} (x y : X) (xs : List X) → Contains (x ∷ xs) y → (x ≡ y) ⊎ Contains xs y
contains_cases x y xs (zero, inside, is) = inl is
contains_cases x y xs (suc k, inside, is) = inr (k, omega (arith, inside), is)

module _ {X : Type 0} (book : List Packed) (name : X → Option Id) where
  one_more : (P : Id → Type 0) (x : X) (xs : List X) (u : Id) → (P u ⊎ (name x ≡ Some u)) ⊎ Hits name xs u → P u ⊎ Hits name (x ∷ xs) u
  one_more P x xs u e = elim e [
    | inl f ↦ elim f [ inl p ↦ inl p | inr is ↦ inr (record { item = x; there = contains_first x xs; hit = is }) ]
    | inr h ↦ inr (record { item = h.item; there = contains_later x h.item xs h.there; hit = h.hit })
  ]

  one_less : (P : Id → Type 0) (x : X) (xs : List X) (u : Id) → P u ⊎ Hits name (x ∷ xs) u → (P u ⊎ (name x ≡ Some u)) ⊎ Hits name xs u
  one_less P x xs u e = elim e [
    | inl p ↦ inl (inl p)
    | inr h ↦ elim (contains_cases x h.item xs h.there) [
      | inl same ↦ inl (inr (ap name same ∙ h.hit))
      | inr later ↦ inr (record { item = h.item; there = later; hit = h.hit })
    ]
  ]

  hits_on : (P : Id → Type 0) (a : Option Id) (xs : List X) → FirstOf (id_cmp book) P a → FirstOf (id_cmp book) (λ u. P u ⊎ Hits name xs u) (fold (λ first x. first_id book first (name x)) a xs)
  hits_on P a [] f = first_like (id_cmp book) a (λ u p. inl p) (λ u e. elim e [ inl p ↦ p | inr h ↦ (let inside = h.there.1 in absurd (omega (arith, inside))) ]) f
  hits_on P a (x ∷ xs) f = first_like (id_cmp book) (fold (λ first x. first_id book first (name x)) (first_id book a (name x)) xs) (one_more P x xs) (one_less P x xs)
      (hits_on (λ u. P u ⊎ (name x ≡ Some u)) (first_id book a (name x)) xs (joined book P (λ u. name x ≡ Some u) a (name x) f (single book (name x))))

  -- the first of what they name
  pub first_hits : (P : Id → Type 0) (xs : List X) → ((u : Id) → Hits name xs u → P u) → ((u : Id) → P u → Hits name xs u) → FirstOf (id_cmp book) P (first_named book name xs)
  first_hits P xs to back = first_like (id_cmp book) (first_named book name xs) (λ u e. elim e [ inl none ↦ absurd none | inr h ↦ to u h ]) (λ u p. inr (back u p)) (hits_on (λ _. ⊥) None xs (λ u none. none))
