-- The laws of the comparisons of Order: each is a total order that answers Less exactly where its relation holds, and Equal exactly at equal values.
use Rattle.std.specs.Prelude.{◌≡◌, ℕ, ◌<◌, ◌⊎◌, List, [], ◌∷◌, ◌↔◌, true}
use Rattle.std.proofs.Common.{refl, ap, sym, ◌∙◌, subst, inl, inr, arith}
use Rattle.std.specs.declared.cmp.Ordering.{Ordering}
use Rattle.std.specs.declared.cmp.Ordering.TheVariants.{Less, Equal, Greater}
use Rattle.std.specs.Ordering.{nat_cmp, ordering_then, ordering_reverse, eq_by_cmp, is_eq}
use Rattle.std.specs.Cmp.{IsTotalOrder, nat_cmp_total, bool_cmp_total, then_total, on_total}
use Rattle.std.specs.Cmp.Lexicographic.{slice_cmp, lists_total, nat_list_cmp_total}
use Rattle.std.proofs.lemmas.Bool.Decides.{nat_tests}
use Rattle.jl_versions.specs.Words.{is_empty}
use Rattle.jl_versions.specs.Triple.{triple_of}
use Rattle.jl_versions.specs.Order.{IsListBelow, IsIdentBelow, IsPreBelow, IsBelow, ident_cmp, idents_cmp, pre_cmp, version_cmp}
use Rattle.jl_versions.specs.declared.ident.Ident.{Ident}
use Rattle.jl_versions.specs.declared.ident.Ident.TheVariants.{Number, Word}
use Rattle.jl_versions.specs.declared.version.Version.{Version}

-- ---- total orders

words_total : IsTotalOrder (slice_cmp nat_cmp)
words_total = nat_list_cmp_total

ident_antisymm : (x y : Ident) → ident_cmp x y ≡ ordering_reverse (ident_cmp y x)
ident_antisymm (Number m) (Number n) = nat_cmp_total.antisymm m n
ident_antisymm (Number m) (Word w) = refl
ident_antisymm (Word v) (Number n) = refl
ident_antisymm (Word v) (Word w) = words_total.antisymm v w

ident_trans : (x y z : Ident) → ident_cmp x y ≡ Less → ident_cmp y z ≡ Less → ident_cmp x z ≡ Less
ident_trans (Number l) (Number m) (Number n) a b = nat_cmp_total.trans l m n a b
ident_trans (Number l) (Number m) (Word w) a b = refl
ident_trans (Number l) (Word v) (Number n) a b = cc
ident_trans (Number l) (Word v) (Word w) a b = refl
ident_trans (Word u) (Number m) z a b = cc
ident_trans (Word u) (Word v) (Number n) a b = cc
ident_trans (Word u) (Word v) (Word w) a b = words_total.trans u v w a b

ident_congr : (x y z : Ident) → ident_cmp x y ≡ Equal → ident_cmp x z ≡ ident_cmp y z
ident_congr (Number l) (Number m) (Number n) a = nat_cmp_total.congr l m n a
ident_congr (Number l) (Number m) (Word w) a = refl
ident_congr (Number l) (Word v) z a = cc
ident_congr (Word u) (Number m) z a = cc
ident_congr (Word u) (Word v) (Number n) a = refl
ident_congr (Word u) (Word v) (Word w) a = words_total.congr u v w a

pub ident_total : IsTotalOrder ident_cmp
ident_total = record { antisymm = ident_antisymm; trans = ident_trans; congr = ident_congr }

pub idents_total : IsTotalOrder idents_cmp
idents_total = lists_total ident_total

pub version_total : IsTotalOrder version_cmp
version_total =
    then_total (on_total triple_of words_total)
    (then_total (on_total (λ v. v.pre) (then_total (on_total is_empty bool_cmp_total) idents_total)) (on_total (λ v. v.build) idents_total))

-- ---- the relation that each answers

-- a comparison answers Less exactly where Below holds, and Equal exactly at equal values
record Ranks {X : Type 0} (R : X → X → Ordering) (Below : X → X → Type 0) : Type 0 where
  pub less : (x y : X) → R x y ≡ Less → Below x y
  pub below : (x y : X) → Below x y → R x y ≡ Less
  pub same : (x y : X) → R x y ≡ Equal → x ≡ y
  pub equal : (x : X) → R x x ≡ Equal

numbers_rank : Ranks nat_cmp (λ a b. a < b)
numbers_rank = record {
  less = λ x y e. nat_less x y e;
  below = λ x y h. nat_below x y h;
  same = λ x y e. nat_same x y e;
  equal = λ x. nat_equal x;
}
  where
    nat_less : (x y : ℕ) → nat_cmp x y ≡ Less → x < y
    nat_less x y e = grind (arith, nat_tests)

    nat_below : (x y : ℕ) → x < y → nat_cmp x y ≡ Less
    nat_below x y h = grind (arith, nat_tests)

    nat_same : (x y : ℕ) → nat_cmp x y ≡ Equal → x ≡ y
    nat_same x y e = grind (arith, nat_tests)

    nat_equal : (x : ℕ) → nat_cmp x x ≡ Equal
    nat_equal x = grind (arith, nat_tests)

-- what a chain of two answers
then_less : (a b : Ordering) → ordering_then a b ≡ Less → (a ≡ Less) ⊎ ((a ≡ Equal) × (b ≡ Less))
then_less Less b e = inl refl
then_less Equal b e = inr (refl, e)
then_less Greater b e = cc

then_equal : (a b : Ordering) → ordering_then a b ≡ Equal → (a ≡ Equal) × (b ≡ Equal)
then_equal Less b e = cc
then_equal Equal b e = (refl, e)
then_equal Greater b e = cc

module _ {X : Type 0} {R : X → X → Ordering} {Below : X → X → Type 0} (ranks : Ranks R Below) where
  equal_at : (x y : X) → x ≡ y → R x y ≡ Equal
  equal_at x y e = subst (λ z. R x z ≡ Equal) e (ranks.equal x)

  lists_less : (xs ys : List X) → slice_cmp R xs ys ≡ Less → IsListBelow Below xs ys
  lists_less [] [] e = cc
  lists_less [] (y ∷ ys) e = tt
  lists_less (x ∷ xs) [] e = cc
  lists_less (x ∷ xs) (y ∷ ys) e = elim (then_less (R x y) (slice_cmp R xs ys) e) [ inl first ↦ inl (ranks.less x y first) | inr (tied, rest) ↦ inr (ranks.same x y tied, lists_less xs ys rest) ]

  lists_below : (xs ys : List X) → IsListBelow Below xs ys → slice_cmp R xs ys ≡ Less
  lists_below [] [] h = absurd h
  lists_below [] (y ∷ ys) h = refl
  lists_below (x ∷ xs) [] h = absurd h
  lists_below (x ∷ xs) (y ∷ ys) (inl h) = ap (λ o. ordering_then o (slice_cmp R xs ys)) (ranks.below x y h)
  lists_below (x ∷ xs) (y ∷ ys) (inr (e, h)) = ap (λ o. ordering_then o (slice_cmp R xs ys)) (equal_at x y e) ∙ lists_below xs ys h

  lists_same : (xs ys : List X) → slice_cmp R xs ys ≡ Equal → xs ≡ ys
  lists_same [] [] e = refl
  lists_same [] (y ∷ ys) e = cc
  lists_same (x ∷ xs) [] e = cc
  lists_same (x ∷ xs) (y ∷ ys) e = let (first, rest) = then_equal (R x y) (slice_cmp R xs ys) e in λ i. ranks.same x y first i ∷ lists_same xs ys rest i

  lists_equal : (xs : List X) → slice_cmp R xs xs ≡ Equal
  lists_equal [] = refl
  lists_equal (x ∷ xs) = ap (λ o. ordering_then o (slice_cmp R xs xs)) (ranks.equal x) ∙ lists_equal xs

  lists_rank : Ranks (slice_cmp R) (IsListBelow Below)
  lists_rank = record { less = lists_less; below = lists_below; same = lists_same; equal = lists_equal }

bytes_rank : Ranks (slice_cmp nat_cmp) (IsListBelow (λ a b. a < b))
bytes_rank = lists_rank numbers_rank

ident_less : (x y : Ident) → ident_cmp x y ≡ Less → IsIdentBelow x y
ident_less (Number m) (Number n) e = numbers_rank.less m n e
ident_less (Number m) (Word w) e = tt
ident_less (Word v) (Number n) e = cc
ident_less (Word v) (Word w) e = bytes_rank.less v w e

ident_below : (x y : Ident) → IsIdentBelow x y → ident_cmp x y ≡ Less
ident_below (Number m) (Number n) h = numbers_rank.below m n h
ident_below (Number m) (Word w) h = refl
ident_below (Word v) (Number n) h = absurd h
ident_below (Word v) (Word w) h = bytes_rank.below v w h

ident_same : (x y : Ident) → ident_cmp x y ≡ Equal → x ≡ y
ident_same (Number m) (Number n) e = ap Number (numbers_rank.same m n e)
ident_same (Number m) (Word w) e = cc
ident_same (Word v) (Number n) e = cc
ident_same (Word v) (Word w) e = ap Word (bytes_rank.same v w e)

ident_equal : (x : Ident) → ident_cmp x x ≡ Equal
ident_equal (Number m) = numbers_rank.equal m
ident_equal (Word v) = bytes_rank.equal v

idents_rank : Ranks idents_cmp (IsListBelow IsIdentBelow)
idents_rank = lists_rank (record { less = ident_less; below = ident_below; same = ident_same; equal = ident_equal })

pre_less : (is js : List Ident) → pre_cmp is js ≡ Less → IsPreBelow is js
pre_less [] [] e = cc
pre_less [] (j ∷ js) e = cc
pre_less (i ∷ is) [] e = tt
pre_less (i ∷ is) (j ∷ js) e = idents_rank.less (i ∷ is) (j ∷ js) e

pre_below : (is js : List Ident) → IsPreBelow is js → pre_cmp is js ≡ Less
pre_below [] js h = absurd h
pre_below (i ∷ is) [] h = refl
pre_below (i ∷ is) (j ∷ js) h = idents_rank.below (i ∷ is) (j ∷ js) h

pre_same : (is js : List Ident) → pre_cmp is js ≡ Equal → is ≡ js
pre_same [] [] e = refl
pre_same [] (j ∷ js) e = cc
pre_same (i ∷ is) [] e = cc
pre_same (i ∷ is) (j ∷ js) e = idents_rank.same (i ∷ is) (j ∷ js) e

pre_equal : (is : List Ident) → pre_cmp is is ≡ Equal
pre_equal [] = refl
pre_equal (i ∷ is) = idents_rank.equal (i ∷ is)

pre_rank : Ranks pre_cmp IsPreBelow
pre_rank = record { less = pre_less; below = pre_below; same = pre_same; equal = pre_equal }

-- the three comparisons of two versions
numbers_cmp : Version → Version → Ordering
numbers_cmp v w = slice_cmp nat_cmp (triple_of v) (triple_of w)

labels_cmp : Version → Version → Ordering
labels_cmp v w = ordering_then (pre_cmp v.pre w.pre) (idents_cmp v.build w.build)

then_first : (a b : Ordering) → a ≡ Less → ordering_then a b ≡ Less
then_first a b e = ap (λ o. ordering_then o b) e

then_second : (a b : Ordering) → a ≡ Equal → ordering_then a b ≡ b
then_second a b e = ap (λ o. ordering_then o b) e

version_less : (v w : Version) → version_cmp v w ≡ Less → IsBelow v w
unfolding numbers_cmp labels_cmp
version_less v w e =
    elim (then_less (numbers_cmp v w) (labels_cmp v w) e) [
      | inl numbers ↦ inl (bytes_rank.less (triple_of v) (triple_of w) numbers)
      | inr (tied, labels) ↦ inr (
        bytes_rank.same (triple_of v) (triple_of w) tied,
        elim (then_less (pre_cmp v.pre w.pre) (idents_cmp v.build w.build) labels) [
          | inl pre ↦ inl (pre_rank.less v.pre w.pre pre)
          | inr (even, build) ↦ inr (pre_rank.same v.pre w.pre even, idents_rank.less v.build w.build build)
        ],
      )
    ]

labels_below : (v w : Version) → IsPreBelow v.pre w.pre ⊎ ((v.pre ≡ w.pre) × IsListBelow IsIdentBelow v.build w.build) → labels_cmp v w ≡ Less
unfolding labels_cmp
labels_below v w (inl pre) = then_first (pre_cmp v.pre w.pre) (idents_cmp v.build w.build) (pre_rank.below v.pre w.pre pre)
labels_below v w (inr (even, build)) = then_second (pre_cmp v.pre w.pre) (idents_cmp v.build w.build) (equal_at pre_rank v.pre w.pre even) ∙ idents_rank.below v.build w.build build

version_below : (v w : Version) → IsBelow v w → version_cmp v w ≡ Less
unfolding numbers_cmp labels_cmp
version_below v w (inl numbers) = then_first (numbers_cmp v w) (labels_cmp v w) (bytes_rank.below (triple_of v) (triple_of w) numbers)
version_below v w (inr (tied, labels)) = then_second (numbers_cmp v w) (labels_cmp v w) (equal_at bytes_rank (triple_of v) (triple_of w) tied) ∙ labels_below v w labels

version_same : (v w : Version) → version_cmp v w ≡ Equal → v ≡ w
unfolding numbers_cmp labels_cmp
version_same v w e =
    let (numbers, labels) = then_equal (numbers_cmp v w) (labels_cmp v w) e in
    let (pre, build) = then_equal (pre_cmp v.pre w.pre) (idents_cmp v.build w.build) labels in
    let triple : triple_of v ≡ triple_of w = bytes_rank.same (triple_of v) (triple_of w) numbers in
    let major : v.major ≡ w.major = cc triple in
    let minor : v.minor ≡ w.minor = cc triple in
    let patch : v.patch ≡ w.patch = cc triple in
    let pres : v.pre ≡ w.pre = pre_rank.same v.pre w.pre pre in
    let builds : v.build ≡ w.build = idents_rank.same v.build w.build build in
    λ k. record { major = major k; minor = minor k; patch = patch k; pre = pres k; build = builds k }

version_equal : (v : Version) → version_cmp v v ≡ Equal
unfolding numbers_cmp labels_cmp
version_equal v =
    then_second (numbers_cmp v v) (labels_cmp v v) (bytes_rank.equal (triple_of v))
    ∙ then_second (pre_cmp v.pre v.pre) (idents_cmp v.build v.build) (pre_rank.equal v.pre)
    ∙ idents_rank.equal v.build

-- comparing answers Less exactly where the one is below the other
pub less_is_below : (v w : Version) → (version_cmp v w ≡ Less) ↔ IsBelow v w
less_is_below v w = (version_less v w, version_below v w)

-- and Equal exactly at equal versions
pub equal_is_same : (v w : Version) → (version_cmp v w ≡ Equal) ↔ (v ≡ w)
equal_is_same v w = (version_same v w, λ e. subst (λ u. version_cmp v u ≡ Equal) e (version_equal v))

-- ---- the order, in the words of its relation

pub eq_is_same : (v w : Version) → (eq_by_cmp version_cmp v w ≡ true) ↔ (v ≡ w)
eq_is_same v w = (λ e. version_same v w (tells (version_cmp v w) e), λ e. ap is_eq ((equal_is_same v w).1 e))
  where
    tells : (o : Ordering) → is_eq o ≡ true → o ≡ Equal
    tells Less e = cc
    tells Equal e = refl
    tells Greater e = cc

pub one_way : (v w : Version) → IsBelow v w ⊎ ((v ≡ w) ⊎ IsBelow w v)
one_way v w = cases (version_cmp v w) refl
  where
    cases : (o : Ordering) → version_cmp v w ≡ o → IsBelow v w ⊎ ((v ≡ w) ⊎ IsBelow w v)
    cases Less e = inl (version_less v w e)
    cases Equal e = inr (inl (version_same v w e))
    cases Greater e = inr (inr (version_less w v (version_total.antisymm w v ∙ ap ordering_reverse e)))

pub strict : (v : Version) → IsBelow v v → ⊥
strict v below = apart (sym (version_below v v below) ∙ version_equal v)
  where
    apart : Less ≡ Equal → ⊥
    apart e = cc

pub through : (u v w : Version) → IsBelow u v → IsBelow v w → IsBelow u w
through u v w first second = version_less u w (version_total.trans u v w (version_below u v first) (version_below v w second))
