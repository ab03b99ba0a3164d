-- How many nodes a walk has at most: a package that is decided counts 1, another one more than its closed states. At a
-- branch the children count so little that with the branch they come to no more.
use Rattle.std.proofs.Common.{◌≡◌, ℕ, zero, suc, ◌+◌, ◌*◌, ◌<◌, ◌≤◌, Bool, true, false, not, ◌||◌, cond, List, [], ◌∷◌, ◌++◌, length, get_or, map, refl, sym, ◌∙◌, ap, subst, arith, inl, inr, eqb, ◌&&◌, add-one}
use Rattle.std.proofs.lemmas.Bool.{cases_eq, cases_lt, cases_Bool, and_parts, and_from, eqb-true, eq-eqb, ne_eqb}
use Rattle.std.proofs.lemmas.List.{length-map, get_or-map, get_or_default}
use Rattle.std.proofs.lemmas.List.Folds.{list_all-append}
use Rattle.std.proofs.lemmas.Map.Steps.{length-le_from_distinct_below}
use Rattle.std.proofs.lemmas.Map.Keys.{IsDistinct-from_apart}
use Rattle.std.proofs.lemmas.Map.Views.{Contains-from_any}
use Rattle.std.proofs.Math.Nat.{mul-le-mul_left, mul-le-mul_right, mul-suc, suc-mul, mul-one, mul_comm, mul_right_comm, zero-mul}
use Rattle.std.proofs.lemmas.List.{length-append}
use Rattle.std.specs.List.{Contains, IsDistinct, list_any}
use Rattle.version_graph.specs.Graph.{Graph, packages, states, is_offered}
use Rattle.version_graph.specs.Family.{Family, InClosure, IsClosureOf, agrees, under}
use Rattle.version_graph.proofs.FamilyLemmas.{closure-largest, below_within}
use Rattle.refutation_log.specs.Refutes.{Prefix}
use Rattle.refutation_log.specs.declared.node.Node.{Node}
use Rattle.decimation_repair.specs.Walk.{Choice, IsChoice, Task, root, behind, Visits, dead, open_at, Walks}
use Rattle.decimation_repair.specs.Bound.{product_below, most_nodes, StaysWithin, WalkStaysWithin}
use Rattle.decimation_repair.specs.Choice.{BeliefChoice}
use Rattle.decimation_repair.proofs.ChoiceLemmas.{belief-lawful}
use Rattle.decimation_repair.proofs.EndLemmas.{closed-small}
use Rattle.decimation_repair.proofs.StandLemmas.{walks-more}

-- ---- how many numbers pass

count : (ℕ → Bool) → ℕ → ℕ
count f zero = 0
count f (suc n) = cond (f n) (count f n + 1) (count f n)

count-le : (f : ℕ → Bool) (n : ℕ) → count f n ≤ n
unfolding count
count-le f zero = omega arith
count-le f (suc n) = by_test (f n) (count-le f n)
  where
    by_test : (b : Bool) → count f n ≤ n → cond b (count f n + 1) (count f n) ≤ suc n
    by_test true h = omega (arith, h)
    by_test false h = omega (arith, h)

count-more : (f h : ℕ → Bool) (n : ℕ) → ((i : ℕ) → f i ≡ true → h i ≡ true) → count f n ≤ count h n
unfolding count
count-more f h zero e = omega arith
count-more f h (suc n) e = by_tests (f n) (h n) (e n) (count-more f h n e)
  where
    by_tests : (a b : Bool) → (a ≡ true → b ≡ true) → count f n ≤ count h n → cond a (count f n + 1) (count f n) ≤ cond b (count h n + 1) (count h n)
    by_tests true true t l = omega (arith, l)
    by_tests true false t l = let no-more = t refl in absurd (cc)
    by_tests false true t l = omega (arith, l)
    by_tests false false t l = l

-- none passes below
count-none : (f : ℕ → Bool) (n : ℕ) → ((i : ℕ) → i < n → f i ≡ false) → count f n ≡ 0
unfolding count
count-none f zero e = refl
count-none f (suc n) e = ap (λ b. cond b (count f n + 1) (count f n)) (e n (omega arith)) ∙ count-none f n (λ i h. e i (omega (arith, h)))

count-one : (f : ℕ → Bool) (n : ℕ) → ((i j : ℕ) → f i ≡ true → f j ≡ true → i ≡ j) → count f n ≤ 1
unfolding count
count-one f zero e = omega arith
count-one f (suc n) e = by_test (f n) refl (count-one f n e)
  where
    by_test : (b : Bool) → f n ≡ b → count f n ≤ 1 → cond b (count f n + 1) (count f n) ≤ 1
    by_test true t h =
        let none-below = count-none f n (λ i l. elim (cases_Bool (f i)) [
          | inl u ↦ (let same = e i n u t in absurd (omega (arith, l, same)))
          | inr u ↦ u
        ]) in
        omega (arith, none-below)
    by_test false t h = h

-- a number that passes counts for those behind it
count-less : (f : ℕ → Bool) (i n : ℕ) → f i ≡ true → i < n → count f i < count f n
unfolding count
count-less f i zero t h = absurd (omega (arith, h))
count-less f i (suc n) t h = elim (cases_eq i n) [
  | inl same ↦
      let here : cond (f n) (count f n + 1) (count f n) ≡ count f n + 1 = ap (λ b. cond b (count f n + 1) (count f n)) (ap f (sym same) ∙ t) in
      let at : count f i ≡ count f n = ap (count f) same in
      omega (arith, here, at)
  | inr apart ↦ by_test (f n) (count-less f i n t (omega (arith, h, apart)))
]
  where
    by_test : (b : Bool) → count f i < count f n → count f i < cond b (count f n + 1) (count f n)
    by_test true l = omega (arith, l)
    by_test false l = l

-- different numbers that pass are no more than pass
count-listed : (f : ℕ → Bool) (n : ℕ) (xs : List ℕ) → ((j k : ℕ) → j < length xs → k < length xs → get_or xs j 0 ≡ get_or xs k 0 → j ≡ k) → ((k : ℕ) → k < length xs → f (get_or xs k 0) ≡ true) →
    ((k : ℕ) → k < length xs → get_or xs k 0 < n) → length xs ≤ count f n
count-listed f n xs once passes below =
    let ranks = map (count f) xs in
    let long = length-map xs (count f) in
    let at : (k d : ℕ) → k < length xs → get_or ranks k d ≡ count f (get_or xs k 0) = λ k d h. get_or-map (count f) xs k 0 d h in
    let apart : IsDistinct eqb ranks = IsDistinct-from_apart eqb ranks (λ i j d h b.
    let hj : j < length xs = omega (arith, b, long) in
    let hi : i < length xs = omega (arith, h, hj) in
    let first = at i d hi in
    let second = at j d hj in
    ne_eqb (get_or ranks i d) (get_or ranks j d) (λ e.
    elim (cases_lt (get_or xs i 0) (get_or xs j 0)) [
      | inl l ↦ (let less = count-less f (get_or xs i 0) (get_or xs j 0) (passes i hi) l in omega (arith, less, first, second, e))
      | inr l ↦ elim (cases_eq (get_or xs i 0) (get_or xs j 0)) [
        | inl same ↦ (let place = once i j hi hj same in omega (arith, h, place))
        | inr ne ↦ (let less = count-less f (get_or xs j 0) (get_or xs i 0) (passes j hj) (omega (arith, l, ne)) in omega (arith, less, first, second, e))
      ]
    ])) in
    let all : (q : ℕ) → list_any (eqb q) ranks ≡ true → q < count f n = λ q is.
    let c = Contains-from_any {eq = eqb} (λ x y e. eqb-true x y e) q ranks is in
    let place : c.0 < length xs = (let h = c.1 in omega (arith, h, long)) in
    let here : get_or ranks c.0 q ≡ q = c.2 in
    let there = at c.0 q place in
    let less = count-less f (get_or xs c.0 0) n (passes c.0 place) (below c.0 place) in
    omega (arith, here, there, less) in
    let most = length-le_from_distinct_below ranks (count f n) apart all in
    omega (arith, most, long)

-- ---- products

product-pos : (f : ℕ → ℕ) (n : ℕ) → ((q : ℕ) → 1 ≤ f q) → 1 ≤ product_below f n
product-pos f zero h = omega arith
product-pos f (suc n) h =
    let rest = product-pos f n h in
    let here = mul-le-mul_right (f n) rest in
    let one = h n in
    let once = suc-mul 0 (f n) in
    omega (arith, here, one, once)

product-more : (f h : ℕ → ℕ) (n : ℕ) → ((q : ℕ) → q < n → f q ≤ h q) → product_below f n ≤ product_below h n
product-more f h zero e = omega arith
product-more f h (suc n) e =
    let first = mul-le-mul_right (f n) (product-more f h n (λ q l. e q (omega (arith, l)))) in
    let second = mul-le-mul_left (product_below h n) (e n (omega arith)) in
    omega (arith, first, second)

-- the same without the factor of p
without : (ℕ → ℕ) → ℕ → ℕ → ℕ
without f p q = cond (eqb q p) 1 (f q)

without-above : (f : ℕ → ℕ) (p n : ℕ) → n ≤ p → product_below (without f p) n ≡ product_below f n
unfolding without
without-above f p zero h = refl
without-above f p (suc n) h =
    let other : without f p n ≡ f n = ap (λ b. cond b 1 (f n)) (ne_eqb n p (λ e. omega (arith, h, e))) in
    ap (λ a. a * without f p n) (without-above f p n (omega (arith, h))) ∙ ap (λ a. product_below f n * a) other

-- with the factor again it is the product
without-times : (f : ℕ → ℕ) (p n : ℕ) → p < n → product_below (without f p) n * f p ≡ product_below f n
unfolding without
without-times f p zero h = absurd (omega (arith, h))
without-times f p (suc n) h = elim (cases_eq p n) [
  | inl same ↦
      let own : without f p n ≡ 1 = ap (λ b. cond b 1 (f n)) (eq-eqb n p (sym same)) in
      ap (λ a. product_below (without f p) n * a * f p) own
      ∙ ap (λ a. a * f p) (mul-one (product_below (without f p) n))
      ∙ ap (λ a. a * f p) (without-above f p n (omega (arith, same)))
      ∙ ap (λ q. product_below f n * f q) same
  | inr apart ↦
      let other : without f p n ≡ f n = ap (λ b. cond b 1 (f n)) (ne_eqb n p (λ e. apart (sym e))) in
      ap (λ a. product_below (without f p) n * a * f p) other
      ∙ mul_right_comm (product_below (without f p) n) (f n) (f p)
      ∙ ap (λ a. a * f n) (without-times f p n (omega (arith, h, apart)))
]

-- ---- what the domains of a prefix come to

-- a package with so many closed states
weight : ℕ → ℕ
weight zero = 1
weight (suc zero) = 1
weight (suc (suc n)) = n + 3

weight-pos : (n : ℕ) → 1 ≤ weight n
unfolding weight
weight-pos zero = omega arith
weight-pos (suc zero) = omega arith
weight-pos (suc (suc n)) = omega arith

weight-more : (m n : ℕ) → m ≤ n → weight m ≤ weight n
unfolding weight
weight-more zero n h = weight-pos n
weight-more (suc zero) n h = weight-pos n
weight-more (suc (suc m)) zero h = absurd (omega (arith, h))
weight-more (suc (suc m)) (suc zero) h = absurd (omega (arith, h))
weight-more (suc (suc m)) (suc (suc n)) h = omega (arith, h)

weight-le : (n : ℕ) → weight n ≤ n + 1
unfolding weight
weight-le zero = omega arith
weight-le (suc zero) = omega arith
weight-le (suc (suc n)) = omega arith

weight-wide : (n : ℕ) → 2 ≤ n → weight n ≡ n + 1
unfolding weight
weight-wide zero h = absurd (omega (arith, h))
weight-wide (suc zero) h = absurd (omega (arith, h))
weight-wide (suc (suc n)) h = omega arith

share : Graph → Family → ℕ → ℕ
share g s p = weight (count (s p) (states g p))

measure : Graph → Family → ℕ
measure g s = product_below (share g s) (packages g)

share-pos : (g : Graph) (s : Family) (q : ℕ) → 1 ≤ share g s q
unfolding share
share-pos g s q = weight-pos (count (s q) (states g q))

measure-most : (g : Graph) (s : Family) → measure g s ≤ most_nodes g
unfolding measure share
measure-most g s = product-more (share g s) (λ p. states g p + 1) (packages g) (λ q h.
    let few = count-le (s q) (states g q) in
    let low = weight-le (count (s q) (states g q)) in
    omega (arith, few, low))

under-less : (g : Graph) (prefix : Prefix) (p i q j : ℕ) → under g (prefix ++ (p, i) ∷ []) q j ≡ true → (under g prefix q j ≡ true) × ((not (eqb q p) || eqb j i) ≡ true)
under-less g prefix p i q j e =
    let parts = and_parts (is_offered g q j) (agrees (prefix ++ (p, i) ∷ []) q j) e in
    let test = not (eqb q p) || eqb j i in
    let both = and_parts (agrees prefix q j) (test && true) (sym (list_all-append (λ (x : ℕ × ℕ). not (eqb q x.0) || eqb j x.1) prefix ((p, i) ∷ [])) ∙ parts.1) in
    (and_from (is_offered g q j) (agrees prefix q j) parts.0 both.0, (and_parts test true both.1).0)

-- below a choice of p, the other packages have no more closed states, and p has one
child-measure : (g : Graph) (prefix : Prefix) (p i : ℕ) (s t : Family) → IsClosureOf g (under g prefix) s → IsClosureOf g (under g (prefix ++ (p, i) ∷ [])) t →
    measure g t ≤ product_below (without (share g s) p) (packages g)
unfolding measure share without weight
child-measure g prefix p i s t a b = product-more (share g t) (without (share g s) p) (packages g) (λ q h. by_place q (eqb q p) refl)
  where
    inner : (q j : ℕ) → t q j ≡ true → InClosure g (under g (prefix ++ (p, i) ∷ [])) q j
    inner q j e = b.sound q j e

    outer : (q j : ℕ) → t q j ≡ true → s q j ≡ true
    outer q j e = a.whole q j ((below_within g (under g (prefix ++ (p, i) ∷ [])) (under g prefix) (record { at = λ r k u. (under-less g prefix p i r k u).0 })).below q j (inner q j e))

    own : (q j : ℕ) → eqb q p ≡ true → t q j ≡ true → j ≡ i
    own q j same e =
        let test = (under-less g prefix p i q j ((closure-largest g (under g (prefix ++ (p, i) ∷ []))).within q j (inner q j e))).1 in
        eqb-true j i (ap (λ v. not v || eqb j i) (sym same) ∙ test)

    by_place : (q : ℕ) (v : Bool) → eqb q p ≡ v → weight (count (t q) (states g q)) ≤ cond v 1 (weight (count (s q) (states g q)))
    by_place q true e =
        let few = count-one (t q) (states g q) (λ j k u w. own q j e u ∙ sym (own q k e w)) in
        weight-more (count (t q) (states g q)) 1 few
    by_place q false e = weight-more (count (t q) (states g q)) (count (s q) (states g q)) (count-more (t q) (s q) (states g q) (outer q))

without-pos : (g : Graph) (s : Family) (p q : ℕ) → 1 ≤ without (share g s) p q
unfolding without
without-pos g s p q = by_test (eqb q p)
  where
    by_test : (b : Bool) → 1 ≤ cond b 1 (share g s q)
    by_test true = omega arith
    by_test false = share-pos g s q

at-place : (xs : List ℕ) (k : ℕ) → k < length xs → Contains xs (get_or xs k 0)
at-place xs k h = (k, h, get_or_default xs k (get_or xs k 0) 0 h)

-- ---- bounds for pending tasks

-- no closure at the task comes to more than b
record Bounded (g : Graph) (b : ℕ) (t : Task) : Type 0 where
  pos : 1 ≤ b
  most : (s : Family) → IsClosureOf g (under g t.prefix) s → measure g s ≤ b

abbrev AllBounded : Graph → List ℕ → List Task → Type 0
AllBounded g [] [] = Unit {0}
AllBounded g [] (t ∷ ts) = ⊥
AllBounded g (b ∷ bs) [] = ⊥
AllBounded g (b ∷ bs) (t ∷ ts) = Bounded g b t × AllBounded g bs ts

abbrev total : List ℕ → ℕ
total [] = 0
total (b ∷ bs) = b + total bs

-- the bound r for each of these, before the others
abbrev each_before : List ℕ → ℕ → List ℕ → List ℕ
each_before [] r bs = bs
each_before (i ∷ is) r bs = r ∷ each_before is r bs

total-each : (is : List ℕ) (r : ℕ) (bs : List ℕ) → total (each_before is r bs) ≡ length is * r + total bs
total-each [] r bs = let none-there = zero-mul r in omega (arith, none-there)
total-each (i ∷ is) r bs = let rest = total-each is r bs in let more = suc-mul (length is) r in omega (arith, rest, more)

behind-bounded : (g : Graph) (prefix : Prefix) (p : ℕ) (s : Family) → IsClosureOf g (under g prefix) s → (order : List ℕ) (bs : List ℕ) (us : List Task) → AllBounded g bs us →
    AllBounded g (each_before order (product_below (without (share g s) p) (packages g)) bs) (behind prefix p order ++ us)
behind-bounded g prefix p s c [] bs us a = a
behind-bounded g prefix p s c (i ∷ is) bs us a = (
  record {
    pos = product-pos (without (share g s) p) (packages g) (without-pos g s p);
    most = λ t d. child-measure g prefix p i s t c d;
  },
  behind-bounded g prefix p s c is bs us a,
)

-- ---- a walk has no more nodes than the bounds of its tasks

-- what is asked of the choice: it comes with the closure at its prefix
abbrev pub Tells : Choice → Type 0
Tells choose = (g : Graph) (prefix : Prefix) (p : ℕ) (order : List ℕ) → choose g prefix p order → (s : Family) × IsClosureOf g (under g prefix) s

children-fit : (k size rest whole b w : ℕ) → k ≤ size → 1 ≤ rest → w ≡ size + 1 → rest * w ≡ whole → whole ≤ b → 1 + k * rest ≤ b
children-fit k size rest whole b w many some wide all bound =
    let up : rest * (k + 1) ≤ rest * w = mul-le-mul_left rest (omega (arith, many, wide)) in
    let apart : rest * (k + 1) ≡ rest * k + rest = ap (λ a. rest * a) (add-one k) ∙ mul-suc rest k in
    let turned = mul_comm rest k in
    omega (arith, up, apart, turned, some, all, bound)

bounds-fit : (m all k rest b : ℕ) → m ≤ all → all ≡ k + rest → 1 + k ≤ b → m + 1 ≤ b + rest
bounds-fit m all k rest b h e f = omega (arith, h, e, f)

module _ (choose : Choice) (law : IsChoice choose) (tells : Tells choose) (g : Graph) where
  -- a branch and its children come to no more than the branch's bound
  branch-fits : (prefix : Prefix) (p : ℕ) (order : List ℕ) (b : ℕ) → (c : choose g prefix p order) → ((s : Family) → IsClosureOf g (under g prefix) s → measure g s ≤ b) →
      1 + length order * product_below (without (share g (tells g prefix p order c).0) p) (packages g) ≤ b
  unfolding measure share
  branch-fits prefix p order b c most =
      let s = (tells g prefix p order c).0 in
      let closed = (tells g prefix p order c).1 in
      let size = count (s p) (states g p) in
      let many : length order ≤ size = count-listed (s p) (states g p) order (law.once g prefix p order c)
      (λ k h. closed.whole p (get_or order k 0) (law.closed g prefix p order c (get_or order k 0) (at-place order k h)))
      (λ k h. closed-small g prefix p (get_or order k 0) (law.closed g prefix p order c (get_or order k 0) (at-place order k h))) in
      let two = law.several g prefix p order c in
      children-fit (length order) size (product_below (without (share g s) p) (packages g)) (product_below (share g s) (packages g)) b (weight size)
      many (product-pos (without (share g s) p) (packages g) (without-pos g s p)) (weight-wide size (omega (arith, two, many))) (without-times (share g s) p (packages g) (law.known g prefix p order c)) (most s closed)

  visit-fits : (t : Task) (x : Node) (cs us : List Task) (b m : ℕ) (bs : List ℕ) → Visits g choose t x cs → AllBounded g (b ∷ bs) (t ∷ us) → ((more : List ℕ) → AllBounded g more (cs ++ us) → m ≤ total more) → m + 1 ≤ total (b ∷ bs)
  visit-fits t x cs us b m bs (dead d) (own, others) fits =
      let rest = fits bs (subst (λ z. AllBounded g bs (z ++ us)) (sym d.children_are) others) in
      let some = own.pos in
      omega (arith, rest, some)
  visit-fits t x cs us b m bs (open_at d) (own, others) fits =
      let told = tells g t.prefix d.place d.order d.chosen in
      let part = product_below (without (share g told.0) d.place) (packages g) in
      let more = each_before d.order part bs in
      let rest = fits more (subst (λ z. AllBounded g more (z ++ us)) (sym d.children_are) (behind-bounded g t.prefix d.place told.0 told.1 d.order bs us others)) in
      bounds-fit m (total more) (length d.order * part) (total bs) b rest (total-each d.order part bs) (branch-fits t.prefix d.place d.order b d.chosen own.most)

  walk-fits : (nodes : List Node) (ts left : List Task) (bs : List ℕ) → Walks g choose ts nodes left → AllBounded g bs ts → length nodes ≤ total bs
  walk-fits [] ts left bs w a = omega arith
  walk-fits (x ∷ xs) ts left [] (t, us, cs, e, v, w) a = absurd (subst (AllBounded g []) e a)
  walk-fits (x ∷ xs) ts left (b ∷ bs) (t, us, cs, e, v, w) a =
      let all = visit-fits t x cs us b (length xs) bs v (subst (AllBounded g (b ∷ bs)) e a) (λ more c. walk-fits xs (cs ++ us) left more w c) in
      omega (arith, all)

  walk-few : (nodes : List Node) (left : List Task) → Walks g choose (root ∷ []) nodes left → length nodes ≤ most_nodes g
  walk-few nodes left w =
      let all : AllBounded g (most_nodes g ∷ []) (root ∷ []) = (
        record {
          pos = product-pos (λ p. states g p + 1) (packages g) (λ q. omega arith);
          most = λ s c. measure-most g s;
        },
        tt,
      ) in
      let fits = walk-fits nodes (root ∷ []) left (most_nodes g ∷ []) w all in
      omega (arith, fits)

pub stays-within : (choose : Choice) → IsChoice choose → Tells choose → StaysWithin choose
stays-within choose law tells = record {
  finds = λ g budget chosen nodes f. walk-few choose law tells g nodes (f.task ∷ f.rest) f.walks;
  ends = λ g budget nodes f. walk-few choose law tells g nodes [] f.walks;
  spends = λ g budget nodes f.
      let more = walk-few choose law tells g (nodes ++ f.next ∷ []) (f.children ++ f.rest) (walks-more g choose nodes (root ∷ []) f.task f.rest f.children f.next f.walks f.visits) in
      let long = length-append nodes (f.next ∷ []) in
      let spent = f.spent in
      omega (arith, more, long, spent);
}

pub beliefs-stay : WalkStaysWithin
beliefs-stay = λ f. stays-within (BeliefChoice f) (belief-lawful f) (λ g prefix p order c. (c.closed, c.closure))
