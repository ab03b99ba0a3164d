-- Where the walk stands: choices and notes that agree tell the same domains and the same tasks.
use Rattle.std.proofs.Common.{◌≡◌, ◌≢◌, ℕ, zero, suc, ◌<◌, ◌≤◌, Bool, true, false, List, [], ◌∷◌, ◌++◌, length, get_or, take, drop, refl, sym, ◌∙◌, ap, subst, arith, inl, inr, cond}
use Rattle.std.proofs.lemmas.Bool.{cases_lt, and_parts}
use Rattle.std.proofs.lemmas.List.{get_or-take}
use Rattle.std.proofs.lemmas.List.Sums.{sum_by-cons}
use Rattle.version_graph.specs.Graph.{Graph, packages, is_offered, IsKnown}
use Rattle.version_graph.specs.Family.{Family, InClosure, HasEmpty, IsFilled, IsClosureOf, LiesBetween, agrees, under}
use Rattle.version_graph.specs.Domain.{Rows, has, size_of, count_true}
use Rattle.version_graph.specs.Noted.{left_by}
use Rattle.version_graph.proofs.TrailLemmas.{offered_known}
use Rattle.version_graph.proofs.RowLemmas.{none_true, some_true, only_one}
use Rattle.version_graph.proofs.FamilyLemmas.{closes_alike, closure-largest}
use Rattle.refutation_log.specs.Refutes.{Prefix}
use Rattle.refutation_log.specs.declared.node.Node.{Node}
use Rattle.decimation_repair.specs.Walk.{Task, Choice, behind, Visits, Walks, IsSolved}
use Rattle.decimation_repair.specs.Path.{nothing, chosen_at, prefix_of, choices_before, domains_at, order_at, IsChosenAt, untried, pending}
use Rattle.decimation_repair.specs.declared.path.Chosen.{Chosen}

-- ---- one task more is visited

pub walks-more : (g : Graph) (choose : Choice) (xs : List Node) (ts : List Task) (t : Task) (us cs : List Task) (x : Node) → Walks g choose ts xs (t ∷ us) → Visits g choose t x cs →
    Walks g choose ts (xs ++ x ∷ []) (cs ++ us)
walks-more g choose [] ts t us cs x e v = (t, us, cs, e, v, refl)
walks-more g choose (y ∷ ys) ts t us cs x (a, b, ds, e, w, r) v = (a, b, ds, e, w, walks-more g choose ys (ds ++ b) t us cs x r v)

-- ---- the front of a list

pub take-front : {X : Type 0} (d n : ℕ) (xs : List X) → d ≤ n → take d xs ≡ take d (take n xs)
take-front zero n xs h = refl
take-front (suc d) zero xs h = absurd (omega (arith, h))
take-front (suc d) (suc n) [] h = refl
take-front (suc d) (suc n) (x ∷ xs) h = ap (λ l. x ∷ l) (take-front d n xs (omega (arith, h)))

-- lists that agree up to n agree up to less
pub front-less : {X : Type 0} (d n : ℕ) (xs ys : List X) → d ≤ n → take n ys ≡ take n xs → take d ys ≡ take d xs
front-less d n xs ys h e = take-front d n ys h ∙ ap (take d) e ∙ sym (take-front d n xs h)

-- ---- choices and notes that agree

-- the first n choices are the same, the notes agree up to the mark of each, and the orders of their packages are the same
pub record Agree (path other : List Chosen) (notes more : List (ℕ × ℕ)) (orders others : List (List ℕ)) (n : ℕ) : Type 0 where
  pub front : take n other ≡ take n path
  pub marks : (d : ℕ) → d < n → take (chosen_at path d).mark more ≡ take (chosen_at path d).mark notes
  pub rows : (d : ℕ) → d < n → get_or others (chosen_at path d).package [] ≡ get_or orders (chosen_at path d).package []

module _ (path other : List Chosen) (notes more : List (ℕ × ℕ)) (orders others : List (List ℕ)) (n : ℕ) (a : Agree path other notes more orders others n) where
  pub same-chosen : (d : ℕ) → d < n → chosen_at other d ≡ chosen_at path d
  same-chosen d h = sym (get_or-take n other d nothing h) ∙ ap (λ l. get_or l d nothing) a.front ∙ get_or-take n path d nothing h

  pub same-before : (d : ℕ) → d ≤ n → choices_before other d ≡ choices_before path d
  same-before d h = ap prefix_of (front-less d n path other h a.front)

  pub same-domains : (g : Graph) (d : ℕ) → d < n → domains_at g other more d ≡ domains_at g path notes d
  same-domains g d h = ap (λ (c : Chosen). left_by g (take c.mark more)) (same-chosen d h) ∙ ap (left_by g) (a.marks d h)

  pub same-order : (d : ℕ) → d < n → order_at others other d ≡ order_at orders path d
  same-order d h = ap (λ (c : Chosen). get_or others c.package []) (same-chosen d h) ∙ a.rows d h

  pub same-pending : (d : ℕ) → d ≤ n → pending others other d ≡ pending orders path d
  same-pending zero h = refl
  same-pending (suc d) h =
      let below : d < n = omega (arith, h) in
      let front = same-before d (omega (arith, h)) in
      let here = same-chosen d below in
      let rest = same-pending d (omega (arith, h)) in
      ap (λ x. behind x (chosen_at other d).package (untried others other d) ++ pending others other d) front
      ∙ ap (λ (c : Chosen). behind (choices_before path d) c.package (drop c.tried (get_or others c.package [])) ++ pending others other d) here
      ∙ ap (λ (l : List ℕ). behind (choices_before path d) (chosen_at path d).package (drop (chosen_at path d).tried l) ++ pending others other d) (a.rows d below)
      ∙ ap (λ l. behind (choices_before path d) (chosen_at path d).package (untried orders path d) ++ l) rest

  pub same-at : (choose : Choice) (g : Graph) (d : ℕ) → d < n → (chosen_at path d).mark ≤ length more → IsChosenAt choose g orders path notes d → IsChosenAt choose g others other more d
  same-at choose g d h low c =
      let front = same-before d (omega (arith, h)) in
      let here = same-chosen d h in
      let left = same-domains g d h in
      record {
        mark = subst (λ (x : Chosen). x.mark ≤ length more) (sym here) low;
        closed = subst (λ x. IsClosureOf g (under g x) (domains_at g other more d)) (sym front) (subst (λ f. IsClosureOf g (under g (choices_before path d)) f) (sym left) c.closed);
        chosen = subst (λ x. choose g x (chosen_at other d).package (order_at others other d)) (sym front)
            (subst (λ (x : Chosen). choose g (choices_before path d) x.package (order_at others other d)) (sym here)
            (subst (λ l. choose g (choices_before path d) (chosen_at path d).package l) (sym (same-order d h)) c.chosen));
      }

-- ---- the domains by their notes

-- domains that a trail holds are what its notes leave
pub same-family : (g : Graph) (f s h : Family) → ((p i : ℕ) → h p i ≡ s p i) → IsClosureOf g f s → IsClosureOf g f h
same-family g f s h e c = record { sound = λ p i t. c.sound p i (sym (e p i) ∙ t); whole = λ p i k. e p i ∙ c.whole p i k }

-- the closure of domains that lie between is the closure
pub between-closed : (g : Graph) (f d s : Family) → LiesBetween g f d → IsClosureOf g d s → IsClosureOf g f s
between-closed g f d s b c =
    let alike = closes_alike g f d b in
    record { sound = λ p i t. alike.1.below p i (c.sound p i t); whole = λ p i k. c.whole p i (alike.0.below p i k) }

pub between-empty : (g : Graph) (f d : Family) → LiesBetween g f d → HasEmpty g d → HasEmpty g f
between-empty g f d b h = record { place = h.place; known = h.known; none = λ i k. h.none i ((closes_alike g f d b).0.below h.place i k) }

pub filled-not-empty : (g : Graph) (f s : Family) → IsClosureOf g f s → IsFilled g s → HasEmpty g f → ⊥
filled-not-empty g f s c fill h = let i = fill.some h.place h.known in h.none i.0 (c.sound h.place i.0 i.1)

-- ---- domains of one state, and packages with several

pub known-under : (g : Graph) (prefix : Prefix) (p i : ℕ) → InClosure g (under g prefix) p i → IsKnown g p i
known-under g prefix p i k = offered_known g p i (and_parts (is_offered g p i) (agrees prefix p i) ((closure-largest g (under g prefix)).within p i k)).0

pub some-left : (d : Rows) (p i : ℕ) → has d p i ≡ true → 0 < size_of d p
unfolding has size_of
some-left d p i t = elim (cases_lt 0 (size_of d p)) [
  | inl s ↦ s
  | inr z ↦ (let none = none_true (get_or d p []) (omega (arith, z)) i in absurd (cc))
]

-- a domain of at most one state has only that
pub one-left : (d : Rows) (p i j : ℕ) → size_of d p ≤ 1 → has d p i ≡ true → has d p j ≡ true → i ≡ j
one-left d p i j few a b =
    let some = some-left d p i a in
    let only = only_one d p (omega (arith, some, few)) in
    only.1.alone i a ∙ sym (only.1.alone j b)

pub solved-here : (g : Graph) (prefix : Prefix) (d : Rows) (chosen : List ℕ) → IsClosureOf g (under g prefix) (has d) → ((p : ℕ) → p < packages g → size_of d p ≤ 1) →
    length chosen ≡ packages g → ((p : ℕ) → p < packages g → has d p (get_or chosen p 0) ≡ true) → IsSolved g prefix chosen
solved-here g prefix d chosen c few each left = record {
  each = each;
  here = λ p known. c.sound p (get_or chosen p 0) (left p known);
  alone = λ p i k.
      let known = (known-under g prefix p i k).known in
      one-left d p i (get_or chosen p 0) (few p known) (c.whole p i k) (left p known);
}

two_true : (xs : List Bool) → 2 ≤ count_true xs → (i : ℕ) × (j : ℕ) × (i ≢ j) × (get_or xs i false ≡ true) × (get_or xs j false ≡ true)
two_true [] h = absurd (omega (arith, h))
two_true (true ∷ xs) h = let r = some_true xs (let c = sum_by-cons (λ (x : Bool). cond x 1 0) true xs in omega (arith, c, h)) in (zero, suc r.0, (λ e. cc), refl, r.1)
two_true (false ∷ xs) h = let r = two_true xs (let c = sum_by-cons (λ (x : Bool). cond x 1 0) false xs in omega (arith, c, h)) in (suc r.0, suc r.1, (λ e. r.2 (omega (arith, e))), r.3, r.4)

-- two states left are two places
pub several-left : (d : Rows) (p : ℕ) → 2 ≤ size_of d p → (i : ℕ) × (j : ℕ) × (i ≢ j) × (has d p i ≡ true) × (has d p j ≡ true)
unfolding has size_of
several-left d p wide = two_true (get_or d p []) wide

-- two states left are two closed states
pub several-closed : (g : Graph) (f : Family) (d : Rows) (p : ℕ) → IsClosureOf g f (has d) → 2 ≤ size_of d p → (i : ℕ) × (j : ℕ) × (i ≢ j) × InClosure g f p i × InClosure g f p j
several-closed g f d p c wide = let t = several-left d p wide in (t.0, t.1, t.2, c.sound p t.0 t.3, c.sound p t.1 t.4)
