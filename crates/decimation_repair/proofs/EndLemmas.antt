-- A walk that ends without a solution is a tree that refutes.
use Rattle.std.proofs.Common.{◌≡◌, ℕ, zero, suc, ◌<◌, Bool, true, false, not, ◌||◌, List, [], ◌∷◌, ◌++◌, length, get_or, refl, sym, ◌∙◌, ap, subst, arith, inl, inr, eqb, Some, None}
use Rattle.std.proofs.lemmas.Bool.{cases_eq, and_parts, and_from, or_cases, eqb-true, eq-eqb, cases_Bool}
use Rattle.std.proofs.lemmas.Bool.Decides.{eqb_tells}
use Rattle.std.proofs.lemmas.List.Folds.{list_all-append}
use Rattle.std.proofs.lemmas.List.{get_or_default}
use Rattle.std.specs.List.{Contains}
use Rattle.version_graph.specs.Graph.{Graph, packages, states, is_offered, IsSolution}
use Rattle.version_graph.specs.Family.{InClosure, agrees, under}
use Rattle.version_graph.proofs.FamilyLemmas.{closure-largest, below_within, chosen_closed}
use Rattle.version_graph.proofs.TrailLemmas.{offered_known}
use Rattle.graph_pruning.specs.Pruned.{Pruning, IsUnpruned}
use Rattle.refutation_log.specs.Tree.{Tree, Children, leaf, branch, done, child, has_standing, count_of, preorder, preorders}
use Rattle.refutation_log.specs.Refutes.{Prefix, Refutes, EachRefutes, is_chosen}
use Rattle.refutation_log.specs.declared.node.Node.{Node}
use Rattle.refutation_log.specs.declared.node.NodeKind.TheVariants.{Branch}
use Rattle.decimation_repair.specs.Laws.{IsRefutedBy}
use Rattle.decimation_repair.specs.Walk.{Task, Choice, root, behind, Branches, Visits, dead, open_at, Walks, Ends, IsChoice}

-- ---- a forest: one refuting tree for each pending task, one after another in pre-order

abbrev Grown : Graph → Pruning → List Task → List Node → Type 0
Grown g own [] nodes = nodes ≡ []
Grown g own (t ∷ ts) nodes = (w : Tree) × (more : List Node) × (nodes ≡ preorder t.state w ++ more) × Refutes g own t.prefix w × Grown g own ts more

-- the trees of the first tasks become the children of a branch
record Grafted (g : Graph) (own : Pruning) (prefix : Prefix) (p : ℕ) (order : List ℕ) (us : List Task) (nodes : List Node) : Type 0 where
  children : Children
  more : List Node
  listed : nodes ≡ preorders children ++ more
  each : EachRefutes g own prefix p children
  count : count_of children ≡ length order
  whole : (i : ℕ) → Contains order i → has_standing children (own.standing p) (own.standing p i) ≡ true
  rest : Grown g own us more

append_assoc : {X : Type 0} (xs ys zs : List X) → (xs ++ (ys ++ zs)) ≡ ((xs ++ ys) ++ zs)
append_assoc [] ys zs = refl
append_assoc (x ∷ xs) ys zs = ap (λ l. x ∷ l) (append_assoc xs ys zs)

or-right : (a b : Bool) → b ≡ true → (a || b) ≡ true
or-right true b e = refl
or-right false b e = e

-- which place of a longer list
whole-more : (stands : ℕ → ℕ) (i : ℕ) (is : List ℕ) (w : Tree) (cs : Children) → ((j : ℕ) → Contains is j → has_standing cs stands (stands j) ≡ true) → (j : ℕ) → Contains (i ∷ is) j →
    has_standing (child i w cs) stands (stands j) ≡ true
whole-more stands i is w cs f j (zero, b, e) = ap (λ v. v || has_standing cs stands (stands j)) (eq-eqb (stands i) (stands j) (ap stands e))
whole-more stands i is w cs f j (suc k, b, e) = or-right (eqb (stands i) (stands j)) (has_standing cs stands (stands j)) (f j (k, omega (arith, b), e))

graft : (g : Graph) (own : Pruning) (prefix : Prefix) (p : ℕ) (order : List ℕ) (us : List Task) (nodes : List Node) → ((i : ℕ) → Contains order i → i < states g p) →
    Grown g own (behind prefix p order ++ us) nodes → Grafted g own prefix p order us nodes
graft g own prefix p [] us nodes small f = record {
  children = done;
  more = nodes;
  listed = refl;
  each = tt;
  count = refl;
  whole = λ i c. let b = c.1 in absurd (omega (arith, b));
  rest = f;
}
graft g own prefix p (i ∷ is) us nodes small (w, more, listed, refutes, f) =
    let r = graft g own prefix p is us more (λ j c. small j (suc c.0, omega (arith, c.1), c.2)) f in
    record {
      children = child i w r.children;
      more = r.more;
      listed = listed ∙ ap (λ l. preorder (Some i) w ++ l) r.listed ∙ append_assoc (preorder (Some i) w) (preorders r.children) r.more;
      each = (small i (zero, omega arith, refl), refutes, r.each);
      count = (let c = r.count in omega (arith, c));
      whole = whole-more (own.standing p) i is w r.children r.whole;
      rest = r.rest;
    }

-- ---- a package with two closed states isn't chosen yet

one-state : (p i j : ℕ) (x : ℕ × ℕ) → eqb p x.0 ≡ true → (not (eqb p x.0) || eqb i x.1) ≡ true → (not (eqb p x.0) || eqb j x.1) ≡ true → i ≡ j
one-state p i j x here a b =
    let s : eqb i x.1 ≡ true = ap (λ v. not v || eqb i x.1) (sym here) ∙ a in
    let t : eqb j x.1 ≡ true = ap (λ v. not v || eqb j x.1) (sym here) ∙ b in
    eqb-true i x.1 s ∙ sym (eqb-true j x.1 t)

chosen-later : (p : ℕ) (x : ℕ × ℕ) (xs : Prefix) → eqb p x.0 ≡ false → is_chosen (x ∷ xs) p ≡ true → is_chosen xs p ≡ true
chosen-later p x xs other c = elim (or_cases (eqb x.0 p) (is_chosen xs p) c) [
  | inl here ↦ (let same = eq-eqb p x.0 (sym (eqb-true x.0 p here)) in absurd (cc))
  | inr later ↦ later
]

pub agree-at : (prefix : Prefix) (p i : ℕ) → is_chosen prefix p ≡ true → agrees prefix p i ≡ true → (j : ℕ) → agrees prefix p j ≡ true → i ≡ j
agree-at [] p i c a j b = absurd (cc)
agree-at (x ∷ xs) p i c a j b =
    let left = and_parts (not (eqb p x.0) || eqb i x.1) (agrees xs p i) a in
    let right = and_parts (not (eqb p x.0) || eqb j x.1) (agrees xs p j) b in
    elim (cases_Bool (eqb p x.0)) [
      | inl here ↦ one-state p i j x here left.0 right.0
      | inr other ↦ agree-at xs p i (chosen-later p x xs other c) left.1 j right.1
    ]

at-place : (xs : List ℕ) (k : ℕ) → k < length xs → Contains xs (get_or xs k 0)
at-place xs k h = (k, h, get_or_default xs k (get_or xs k 0) 0 h)

pub not-chosen : (choose : Choice) → IsChoice choose → (g : Graph) (prefix : Prefix) (p : ℕ) (order : List ℕ) → choose g prefix p order → is_chosen prefix p ≡ false
not-chosen choose law g prefix p order c = elim (cases_Bool (is_chosen prefix p)) [
  | inl is ↦
      let two = law.several g prefix p order c in
      let fits : (i : ℕ) → InClosure g (under g prefix) p i → agrees prefix p i ≡ true =
      λ i k. (and_parts (is_offered g p i) (agrees prefix p i) ((closure-largest g (under g prefix)).within p i k)).1 in
      let first = fits (get_or order 0 0) (law.closed g prefix p order c (get_or order 0 0) (at-place order 0 (omega (arith, two)))) in
      let second = fits (get_or order 1 0) (law.closed g prefix p order c (get_or order 1 0) (at-place order 1 (omega (arith, two)))) in
      let same = agree-at prefix p (get_or order 0 0) is first (get_or order 1 0) second in
      let e = law.once g prefix p order c 0 1 (omega (arith, two)) (omega (arith, two)) same in
      absurd (omega (arith, e))
  | inr out ↦ out
]

under-first : (g : Graph) (prefix : Prefix) (p i : ℕ) → under g prefix p i ≡ true → under g [] p i ≡ true
under-first g prefix p i e = and_from (is_offered g p i) true (and_parts (is_offered g p i) (agrees prefix p i) e).0 refl

pub closed-small : (g : Graph) (prefix : Prefix) (p i : ℕ) → InClosure g (under g prefix) p i → i < states g p
closed-small g prefix p i k = (offered_known g p i (and_parts (is_offered g p i) (agrees prefix p i) ((closure-largest g (under g prefix)).within p i k)).0).state

-- every package of the walk's branches is kept: from a state that is left each package has one
kept-here : (g : Graph) (own : Pruning) → IsUnpruned g own → (prefix : Prefix) (p i q : ℕ) → InClosure g (under g prefix) p i → q < packages g → own.kept q ≡ true
kept-here g own u prefix p i q k known =
    let low = (below_within g (under g prefix) (under g []) (record { at = λ r j e. under-first g prefix r j e })).below p i k in
    u.all (record {
      some = λ r there. elim (cases_eq r p) [
        | inl same ↦ (i, u.closure.whole r i (subst (λ x. InClosure g (under g []) x i) (sym same) low))
        | inr ne ↦ (let m = (closure-largest g (under g [])).meets p i r low there ne in (m.0, u.closure.whole r m.0 m.1))
      ];
    }) q known

grow-branch : (choose : Choice) → IsChoice choose → (g : Graph) (own : Pruning) → IsUnpruned g own → (t : Task) (x : Node) (cs us : List Task) (xs : List Node) → Branches g choose t x cs →
    Grown g own (cs ++ us) xs → Grown g own (t ∷ us) (x ∷ xs)
grow-branch choose law g own u t x cs us xs b f =
    let p = b.place in
    let two = law.several g t.prefix p b.order b.chosen in
    let first = law.closed g t.prefix p b.order b.chosen (get_or b.order 0 0) (at-place b.order 0 (omega (arith, two))) in
    let r = graft g own t.prefix p b.order us xs (λ i c. closed-small g t.prefix p i (law.closed g t.prefix p b.order b.chosen i c)) (subst (λ z. Grown g own (z ++ us) xs) b.children_are f) in
    let node : x ≡ record { state = t.state; kind = Branch p (count_of r.children) } =
    b.node_is ∙ ap (λ n. record { state = t.state; kind = Branch p n }) (sym r.count) in (
      branch p r.children,
      r.more,
      ap (λ n. n ∷ xs) node ∙ ap (λ l. record { state = t.state; kind = Branch p (count_of r.children) } ∷ l) r.listed,
      (
        law.known g t.prefix p b.order b.chosen,
        kept-here g own u t.prefix p (get_or b.order 0 0) p first (law.known g t.prefix p b.order b.chosen),
        not-chosen choose law g t.prefix p b.order b.chosen,
        record { covers = λ i k. r.whole i (law.whole g t.prefix p b.order b.chosen i k) },
        r.each,
      ),
      r.rest,
    )

grow-step : (choose : Choice) → IsChoice choose → (g : Graph) (own : Pruning) → IsUnpruned g own → (t : Task) (x : Node) (cs us : List Task) (xs : List Node) → Visits g choose t x cs →
    Grown g own (cs ++ us) xs → Grown g own (t ∷ us) (x ∷ xs)
grow-step choose law g own u t x cs us xs (dead v) f =
    (leaf, xs, ap (λ n. n ∷ xs) v.node_is, v.empty, subst (λ z. Grown g own (z ++ us) xs) v.children_are f)
grow-step choose law g own u t x cs us xs (open_at v) f = grow-branch choose law g own u t x cs us xs v f

pub grow : (choose : Choice) → IsChoice choose → (g : Graph) (own : Pruning) → IsUnpruned g own → (nodes : List Node) (ts : List Task) → Walks g choose ts nodes [] → Grown g own ts nodes
grow choose law g own u [] ts e = subst (λ z. Grown g own z []) (sym e) refl
grow choose law g own u (x ∷ xs) ts (t, us, cs, e, v, w) = subst (λ z. Grown g own z (x ∷ xs)) (sym e) (grow-step choose law g own u t x cs us xs v (grow choose law g own u xs (cs ++ us) w))

append-none : {X : Type 0} (xs : List X) → (xs ++ []) ≡ xs
append-none [] = refl
append-none (x ∷ xs) = ap (λ l. x ∷ l) (append-none xs)

pub end-refutes : (choose : Choice) → IsChoice choose → (g : Graph) (own : Pruning) → IsUnpruned g own → (budget : ℕ) (nodes : List Node) → Ends g choose budget nodes → IsRefutedBy g own nodes
end-refutes choose law g own u budget nodes e =
    let f = grow choose law g own u nodes (root ∷ []) e.walks in
    record {
      tree = f.0;
      listed = f.2 ∙ ap (λ l. preorder None f.0 ++ l) f.4 ∙ append-none (preorder None f.0);
      refutes = f.3;
    }

-- ---- a solution is followed to a task that is left

abbrev Follows : List ℕ → Prefix → Type 0
Follows chosen prefix = (p : ℕ) → agrees prefix p (get_or chosen p 0) ≡ true

abbrev NoneFollows : List ℕ → List Task → Type 0
NoneFollows chosen [] = Unit {0}
NoneFollows chosen (t ∷ ts) = (Follows chosen t.prefix → ⊥) × NoneFollows chosen ts

none-later : (chosen : List ℕ) (xs ys : List Task) → NoneFollows chosen (xs ++ ys) → NoneFollows chosen ys
none-later chosen [] ys n = n
none-later chosen (x ∷ xs) ys n = none-later chosen xs ys n.1

one-state-more : (chosen : List ℕ) (prefix : Prefix) (p i : ℕ) → i ≡ get_or chosen p 0 → Follows chosen prefix → Follows chosen (prefix ++ (p, i) ∷ [])
one-state-more chosen prefix p i e f q =
    list_all-append (λ (c : ℕ × ℕ). not (eqb q c.0) || eqb (get_or chosen q 0) c.1) prefix ((p, i) ∷ [])
    ∙ and_from (agrees prefix q (get_or chosen q 0)) _ (f q) (and_from (not (eqb q p) || eqb (get_or chosen q 0) i) true (here q) refl)
  where
    here : (q : ℕ) → (not (eqb q p) || eqb (get_or chosen q 0) i) ≡ true
    here q = elim (eqb_tells q p) [
      | inl s ↦ or-right (not (eqb q p)) (eqb (get_or chosen q 0) i) (eq-eqb (get_or chosen q 0) i (ap (λ x. get_or chosen x 0) s.1 ∙ sym e))
      | inr s ↦ ap (λ v. not v || eqb (get_or chosen q 0) i) s.0
    ]

none-behind : (chosen : List ℕ) (prefix : Prefix) (p : ℕ) (order : List ℕ) (us : List Task) → NoneFollows chosen (behind prefix p order ++ us) → Follows chosen prefix →
    Contains order (get_or chosen p 0) → ⊥
none-behind chosen prefix p [] us n f (k, b, e) = absurd (omega (arith, b))
none-behind chosen prefix p (i ∷ is) us n f (zero, b, e) = n.0 (one-state-more chosen prefix p i e f)
none-behind chosen prefix p (i ∷ is) us n f (suc k, b, e) = none-behind chosen prefix p is us n.1 f (k, omega (arith, b), e)

none-step : (choose : Choice) → IsChoice choose → (g : Graph) (chosen : List ℕ) → IsSolution g chosen → (t : Task) (x : Node) (cs us : List Task) → Visits g choose t x cs →
    NoneFollows chosen (cs ++ us) → NoneFollows chosen (t ∷ us)
none-step choose law g chosen s t x cs us (dead v) n =
    (λ f. v.empty.none (get_or chosen v.empty.place 0) (chosen_closed g t.prefix chosen s (λ p known. f p) v.empty.place v.empty.known), none-later chosen cs us n)
none-step choose law g chosen s t x cs us (open_at v) n =
    let p = v.place in (
      λ f. none-behind chosen t.prefix p v.order us (subst (λ z. NoneFollows chosen (z ++ us)) v.children_are n) f
          (law.whole g t.prefix p v.order v.chosen (get_or chosen p 0) (chosen_closed g t.prefix chosen s (λ q known. f q) p (law.known g t.prefix p v.order v.chosen))),
      none-later chosen cs us n,
    )

none-walk : (choose : Choice) → IsChoice choose → (g : Graph) (chosen : List ℕ) → IsSolution g chosen → (nodes : List Node) (ts : List Task) → Walks g choose ts nodes [] → NoneFollows chosen ts
none-walk choose law g chosen s [] ts e = subst (NoneFollows chosen) (sym e) tt
none-walk choose law g chosen s (x ∷ xs) ts (t, us, cs, e, v, w) = subst (NoneFollows chosen) (sym e) (none-step choose law g chosen s t x cs us v (none-walk choose law g chosen s xs (cs ++ us) w))

pub end-leaves-none : (choose : Choice) → IsChoice choose → (g : Graph) (budget : ℕ) (nodes : List Node) → Ends g choose budget nodes → (chosen : List ℕ) → IsSolution g chosen → ⊥
end-leaves-none choose law g budget nodes e chosen s = (none-walk choose law g chosen s nodes (root ∷ []) e.walks).0 (λ p. refl)
