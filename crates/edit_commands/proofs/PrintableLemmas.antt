-- The logs of a search are such as a text can tell: so are the nodes of a walk, and to write them by the numbers before pruning
-- keeps that.
use Rattle.std.proofs.Common.{◌≡◌, ℕ, zero, suc, ◌+◌, ◌<◌, ◌≤◌, Bool, true, false, List, [], ◌∷◌, ◌++◌, length, get_or, take, Option, Some, None, refl, sym, ◌∙◌, ap, subst, arith, inl, inr, eqb}
use Rattle.std.specs.Prelude.{◌^◌, Contains}
use Rattle.std.proofs.lemmas.Bool.{cases_lt, and_parts, eqb-true, ne_eqb}
use Rattle.std.proofs.lemmas.List.{get_or_default, get_or_past}
use Rattle.std.proofs.lemmas.List.Sums.{get_or-le-sum_by}
use Rattle.std.proofs.lemmas.Map.Steps.{length-le_from_distinct_below}
use Rattle.std.proofs.lemmas.Map.Keys.{IsDistinct-from_apart}
use Rattle.std.proofs.lemmas.Map.Views.{Contains-from_any}
use Rattle.pkg_world.specs.Listing.{Listing}
use Rattle.version_graph.specs.Graph.{Graph, IsGraph, packages, states, is_offered, OfferedIsKnown}
use Rattle.version_graph.specs.Family.{InClosure, agrees, under, ClosureIsLargest}
use Rattle.version_graph.specs.Part.{Part, package_of, states_of, state_of}
use Rattle.graph_pruning.specs.Pruned.{Pruning}
use Rattle.graph_pruning.specs.Reduced.{IsReduction}
use Rattle.refutation_log.specs.Refutes.{Prefix}
use Rattle.refutation_log.specs.Renumbered.{renumbered, renumbered_each}
use Rattle.refutation_log.specs.Tree.{Tree, Children, leaf, branch, done, child, count_of, preorder, preorders}
use Rattle.refutation_log.specs.declared.node.Node.{Node}
use Rattle.refutation_log.specs.declared.node.NodeKind.TheVariants.{Leaf, Branch}
use Rattle.log_text.specs.Text.{HasState, IsKind, IsNode, AreNodes, IsPrintable}
use Rattle.decimation_repair.specs.Choice.{BeliefChoice}
use Rattle.decimation_repair.specs.Laws.{ChoiceIsLawful}
use Rattle.decimation_repair.specs.Walk.{Choice, IsChoice, Task, root, behind, Visits, dead, open_at, Walks}
use Rattle.instance_search.specs.Searched.{Searches, at_once, by_walk}
use Rattle.instance_search.specs.Written.{IsWritten}
use Rattle.instance_search.specs.declared.answer.Answer.TheVariants.{Empty, Spent}

-- ---- nodes that are printable wherever others are

abbrev pub MovesState : Option ℕ → Option ℕ → Type 0
MovesState s t = (first : Bool) → HasState first s → HasState first t

abbrev pub MovesNode : Node → Node → Type 0
MovesNode x y = (first : Bool) → IsNode first x → IsNode first y

abbrev pub Moves : List Node → List Node → Type 0
Moves [] [] = Unit {0}
Moves [] (y ∷ ys) = ⊥
Moves (x ∷ xs) [] = ⊥
Moves (x ∷ xs) (y ∷ ys) = MovesNode x y × Moves xs ys

moves-append : (vs ws xs ys : List Node) → Moves vs ws → Moves xs ys → Moves (vs ++ xs) (ws ++ ys)
moves-append [] [] xs ys h k = k
moves-append [] (b ∷ ws) xs ys h k = absurd h
moves-append (a ∷ vs) [] xs ys h k = absurd h
moves-append (a ∷ vs) (b ∷ ws) xs ys h k = (h.0, moves-append vs ws xs ys h.1 k)

moves-take : (n : ℕ) (xs ys : List Node) → Moves xs ys → Moves (take n xs) (take n ys)
moves-take zero xs ys h = tt
moves-take (suc n) [] [] h = tt
moves-take (suc n) [] (y ∷ ys) h = absurd h
moves-take (suc n) (x ∷ xs) [] h = absurd h
moves-take (suc n) (x ∷ xs) (y ∷ ys) h = (h.0, moves-take n xs ys h.1)

moves-nodes : (first : Bool) (xs ys : List Node) → Moves xs ys → AreNodes first xs → AreNodes first ys
moves-nodes first [] [] h are = tt
moves-nodes first [] (y ∷ ys) h are = absurd h
moves-nodes first (x ∷ xs) [] h are = absurd h
moves-nodes first (x ∷ xs) (y ∷ ys) h are = (h.0 first are.0, moves-nodes false xs ys h.1 are.1)

moves-length : (xs ys : List Node) → Moves xs ys → length xs ≡ length ys
moves-length [] [] h = refl
moves-length [] (y ∷ ys) h = absurd h
moves-length (x ∷ xs) [] h = absurd h
moves-length (x ∷ xs) (y ∷ ys) h = ap suc (moves-length xs ys h.1)

-- ---- a tree by the numbers before pruning

same-count : (b : Part) (p : ℕ) (cs : Children) → count_of (renumbered_each b p cs) ≡ count_of cs
same-count b p done = refl
same-count b p (child i t cs) = ap (λ n. n + 1) (same-count b p cs)

module _ (b : Part) (small-package : (p : ℕ) → package_of b p < 2 ^ 32) (small-state : (p i : ℕ) → state_of b p i < 2 ^ 32) where
  moved-state : (p i : ℕ) → MovesState (Some i) (Some (state_of b p i))
  moved-state p i true h = h
  moved-state p i false h = small-state p i

  moved-leaf : (s t : Option ℕ) → MovesState s t → MovesNode (record { state = s; kind = Leaf }) (record { state = t; kind = Leaf })
  moved-leaf s t moves first h = record { state = moves first h.state; kind = tt }

  moved-branch : (s t : Option ℕ) → MovesState s t → (p m n : ℕ) → n ≡ m
      → MovesNode (record { state = s; kind = Branch p m }) (record { state = t; kind = Branch (package_of b p) n })
  moved-branch s t moves p m n same first h =
      let some : 0 < m = h.kind.1 in
      let few : m < 2 ^ 32 = h.kind.2 in
      record { state = moves first h.state; kind = (small-package p, subst (λ k. 0 < k) (sym same) some, subst (λ k. k < 2 ^ 32) (sym same) few) }

  mutual
    moved-tree : (s t : Option ℕ) → MovesState s t → (it : Tree) → Moves (preorder s it) (preorder t (renumbered b it))
    moved-tree s t moves leaf = (moved-leaf s t moves, tt)
    moved-tree s t moves (branch p cs) = (moved-branch s t moves p (count_of cs) (count_of (renumbered_each b p cs)) (same-count b p cs), moved-trees p cs)

    moved-trees : (p : ℕ) (cs : Children) → Moves (preorders cs) (preorders (renumbered_each b p cs))
    moved-trees p done = tt
    moved-trees p (child i it cs) = moves-append (preorder (Some i) it) (preorder (Some (state_of b p i)) (renumbered b it)) (preorders cs) (preorders (renumbered_each b p cs))
        (moved-tree (Some i) (Some (state_of b p i)) (moved-state p i) it) (moved-trees p cs)

  -- what is written of printable nodes is printable
  written-moves : (nodes log : List Node) → IsWritten b nodes log → Moves nodes log
  written-moves nodes log w =
      let whole : Moves (preorder None w.tree) (preorder None (renumbered b w.tree)) = moved-tree None None (λ first h. h) w.tree in
      let cut = moves-take w.count (preorder None w.tree) (preorder None (renumbered b w.tree)) whole in
      subst (λ l. Moves nodes l) (sym w.written) (subst (λ l. Moves l (take w.count (preorder None (renumbered b w.tree)))) (sym w.walked) cut)

  written-printable : (nodes log : List Node) → IsWritten b nodes log → length nodes < 2 ^ 32 → AreNodes true nodes → IsPrintable log
  written-printable nodes log w few are =
      let moves = written-moves nodes log w in
      record {
        few = subst (λ n. n < 2 ^ 32) (moves-length nodes log moves) few;
        each = moves-nodes true nodes log moves are;
      }

-- ---- the nodes of a walk

-- what is closed is a state that there is
known-state : OfferedIsKnown → ClosureIsLargest → (g : Graph) (prefix : Prefix) (p i : ℕ) → InClosure g (under g prefix) p i → (p < packages g) × (i < states g p)
known-state offered largest g prefix p i here =
    let is = offered g p i (and_parts (is_offered g p i) (agrees prefix p i) ((largest g (under g prefix)).within p i here)).0 in
    (is.known, is.state)

few-states : (g : Graph) → IsGraph g → (p : ℕ) → p < packages g → states g p ≤ 65536
few-states g sound p known =
    let one = get_or-le-sum_by (λ x. x) g.sizes p 0 known in
    let small = sound.small in
    omega (arith, one, small)

-- a package and a state of an instance are small numbers
small-known : (g : Graph) → IsGraph g → (p i : ℕ) → p < packages g → i < states g p → (p < 2 ^ 32) × (i < 2 ^ 32)
small-known g sound p i known there =
    let few = sound.few in
    let wide = few-states g sound p known in
    (omega (arith, few, known), omega (arith, wide, there))

-- numbers below n that stand in different places are n at most
distinct-few : (xs : List ℕ) (n : ℕ) → ((j k : ℕ) → j < length xs → k < length xs → get_or xs j 0 ≡ get_or xs k 0 → j ≡ k) → ((i : ℕ) → Contains xs i → i < n) → length xs ≤ n
distinct-few xs n once below =
    length-le_from_distinct_below xs n
    (IsDistinct-from_apart eqb xs (λ i j d h k.
    let first : get_or xs i d ≡ get_or xs i 0 = at-zero xs i d (omega (arith, h, k)) in
    let second : get_or xs j d ≡ get_or xs j 0 = at-zero xs j d k in
    ne_eqb (get_or xs i d) (get_or xs j d) (λ e. let place = once i j (omega (arith, h, k)) k (sym first ∙ e ∙ second) in omega (arith, h, place))))
    (λ q is. below q (Contains-from_any {eq = eqb} (λ x y e. eqb-true x y e) q xs is))
  where
    at-zero : (xs : List ℕ) (i d : ℕ) → i < length xs → get_or xs i d ≡ get_or xs i 0
    at-zero xs i d h = get_or_default xs i d 0 h

abbrev pub AreTasks : Bool → List Task → Type 0
AreTasks first [] = Unit {0}
AreTasks first (t ∷ ts) = HasState first t.state × AreTasks false ts

tasks-append : (vs ws : List Task) → AreTasks false vs → AreTasks false ws → AreTasks false (vs ++ ws)
tasks-append [] ws h k = k
tasks-append (a ∷ vs) ws h k = (h.0, tasks-append vs ws h.1 k)

tasks-behind : (prefix : Prefix) (p : ℕ) (order : List ℕ) → ((i : ℕ) → Contains order i → i < 2 ^ 32) → AreTasks false (behind prefix p order)
tasks-behind prefix p [] small = tt
tasks-behind prefix p (i ∷ order) small = (small i (0, omega arith, refl), tasks-behind prefix p order (λ j there. small j (suc there.0, omega (arith, there.1), there.2)))

module _ (offered : OfferedIsKnown) (largest : ClosureIsLargest) (choose : Choice) (law : IsChoice choose) (g : Graph) (sound : IsGraph g) where
  small-order : (prefix : Prefix) (p : ℕ) (order : List ℕ) → choose g prefix p order → (i : ℕ) → Contains order i → i < 2 ^ 32
  small-order prefix p order chosen i there =
      let known = known-state offered largest g prefix p i (law.closed g prefix p order chosen i there) in
      (small-known g sound p i known.0 known.1).1

  is-kind : (prefix : Prefix) (p : ℕ) (order : List ℕ) → choose g prefix p order → IsKind (Branch p (length order))
  is-kind prefix p order chosen =
      let known = law.known g prefix p order chosen in
      let few = sound.few in
      let two = law.several g prefix p order chosen in
      let many = distinct-few order (states g p) (law.once g prefix p order chosen) (λ i there. (known-state offered largest g prefix p i (law.closed g prefix p order chosen i there)).1) in
      let wide = few-states g sound p known in
      (omega (arith, few, known), omega (arith, two), omega (arith, many, wide))

  is-node : (first : Bool) (t : Task) (x : Node) (children : List Task) → HasState first t.state → Visits g choose t x children → IsNode first x
  is-node first t x children has (dead d) = subst (IsNode first) (sym d.node_is) (record { state = has; kind = tt })
  is-node first t x children has (open_at b) = subst (IsNode first) (sym b.node_is) (record { state = has; kind = is-kind t.prefix b.place b.order b.chosen })

  are-children : (t : Task) (x : Node) (children : List Task) → Visits g choose t x children → AreTasks false children
  are-children t x children (dead d) = subst (AreTasks false) (sym d.children_are) tt
  are-children t x children (open_at b) = subst (AreTasks false) (sym b.children_are) (tasks-behind t.prefix b.place b.order (small-order t.prefix b.place b.order b.chosen))

  walk-nodes : (nodes : List Node) (first : Bool) (ts left : List Task) → Walks g choose ts nodes left → AreTasks first ts → AreNodes first nodes
  walk-nodes [] first ts left w are = tt
  walk-nodes (x ∷ xs) first ts left (t, us, cs, e, v, w) are =
      let here : AreTasks first (t ∷ us) = subst (AreTasks first) e are in
      (is-node first t x cs here.0 v, walk-nodes xs false (cs ++ us) left w (tasks-append cs us (are-children t x cs v) here.1))

-- ---- the numbers before pruning

module _ (offered : OfferedIsKnown) (largest : ClosureIsLargest) (g : Graph) (pr : Pruning) (h : Graph) (b : Part) (sound : IsGraph h) (r : IsReduction g pr h b) where
  stands-small : (p i : ℕ) → p < packages h → i < states h p → (package_of b p < 2 ^ 32) × (state_of b p i < 2 ^ 32)
  stands-small p i known there =
      let inside = (r.reduced.states_sound p i known there).inside in
      let closed = (and_parts (pr.closed (package_of b p) (state_of b p i)) _ inside).0 in
      let is = known-state offered largest g [] (package_of b p) (state_of b p i) (r.pruning.closure.sound (package_of b p) (state_of b p i) closed) in
      small-known g r.graph (package_of b p) (state_of b p i) is.0 is.1

  past-package : (p : ℕ) → packages h ≤ p → get_or b p (0, []) ≡ (0, [])
  past-package p past = get_or_past b p (0, []) (let long = r.reduced.each in omega (arith, long, past))

  small-package : (p : ℕ) → package_of b p < 2 ^ 32
  small-package p = elim (cases_lt p (packages h)) [
    | inl known ↦ (stands-small p 0 known (sound.filled p known)).0
    | inr past ↦ subst (λ k. k < 2 ^ 32) (sym (ap (λ e. e.0) (past-package p past))) (omega arith)
  ]

  small-state : (p i : ℕ) → state_of b p i < 2 ^ 32
  small-state p i = elim (cases_lt p (packages h)) [
    | inl known ↦
        elim (cases_lt i (states h p)) [
          | inl there ↦ (stands-small p i known there).1
          | inr over ↦ subst (λ k. k < 2 ^ 32) (sym (get_or_past (states_of b p) i 0 (let wide = r.reduced.wide p known in omega (arith, wide, over)))) (omega arith)
        ]
    | inr past ↦ subst (λ k. k < 2 ^ 32) (sym (ap (λ e. get_or e.1 i 0) (past-package p past))) (omega arith)
  ]

-- ---- logs

one-leaf : IsPrintable (record { state = None; kind = Leaf } ∷ [])
one-leaf = record { few = omega arith; each = (record { state = tt; kind = tt }, tt) }

module _ (offered : OfferedIsKnown) (largest : ClosureIsLargest) (lawful : ChoiceIsLawful) (g : Graph) (budget : ℕ) (log : Listing Node) (low : budget < 2 ^ 32) where
  walked : (h : Graph) (b : Part) (pr : Pruning) (f : _) (sound : IsGraph h) (r : IsReduction g pr h b) (nodes : List Node) (left : List Task) →
      Walks h (BeliefChoice f) (root ∷ []) nodes left → IsWritten b nodes log.items → length nodes ≤ budget → IsPrintable log.items
  walked h b pr f sound r nodes left walks writes within =
      written-printable b (small-package offered largest g pr h b sound r) (small-state offered largest g pr h b sound r) nodes log.items writes (omega (arith, within, low))
      (walk-nodes offered largest (BeliefChoice f) (lawful f) h sound nodes true (root ∷ []) left walks (tt, tt))

  pub empty-printable : Searches g budget (Empty log) → IsPrintable log.items
  empty-printable (at_once d) = subst IsPrintable (sym d.ends.1) one-leaf
  empty-printable (by_walk w) = walked w.pruned w.back w.«pruning» w.weights w.sound w.reduction w.ends.nodes [] w.ends.ends.walks w.ends.written w.ends.ends.within

  pub spent-printable : Searches g budget (Spent log) → IsPrintable log.items
  spent-printable (at_once d) = subst IsPrintable (sym d.ends.1) (record { few = omega arith; each = tt })
  spent-printable (by_walk w) =
      let s = w.ends.spends in
      walked w.pruned w.back w.«pruning» w.weights w.sound w.reduction w.ends.nodes (s.task ∷ s.rest) s.walks w.ends.written (let e = s.spent in omega (arith, e))
