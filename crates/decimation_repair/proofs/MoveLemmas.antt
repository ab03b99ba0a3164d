-- How the walk moves: domains are closed, a package is chosen, a choice goes on to its next state or is dropped. Of the
-- choice no more is used than that it is lawful.
use Rattle.std.proofs.Common.{◌≡◌, ◌≢◌, ℕ, zero, suc, ◌+◌, ◌<◌, ◌≤◌, Bool, true, false, not, ◌||◌, List, [], ◌∷◌, ◌++◌, length, get_or, set, map, take, drop, refl, sym, ◌∙◌, ap, subst, arith, inl, inr, eqb, Option, Some, None, slice_get, length-append, take-suc-set}
use Rattle.std.proofs.lemmas.Bool.{cases_eq, cases_lt, cases_Bool, and_parts, and_from, eqb-true, eq-eqb, or_cases}
use Rattle.std.proofs.lemmas.Bool.Decides.{eqb_tells}
use Rattle.std.proofs.lemmas.List.{get_or-take, get_or-set_same, get_or-set_other, length-set, take-set-le, length-take-le, take_all, get_or_append_left, map-append, length-map, get_or-map, get_or_default, drop_more, drop_all}
use Rattle.std.proofs.lemmas.List.Folds.{list_any_at, list_all-append}
use Rattle.std.proofs.lemmas.Map.Steps.{length-le_from_distinct_below}
use Rattle.std.proofs.lemmas.Map.Keys.{IsDistinct-from_apart}
use Rattle.std.proofs.Math.Seq.{take-length, get_or-append_seam, take-append_seam}
use Rattle.std.specs.List.{Contains, IsDistinct, list_any}
use Rattle.version_graph.specs.Graph.{Graph, packages, is_offered}
use Rattle.version_graph.specs.Family.{Family, InClosure, HasEmpty, IsClosureOf, LiesBetween, narrowed, agrees, under, ClosingGoesOn}
use Rattle.version_graph.specs.Domain.{Rows, has}
use Rattle.version_graph.specs.Noted.{History, Holds, left_by}
use Rattle.version_graph.proofs.FamilyLemmas.{closure-largest}
use Rattle.graph_pruning.specs.Closing.{IsClosedFrom}
use Rattle.refutation_log.specs.Refutes.{Prefix, is_chosen}
use Rattle.refutation_log.specs.declared.node.Node.{Node}
use Rattle.refutation_log.specs.declared.node.NodeKind.TheVariants.{Branch}
use Rattle.decimation_repair.specs.Walk.{Choice, IsChoice, Task, root, behind, Visits, open_at, Walks}
use Rattle.decimation_repair.specs.Path.{nothing, chosen_at, prefix_of, choices_before, domains_at, order_at, IsChosenAt, IsPath, untried, pending, entered, task_of, Arrived, Settled, Dead, Left}
use Rattle.decimation_repair.specs.Advised.{IsOpenPath, IsWide}
use Rattle.decimation_repair.specs.declared.path.Chosen.{Chosen}
use Rattle.decimation_repair.proofs.EndLemmas.{agree-at, not-chosen}
use Rattle.decimation_repair.proofs.StandLemmas.{Agree, front-less, take-front, same-chosen, same-before, same-pending, same-at, same-family, between-closed, between-empty, filled-not-empty, walks-more, several-closed}

-- ---- the start

pub started : (choose : Choice) (g : Graph) (orders : List (List ℕ)) (path : List Chosen) (d : Rows) (t : History) (nodes : List Node) → path ≡ [] → nodes ≡ [] → Holds g d t → ((p i : ℕ) → has d p i ≡ is_offered g p i) →
    Arrived choose g orders path d t nodes
started choose g orders path d t nodes e f holds offered =
    subst (λ l. Arrived choose g orders l d t nodes) (sym e) (subst (λ xs. Arrived choose g orders [] d t xs) (sym f) (record {
      holds = holds;
      path_is = record { at = λ k h. absurd (omega (arith, h)); rising = λ k l h b. absurd (omega (arith, b)) };
      between = record {
        within = record { at = λ p i h. and_from (is_offered g p i) true (sym (offered p i) ∙ h) refl };
        whole = λ p i k. offered p i ∙ (and_parts (is_offered g p i) true ((closure-largest g (under g [])).within p i k)).0;
      };
      walks = refl;
    }))

-- ---- the domains are closed

-- longer notes agree at each mark of the path
longer-agree : (choose : Choice) (g : Graph) (orders : List (List ℕ)) (path : List Chosen) (notes more : List (ℕ × ℕ)) → IsPath choose g orders path notes → take (length notes) more ≡ notes →
    Agree path path notes more orders orders (length path)
longer-agree choose g orders path notes more p e = record {
  front = refl;
  marks = λ d h.
      let low = (p.at d h).mark in
      front-less (chosen_at path d).mark (length notes) notes more low (e ∙ sym (take-length notes));
  rows = λ d h. refl;
}

longer-length : (notes more : List (ℕ × ℕ)) → take (length notes) more ≡ notes → length notes ≤ length more
longer-length notes more e = elim (cases_lt (length more) (length notes)) [
  | inl s ↦ (let same = ap length (sym e ∙ take_all (length notes) more (omega (arith, s))) in omega (arith, s, same))
  | inr s ↦ s
]

longer-path : (choose : Choice) (g : Graph) (orders : List (List ℕ)) (path : List Chosen) (notes more : List (ℕ × ℕ)) → IsPath choose g orders path notes → take (length notes) more ≡ notes → IsPath choose g orders path more
longer-path choose g orders path notes more p e =
    let a = longer-agree choose g orders path notes more p e in
    let long = longer-length notes more e in
    record {
      at = λ d h. same-at path path notes more orders orders (length path) a choose g d h (let low = (p.at d h).mark in omega (arith, low, long)) (p.at d h);
      rising = p.rising;
    }

pub closed-arrived : (choose : Choice) (g : Graph) (orders : List (List ℕ)) (path : List Chosen) (old new : Rows) (s t : History) (nodes : List Node) → Arrived choose g orders path old s nodes → Holds g new t →
    take (length s.notes) t.notes ≡ s.notes → IsClosedFrom g (has old) (has new) → Settled choose g orders path new t nodes
closed-arrived choose g orders path old new s t nodes a holds e c = record {
  holds = holds;
  path_is = longer-path choose g orders path s.notes t.notes a.path_is e;
  closed = between-closed g (under g (prefix_of path)) (has old) (has new) a.between c.closure;
  filled = c.filled;
  walks = a.walks;
}

pub dead-arrived : (choose : Choice) (g : Graph) (orders : List (List ℕ)) (path : List Chosen) (old new : Rows) (s t : History) (nodes : List Node) → Arrived choose g orders path old s nodes → Holds g new t →
    take (length s.notes) t.notes ≡ s.notes → HasEmpty g (has old) → Dead choose g orders path new t nodes
dead-arrived choose g orders path old new s t nodes a holds e h = record {
  holds = holds;
  path_is = longer-path choose g orders path s.notes t.notes a.path_is e;
  empty = between-empty g (under g (prefix_of path)) (has old) a.between h;
  walks = a.walks;
}

-- ---- a package is chosen

agreed : (g : Graph) (prefix : Prefix) (p i : ℕ) → InClosure g (under g prefix) p i → agrees prefix p i ≡ true
agreed g prefix p i k = (and_parts (is_offered g p i) (agrees prefix p i) ((closure-largest g (under g prefix)).within p i k)).1

-- a package with two closed states isn't chosen yet
pub two-free : (g : Graph) (prefix : Prefix) (p i j : ℕ) → i ≢ j → InClosure g (under g prefix) p i → InClosure g (under g prefix) p j → is_chosen prefix p ≡ false
two-free g prefix p i j apart here there = elim (cases_Bool (is_chosen prefix p)) [
  | inl is ↦ absurd (apart (agree-at prefix p i is (agreed g prefix p i here) j (agreed g prefix p j there)))
  | inr out ↦ out
]

abbrev as_pair : Chosen → ℕ × ℕ
as_pair c = (c.package, c.state)

-- each package before a depth is chosen there
earlier-chosen : (path : List Chosen) (d e : ℕ) → e < d → d ≤ length path → is_chosen (choices_before path d) (chosen_at path e).package ≡ true
earlier-chosen path d e h b =
    let xs = take d path in
    let long : length xs ≡ d = length-take-le d path b in
    let inside : e < length (prefix_of xs) = omega (arith, h, long, length-map xs as_pair) in
    let here : get_or (prefix_of xs) e (0, 0) ≡ ((chosen_at path e).package, (chosen_at path e).state) =
    get_or-map as_pair xs e nothing (0, 0) (omega (arith, h, long)) ∙ ap as_pair (get_or-take d path e nothing h) in
    list_any_at (λ (c : ℕ × ℕ). eqb c.0 (chosen_at path e).package) (prefix_of xs) e (0, 0) inside
    (ap (λ (c : ℕ × ℕ). eqb c.0 (chosen_at path e).package) here ∙ eq-eqb (chosen_at path e).package (chosen_at path e).package refl)

list_any_place : (test : ℕ → Bool) (xs : List ℕ) → list_any test xs ≡ true → (k : ℕ) × (k < length xs) × (test (get_or xs k 0) ≡ true)
list_any_place test [] e = absurd (cc)
list_any_place test (x ∷ xs) e = elim (or_cases (test x) (list_any test xs) e) [
  | inl here ↦ (zero, omega arith, here)
  | inr later ↦ (let r = list_any_place test xs later in (suc r.0, (let b = r.1 in omega (arith, b)), r.2))
]

abbrev packages_of : List Chosen → ℕ → List ℕ
packages_of path p = map (λ c. c.package) path ++ p ∷ []

packages-length : (path : List Chosen) (p : ℕ) → length (packages_of path p) ≡ length path + 1
packages-length path p = let a = length-append (map (λ (c : Chosen). c.package) path) (p ∷ []) in let b = length-map path (λ (c : Chosen). c.package) in omega (arith, a, b)

package-early : (path : List Chosen) (p k d : ℕ) → k < length path → get_or (packages_of path p) k d ≡ (chosen_at path k).package
package-early path p k d h =
    let b = length-map path (λ (c : Chosen). c.package) in
    get_or_append_left (map (λ (c : Chosen). c.package) path) (p ∷ []) d k (omega (arith, h, b)) ∙ get_or-map (λ (c : Chosen). c.package) path k nothing d h

package-last : (path : List Chosen) (p k d : ℕ) → k ≡ length path → get_or (packages_of path p) k d ≡ p
package-last path p k d h =
    let b = length-map path (λ (c : Chosen). c.package) in
    ap (λ n. get_or (packages_of path p) n d) (h ∙ sym b) ∙ get_or-append_seam (map (λ (c : Chosen). c.package) path) p [] d

not-same : (a b : ℕ) → a ≢ b → eqb a b ≡ false
not-same a b ne = elim (eqb_tells a b) [
  | inl s ↦ absurd (ne s.1)
  | inr s ↦ s.0
]

-- the packages of the choices differ from one another, and from one that isn't chosen
apart-packages : (choose : Choice) → IsChoice choose → (g : Graph) (orders : List (List ℕ)) (path : List Chosen) (notes : List (ℕ × ℕ)) (p : ℕ) → IsPath choose g orders path notes → is_chosen (prefix_of path) p ≡ false →
    IsDistinct eqb (packages_of path p)
apart-packages choose law g orders path notes p w out = IsDistinct-from_apart eqb (packages_of path p) (λ i j d h b.
    let long = packages-length path p in
    let first : get_or (packages_of path p) i d ≡ (chosen_at path i).package = package-early path p i d (omega (arith, h, b, long)) in
    elim (cases_eq j (length path)) [
      | inl same ↦
          let second = package-last path p j d same in
          let is = earlier-chosen path (length path) i (omega (arith, h, same)) (omega arith) in
          let whole : choices_before path (length path) ≡ prefix_of path = ap prefix_of (take-length path) in
          ap (λ x. eqb x (get_or (packages_of path p) j d)) first ∙ ap (eqb (chosen_at path i).package) second
          ∙ not-same (chosen_at path i).package p (λ e. let t = ap (λ x. is_chosen x (chosen_at path i).package) (sym whole) ∙ is in let v = ap (is_chosen (prefix_of path)) (sym e) ∙ t in cc)
      | inr ne ↦
          let second = package-early path p j d (omega (arith, b, ne, long)) in
          let is = earlier-chosen path j i h (omega (arith, b, long)) in
          let free = not-chosen choose law g (choices_before path j) (chosen_at path j).package (order_at orders path j) (w.at j (omega (arith, b, ne, long))).chosen in
          ap (λ x. eqb x (get_or (packages_of path p) j d)) first ∙ ap (eqb (chosen_at path i).package) second
          ∙ not-same (chosen_at path i).package (chosen_at path j).package (λ e. let v = ap (is_chosen (choices_before path j)) (sym e) ∙ is in cc)
    ])

member-of : (g : Graph) (path : List Chosen) (p q : ℕ) → ((k : ℕ) → k < length path → (chosen_at path k).package < packages g) → p < packages g → list_any (eqb q) (packages_of path p) ≡ true → q < packages g
member-of g path p q each known is =
    let found = list_any_place (eqb q) (packages_of path p) is in
    let long = packages-length path p in
    let inside = found.1 in
    let same = eqb-true q (get_or (packages_of path p) found.0 0) found.2 in
    elim (cases_eq found.0 (length path)) [
      | inl e ↦ (let at = package-last path p found.0 0 e in omega (arith, same, at, known))
      | inr ne ↦
          let at = package-early path p found.0 0 (omega (arith, inside, ne, long)) in
          let low = each found.0 (omega (arith, inside, ne, long)) in
          omega (arith, same, at, low)
    ]

-- the packages of the choices are there
pub path-known : (choose : Choice) → IsChoice choose → (g : Graph) (orders : List (List ℕ)) (path : List Chosen) (notes : List (ℕ × ℕ)) → IsPath choose g orders path notes → (k : ℕ) → k < length path → (chosen_at path k).package < packages g
path-known choose law g orders path notes w = λ k h. law.known g (choices_before path k) (chosen_at path k).package (order_at orders path k) (w.at k h).chosen

-- so there is room for one choice more
pub room-for : (choose : Choice) → IsChoice choose → (g : Graph) (orders : List (List ℕ)) (path : List Chosen) (notes : List (ℕ × ℕ)) (p room : ℕ) → IsPath choose g orders path notes → p < packages g →
    is_chosen (prefix_of path) p ≡ false → packages g ≤ room → length path < room
room-for choose law g orders path notes p room w known out r =
    let all : (k : ℕ) → k < length path → (chosen_at path k).package < packages g = path-known choose law g orders path notes w in
    let most = length-le_from_distinct_below (packages_of path p) (packages g) (apart-packages choose law g orders path notes p w out) (λ q is. member-of g path p q all known is) in
    let long = packages-length path p in
    omega (arith, most, long, r)

-- the path with one choice more, of a package whose order is written
one-more : (path : List Chosen) (notes : List (ℕ × ℕ)) (orders : List (List ℕ)) (order : List ℕ) (c : Chosen) → is_chosen (prefix_of path) c.package ≡ false →
    Agree path (path ++ c ∷ []) notes notes orders (set orders c.package order) (length path)
one-more path notes orders order c out = record {
  front = take-append_seam path (c ∷ []) ∙ sym (take-length path);
  marks = λ d h. refl;
  rows = λ d h. get_or-set_other orders c.package (chosen_at path d).package order [] (λ e.
      let is = earlier-chosen path (length path) d h (omega arith) in
      let whole : choices_before path (length path) ≡ prefix_of path = ap prefix_of (take-length path) in
      let t : is_chosen (prefix_of path) (chosen_at path d).package ≡ true = ap (λ x. is_chosen x (chosen_at path d).package) (sym whole) ∙ is in
      let v : is_chosen (prefix_of path) c.package ≡ true = ap (is_chosen (prefix_of path)) (sym e) ∙ t in
      cc);
}

longer-by-one : (path : List Chosen) (c : Chosen) → length (path ++ c ∷ []) ≡ length path + 1
longer-by-one path c = length-append path (c ∷ [])

new-last : (path : List Chosen) (c : Chosen) (k : ℕ) → k ≡ length path → chosen_at (path ++ c ∷ []) k ≡ c
new-last path c k e = ap (chosen_at (path ++ c ∷ [])) e ∙ get_or-append_seam path c [] nothing

before-new : (path : List Chosen) (c : Chosen) (k : ℕ) → k ≡ length path → choices_before (path ++ c ∷ []) k ≡ prefix_of path
before-new path c k e = ap (choices_before (path ++ c ∷ [])) e ∙ ap prefix_of (take-append_seam path (c ∷ []))

-- domains that a trail holds are what all of its notes leave
held-family : (g : Graph) (d : Rows) (t : History) (n : ℕ) → Holds g d t → n ≡ length t.notes → (p i : ℕ) → left_by g (take n t.notes) p i ≡ has d p i
held-family g d t n h e p i = ap (λ l. left_by g l p i) (ap (λ k. take k t.notes) e ∙ take-length t.notes) ∙ sym (h.left p i)

-- a choice is made: its order is written, none of its states is tried, and the trail is as long as its mark
pub record Makes (choose : Choice) (g : Graph) (path : List Chosen) (orders : List (List ℕ)) (t : History) (c : Chosen) (order : List ℕ) : Type 0 where
  pub chosen : choose g (prefix_of path) c.package order
  pub tried : c.tried ≡ 0
  pub mark : c.mark ≡ length t.notes
  pub inside : c.package < length orders

module _ (choose : Choice) (law : IsChoice choose) (g : Graph) (orders : List (List ℕ)) (path : List Chosen) (d : Rows) (t : History) (nodes : List Node) (w : Settled choose g orders path d t nodes) (c : Chosen) (order : List ℕ)
    (m : Makes choose g path orders t c order) where
  branch-at : (k : ℕ) → k ≡ length path → IsChosenAt choose g (set orders c.package order) (path ++ c ∷ []) t.notes k
  branch-at k e =
      let here = new-last path c k e in
      let front = before-new path c k e in
      let row = get_or-set_same orders c.package order [] m.inside in
      let same : (p i : ℕ) → domains_at g (path ++ c ∷ []) t.notes k p i ≡ has d p i =
      λ p i. ap (λ (x : Chosen). left_by g (take x.mark t.notes) p i) here ∙ held-family g d t c.mark w.holds m.mark p i in
      let mark = m.mark in
      record {
        mark = subst (λ (x : Chosen). x.mark ≤ length t.notes) (sym here) (omega (arith, mark));
        closed = subst (λ x. IsClosureOf g (under g x) (domains_at g (path ++ c ∷ []) t.notes k)) (sym front) (same-family g (under g (prefix_of path)) (has d) (domains_at g (path ++ c ∷ []) t.notes k) same w.closed);
        chosen = subst (λ x. choose g x (chosen_at (path ++ c ∷ []) k).package (order_at (set orders c.package order) (path ++ c ∷ []) k)) (sym front)
            (subst (λ (x : Chosen). choose g (prefix_of path) x.package (get_or (set orders c.package order) x.package [])) (sym here)
            (subst (λ l. choose g (prefix_of path) c.package l) (sym row) m.chosen));
      }

  branch-path : IsPath choose g (set orders c.package order) (path ++ c ∷ []) t.notes
  branch-path =
      let a = one-more path t.notes orders order c (not-chosen choose law g (prefix_of path) c.package order m.chosen) in
      let long = longer-by-one path c in
      let mark = m.mark in
      record {
        at = λ k h. elim (cases_eq k (length path)) [
          | inl e ↦ branch-at k e
          | inr ne ↦
              let inside : k < length path = omega (arith, h, ne, long) in
              same-at path (path ++ c ∷ []) t.notes t.notes orders (set orders c.package order) (length path) a choose g k inside (w.path_is.at k inside).mark (w.path_is.at k inside)
        ];
        rising = λ k l h b.
            let first = same-chosen path (path ++ c ∷ []) t.notes t.notes orders (set orders c.package order) (length path) a k (omega (arith, h, b, long)) in
            elim (cases_eq l (length path)) [
              | inl e ↦
                  let low = (w.path_is.at k (omega (arith, h, e))).mark in
                  let second = new-last path c l e in
                  subst (λ (x : Chosen). x.mark ≤ (chosen_at (path ++ c ∷ []) l).mark) (sym first) (subst (λ (x : Chosen). (chosen_at path k).mark ≤ x.mark) (sym second) (omega (arith, low, mark)))
              | inr ne ↦
                  let second = same-chosen path (path ++ c ∷ []) t.notes t.notes orders (set orders c.package order) (length path) a l (omega (arith, b, ne, long)) in
                  subst (λ (x : Chosen). x.mark ≤ (chosen_at (path ++ c ∷ []) l).mark) (sym first) (subst (λ (x : Chosen). (chosen_at path k).mark ≤ x.mark) (sym second) (w.path_is.rising k l h (omega (arith, b, ne, long))))
            ];
      }

  -- the tasks behind the new choice stand before those that were pending
  branch-pending : pending (set orders c.package order) (path ++ c ∷ []) (length (path ++ c ∷ [])) ≡ behind (prefix_of path) c.package order ++ pending orders path (length path)
  branch-pending =
      let other = path ++ c ∷ [] in
      let more = set orders c.package order in
      let n = length path in
      let a = one-more path t.notes orders order c (not-chosen choose law g (prefix_of path) c.package order m.chosen) in
      let long : length other ≡ suc n = (let l = longer-by-one path c in omega (arith, l)) in
      let here = new-last path c n refl in
      let front = before-new path c n refl in
      let row = get_or-set_same orders c.package order [] m.inside in
      ap (pending more other) long
      ∙ ap (λ x. behind x (chosen_at other n).package (untried more other n) ++ pending more other n) front
      ∙ ap (λ (x : Chosen). behind (prefix_of path) x.package (drop x.tried (get_or more x.package [])) ++ pending more other n) here
      ∙ ap (λ k. behind (prefix_of path) c.package (drop k (get_or more c.package [])) ++ pending more other n) m.tried
      ∙ ap (λ (l : List ℕ). behind (prefix_of path) c.package l ++ pending more other n) row
      ∙ ap (λ l. behind (prefix_of path) c.package order ++ l) (same-pending path other t.notes t.notes orders more n a n (omega arith))

  -- the branch is what the definition says
  pub branch-visit : (state : Option ℕ) (children : ℕ) → state ≡ entered path (length path) → children ≡ length order →
      Visits g choose (task_of path) (record { state = state; kind = Branch c.package children }) (behind (prefix_of path) c.package order)
  branch-visit state children e many =
      open_at (record {
        filled = filled-not-empty g (under g (prefix_of path)) (has d) w.closed w.filled;
        place = c.package;
        order = order;
        chosen = m.chosen;
        node_is = ap (λ x. record { state = x; kind = Branch c.package children }) e ∙ ap (λ n. record { state = entered path (length path); kind = Branch c.package n }) many;
        children_are = refl;
      })

  pub branch-left : (more : List Node) (x : Node) → Visits g choose (task_of path) x (behind (prefix_of path) c.package order) → more ≡ nodes ++ x ∷ [] →
      Left choose g (set orders c.package order) (path ++ c ∷ []) d t more
  branch-left more x v e = record {
    holds = w.holds;
    path_is = branch-path;
    walks = subst (λ xs. Walks g choose (root ∷ []) xs (pending (set orders c.package order) (path ++ c ∷ []) (length (path ++ c ∷ [])))) (sym e)
        (subst (Walks g choose (root ∷ []) (nodes ++ x ∷ [])) (sym branch-pending)
        (walks-more g choose nodes (root ∷ []) (task_of path) (pending orders path (length path)) (behind (prefix_of path) c.package order) x w.walks v));
  }

-- ---- back to the deepest choice

-- notes cut back to a later mark agree at each mark before
cut-marks : (choose : Choice) (g : Graph) (orders : List (List ℕ)) (path : List Chosen) (notes more : List (ℕ × ℕ)) (n : ℕ) → IsPath choose g orders path notes → length path ≡ suc n →
    take (length (take (chosen_at path n).mark notes)) more ≡ take (chosen_at path n).mark notes → (d : ℕ) → d < n → take (chosen_at path d).mark more ≡ take (chosen_at path d).mark notes
cut-marks choose g orders path notes more n p long e d h =
    let m = (chosen_at path n).mark in
    let cut = take m notes in
    let low = p.rising d n h (omega (arith, long)) in
    let size : length cut ≡ m = length-take-le m notes (p.at n (omega (arith, long))).mark in
    front-less (chosen_at path d).mark (length cut) cut more (omega (arith, low, size)) (e ∙ sym (take-length cut))
    ∙ sym (take-front (chosen_at path d).mark m notes low)

-- the domains before the deepest choice
pub undone : (g : Graph) (path : List Chosen) (notes : List (ℕ × ℕ)) (d : Rows) (t : History) (n : ℕ) → Holds g d t → t.notes ≡ take (chosen_at path n).mark notes →
    (p i : ℕ) → has d p i ≡ domains_at g path notes n p i
undone g path notes d t n h e p i = h.left p i ∙ ap (λ l. left_by g l p i) e

-- ---- the choice is dropped

pub dropped-left : (choose : Choice) (g : Graph) (orders : List (List ℕ)) (path other : List Chosen) (d : Rows) (t : History) (nodes : List Node) (n : ℕ) → Left choose g orders path d t nodes → length path ≡ suc n →
    length (order_at orders path n) ≤ (chosen_at path n).tried → other ≡ take n path → Left choose g orders other d t nodes
dropped-left choose g orders path other d t nodes n w long none cut =
    let p = w.path_is in
    let count : length other ≡ n = ap length cut ∙ length-take-le n path (omega (arith, long)) in
    let a : Agree path other t.notes t.notes orders orders n = record {
      front = take_all n other (omega (arith, count)) ∙ cut;
      marks = λ k h. refl;
      rows = λ k h. refl;
    } in
    let rest : untried orders path n ≡ [] = drop_all (chosen_at path n).tried (order_at orders path n) none in
    record {
      holds = w.holds;
      path_is = record {
        at = λ k h.
            let inside : k < n = omega (arith, h, count) in
            let own = p.at k (omega (arith, inside, long)) in
            same-at path other t.notes t.notes orders orders n a choose g k inside own.mark own;
        rising = λ k l h b.
            let inside : l < n = omega (arith, b, count) in
            subst (λ (x : Chosen). x.mark ≤ (chosen_at other l).mark) (sym (same-chosen path other t.notes t.notes orders orders n a k (omega (arith, h, inside))))
            (subst (λ (x : Chosen). (chosen_at path k).mark ≤ x.mark) (sym (same-chosen path other t.notes t.notes orders orders n a l inside)) (p.rising k l h (omega (arith, inside, long))));
      };
      walks = subst (Walks g choose (root ∷ []) nodes)
          (ap (pending orders path) long ∙ ap (λ xs. behind (choices_before path n) (chosen_at path n).package xs ++ pending orders path n) rest
          ∙ sym (same-pending path other t.notes t.notes orders orders n a n (omega arith)) ∙ ap (pending orders other) (sym count)) w.walks;
    }

-- ---- the choice goes on to its next state

-- closed domains that are cut to a choice lie between those under the longer prefix and their closure
narrowed-between : ClosingGoesOn → (g : Graph) (prefix : Prefix) (f s : Family) (p j : ℕ) → IsClosureOf g (under g prefix) f → ((q i : ℕ) → s q i ≡ narrowed f p j q i) →
    LiesBetween g (under g (prefix ++ (p, j) ∷ [])) s
narrowed-between law g prefix f s p j closed cut = record {
  within = record {
    at = λ q i t.
        let parts = and_parts (f q i) (not (eqb q p) || eqb i j) (sym (cut q i) ∙ t) in
        let old = (closure-largest g (under g prefix)).within q i (closed.sound q i parts.0) in
        let both = and_parts (is_offered g q i) (agrees prefix q i) old in
        and_from (is_offered g q i) (agrees (prefix ++ (p, j) ∷ []) q i) both.0
        (list_all-append (λ (c : ℕ × ℕ). not (eqb q c.0) || eqb i c.1) prefix ((p, j) ∷ []) ∙ and_from (agrees prefix q i) _ both.1 (and_from (not (eqb q p) || eqb i j) true parts.1 refl));
  };
  whole = λ q i k. cut q i ∙ (closure-largest g (narrowed f p j)).within q i ((law g prefix p j f closed q i).1 k);
}

-- the choice with one state more tried
abbrev pub goes_on : Chosen → ℕ → Chosen
goes_on c j = record { «package» = c.package; state = j; tried = c.tried + 1; mark = c.mark }

-- the next task comes first, and the others of the choice stay behind it
task-front : (orders : List (List ℕ)) (path other : List Chosen) (notes more : List (ℕ × ℕ)) (n j : ℕ) → prefix_of other ≡ choices_before path n ++ ((chosen_at path n).package, j) ∷ [] → length other ≡ suc n →
    chosen_at other n ≡ goes_on (chosen_at path n) j → Agree path other notes more orders orders n →
    (behind (choices_before path n) (chosen_at path n).package (j ∷ drop ((chosen_at path n).tried + 1) (order_at orders path n)) ++ pending orders path n) ≡ task_of other ∷ pending orders other (length other)
task-front orders path other notes more n j prefix count here a =
    let c = chosen_at path n in
    let later = behind (choices_before path n) c.package (drop (c.tried + 1) (order_at orders path n)) in
    let first : Task = record { prefix = choices_before path n ++ (c.package, j) ∷ []; state = Some j } in
    let task : task_of other ≡ first =
    ap (λ z. record { prefix = z; state = entered other (length other) }) prefix
    ∙ ap (λ z. record { prefix = choices_before path n ++ (c.package, j) ∷ []; state = entered other z }) count
    ∙ ap (λ (y : Chosen). record { prefix = choices_before path n ++ (c.package, j) ∷ []; state = Some y.state }) here in
    let rest : pending orders other (length other) ≡ later ++ pending orders path n =
    ap (pending orders other) count
    ∙ ap (λ z. behind z (chosen_at other n).package (untried orders other n) ++ pending orders other n) (same-before path other notes more orders orders n a n (omega arith))
    ∙ ap (λ (y : Chosen). behind (choices_before path n) y.package (drop y.tried (get_or orders y.package [])) ++ pending orders other n) here
    ∙ ap (λ l. later ++ l) (same-pending path other notes more orders orders n a n (omega arith)) in
    sym (ap (λ z. z ∷ pending orders other (length other)) task ∙ ap (λ l. first ∷ l) rest)

pub next-arrived : ClosingGoesOn → (choose : Choice) (g : Graph) (orders : List (List ℕ)) (path other : List Chosen) (notes : List (ℕ × ℕ)) (d new : Rows) (t u : History) (nodes : List Node) (n j : ℕ) → IsPath choose g orders path notes →
    length path ≡ suc n → Walks g choose (root ∷ []) nodes (pending orders path (length path)) → Holds g d t → t.notes ≡ take (chosen_at path n).mark notes → Holds g new u → take (length t.notes) u.notes ≡ t.notes →
    ((q i : ℕ) → has new q i ≡ narrowed (has d) (chosen_at path n).package j q i) → (chosen_at path n).tried < length (order_at orders path n) → j ≡ get_or (order_at orders path n) (chosen_at path n).tried 0 →
    other ≡ set path n (goes_on (chosen_at path n) j) → Arrived choose g orders other new u nodes
next-arrived law choose g orders path other notes d new t u nodes n j p long w holds e kept earlier cut some is changed =
    let c = chosen_at path n in
    let x = goes_on c j in
    let inside : n < length path = omega (arith, long) in
    let own = p.at n inside in
    let size : length (take c.mark notes) ≡ c.mark = length-take-le c.mark notes own.mark in
    let back : take (length (take c.mark notes)) u.notes ≡ take c.mark notes = ap (λ l. take (length l) u.notes) (sym e) ∙ earlier ∙ e in
    let count : length other ≡ suc n = ap length changed ∙ length-set path n x ∙ long in
    let far : c.mark ≤ length u.notes = (let l = longer-length t.notes u.notes earlier in let s = ap length e in omega (arith, l, s, size)) in
    let a : Agree path other notes u.notes orders orders n = record {
      front = ap (take n) changed ∙ take-set-le n path n x (omega arith);
      marks = cut-marks choose g orders path notes u.notes n p long back;
      rows = λ k h. refl;
    } in
    let here : chosen_at other n ≡ x = ap (λ l. get_or l n nothing) changed ∙ get_or-set_same path n x nothing inside in
    let front : choices_before other n ≡ choices_before path n = same-before path other notes u.notes orders orders n a n (omega arith) in
    let cut-back : take c.mark u.notes ≡ take c.mark notes = ap (λ k. take k u.notes) (sym size) ∙ back in
    let domains : domains_at g other u.notes n ≡ domains_at g path notes n = ap (λ (y : Chosen). left_by g (take y.mark u.notes)) here ∙ ap (left_by g) cut-back in
    let closed : IsClosureOf g (under g (choices_before path n)) (has d) = same-family g (under g (choices_before path n)) (domains_at g path notes n) (has d) (undone g path notes d t n holds e) own.closed in
    let prefix : prefix_of other ≡ choices_before path n ++ (c.package, j) ∷ [] =
    ap prefix_of (sym (take_all (suc n) other (omega (arith, count))) ∙ ap (take (suc n)) changed ∙ take-suc-set path n x inside) ∙ map-append as_pair (take n path) (x ∷ []) in
    let next : untried orders path n ≡ j ∷ drop (c.tried + 1) (order_at orders path n) =
    drop_more (order_at orders path n) c.tried 0 some ∙ ap (λ z. z ∷ drop (c.tried + 1) (order_at orders path n)) (sym is) in
    record {
      holds = kept;
      path_is = record {
        at = λ k h. elim (cases_eq k n) [
          | inl same ↦ subst (IsChosenAt choose g orders other u.notes) (sym same) (record {
            mark = subst (λ (y : Chosen). y.mark ≤ length u.notes) (sym here) far;
            closed = subst (λ y. IsClosureOf g (under g y) (domains_at g other u.notes n)) (sym front) (subst (λ f. IsClosureOf g (under g (choices_before path n)) f) (sym domains) own.closed);
            chosen = subst (λ y. choose g y (chosen_at other n).package (order_at orders other n)) (sym front)
                (subst (λ (y : Chosen). choose g (choices_before path n) y.package (get_or orders y.package [])) (sym here) own.chosen);
          })
          | inr ne ↦
              let less : k < n = omega (arith, h, ne, count) in
              let low = p.rising k n less inside in
              same-at path other notes u.notes orders orders n a choose g k less (omega (arith, low, far)) (p.at k (omega (arith, less, long)))
        ];
        rising = λ k l h b.
            let first = same-chosen path other notes u.notes orders orders n a k (omega (arith, h, b, count)) in
            elim (cases_eq l n) [
              | inl same ↦
                  let low = p.rising k n (omega (arith, h, same)) inside in
                  let second : chosen_at other l ≡ x = ap (chosen_at other) same ∙ here in
                  subst (λ (y : Chosen). y.mark ≤ (chosen_at other l).mark) (sym first) (subst (λ (y : Chosen). (chosen_at path k).mark ≤ y.mark) (sym second) low)
              | inr ne ↦
                  let second = same-chosen path other notes u.notes orders orders n a l (omega (arith, b, ne, count)) in
                  subst (λ (y : Chosen). y.mark ≤ (chosen_at other l).mark) (sym first) (subst (λ (y : Chosen). (chosen_at path k).mark ≤ y.mark) (sym second) (p.rising k l h (omega (arith, b, count, long))))
            ];
      };
      between = subst (λ y. LiesBetween g (under g y) (has new)) (sym prefix) (narrowed-between law g (choices_before path n) (has d) (has new) c.package j closed cut);
      walks = subst (Walks g choose (root ∷ []) nodes)
          (ap (pending orders path) long ∙ ap (λ xs. behind (choices_before path n) c.package xs ++ pending orders path n) next
          ∙ task-front orders path other notes u.notes n j prefix count here a) w;
    }

-- ---- the state that is tried next

got : (xs : List ℕ) (i x : ℕ) → Some x ≡ slice_get xs i → (i < length xs) × (x ≡ get_or xs i 0)
got [] i x e = absurd (cc)
got (y ∷ ys) zero x e = (omega arith, cc)
got (y ∷ ys) (suc i) x e = let r = got ys i x e in (let h = r.0 in omega (arith, h), r.1)

got-none : (xs : List ℕ) (i : ℕ) → None ≡ slice_get xs i → length xs ≤ i
got-none [] i e = omega arith
got-none (y ∷ ys) zero e = absurd (cc)
got-none (y ∷ ys) (suc i) e = let r = got-none ys i e in omega (arith, r)

pub next-state : (orders : List (List ℕ)) (path : List Chosen) (n : ℕ) (last : Chosen) (j : ℕ) → last ≡ chosen_at path n → Some j ≡ slice_get (get_or orders last.package []) last.tried →
    ((chosen_at path n).tried < length (order_at orders path n)) × (j ≡ get_or (order_at orders path n) (chosen_at path n).tried 0)
next-state orders path n last j at e =
    got (order_at orders path n) (chosen_at path n).tried j (subst (λ (x : Chosen). Some j ≡ slice_get (get_or orders x.package []) x.tried) at e)

pub no-state : (orders : List (List ℕ)) (path : List Chosen) (n : ℕ) (last : Chosen) → last ≡ chosen_at path n → None ≡ slice_get (get_or orders last.package []) last.tried → length (order_at orders path n) ≤ (chosen_at path n).tried
no-state orders path n last at e =
    got-none (order_at orders path n) (chosen_at path n).tried (subst (λ (x : Chosen). None ≡ slice_get (get_or orders x.package []) x.tried) at e)

-- it is left by the choices before
pub next-left : (choose : Choice) → IsChoice choose → (g : Graph) (orders : List (List ℕ)) (path : List Chosen) (notes : List (ℕ × ℕ)) (d : Rows) (t : History) (n j : ℕ) → IsPath choose g orders path notes → length path ≡ suc n → Holds g d t →
    t.notes ≡ take (chosen_at path n).mark notes → (chosen_at path n).tried < length (order_at orders path n) → j ≡ get_or (order_at orders path n) (chosen_at path n).tried 0 → has d (chosen_at path n).package j ≡ true
next-left choose law g orders path notes d t n j p long holds e some is =
    let own = p.at n (omega (arith, long)) in
    let c = chosen_at path n in
    let order = order_at orders path n in
    let listed : Contains order j = (c.tried, some, get_or_default order c.tried j 0 some ∙ sym is) in
    undone g path notes d t n holds e c.package j ∙ own.closed.whole c.package j (law.closed g (choices_before path n) c.package order own.chosen j listed)

-- ---- what the next choice is made from

pub open-path : (choose : Choice) → IsChoice choose → (g : Graph) (orders : List (List ℕ)) (path : List Chosen) (d : Rows) (t : History) (nodes : List Node) → Settled choose g orders path d t nodes → IsWide g d → IsOpenPath g path
open-path choose law g orders path d t nodes w wide =
    let two = several-closed g (under g (prefix_of path)) d wide.place w.closed wide.wide in
    let out = two-free g (prefix_of path) wide.place two.0 two.1 two.2 two.3 two.4 in
    let more = room-for choose law g orders path t.notes wide.place (packages g) w.path_is wide.known out (omega arith) in
    record {
      known = path-known choose law g orders path t.notes w.path_is;
      short = omega (arith, more);
      filled = filled-not-empty g (under g (prefix_of path)) (has d) w.closed w.filled;
    }
