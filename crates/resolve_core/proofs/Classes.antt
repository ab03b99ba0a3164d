-- The classes that are listed so far.
use Rattle.std.proofs.Common.{◌≡◌, ◌≢◌, ℕ, ◌+◌, ◌<◌, Bool, true, false, cond, ◌&&◌, ◌==◌, List, [], ◌∷◌, ◌++◌, length, map, filter, get_or, set, length-set, append-nil, Result, Ok, Err, IfOk, refl, sym, ap, ◌∙◌, inl, inr, arith}
use Rattle.std.specs.List.{flat_map, range_with_len}
use Rattle.std.proofs.lemmas.Bool.{eq-eqb, ne_eqb, cases_lt}
use Rattle.std.proofs.lemmas.Grind.{flat_map-append}
use Rattle.std.proofs.lemmas.List.{map-append, get_or-map, get_or_past, get_or-set_same, get_or-set_other, length-map}
use Rattle.pkg_world.specs.Listing.{Listing}
use Rattle.version_graph.specs.Graph.{Graph, packages, states, OfferedIsKnown}
use Rattle.version_graph.specs.Family.{Family}
use Rattle.version_graph.proofs.ListLemmas.{filter-range-more}
use Rattle.graph_pruning.specs.Pruned.{Pruning, left}
use Rattle.version_graph.specs.Domain.{has}
use Rattle.version_graph.specs.Noted.{History, Holds, HeldIsOffered}
use Rattle.graph_pruning.specs.Marked.{does_stand, standing_in, IsPruned}
use Rattle.resolve_core.specs.Classed.{ClassSaid, class_of, classes_of, members_of, classes_below, classes_in, HasStates, items_at}

-- ---- members

-- a state that isn't left has no class
pub members_same : (f : Family) (standing : ℕ → ℕ → ℕ) (p i s : ℕ) (xs : List ℕ) → f p i ≡ false → xs ≡ xs ++ cond (f p i && (standing p i == s)) (i ∷ []) []
members_same f standing p i s xs out = sym (append-nil xs) ∙ ap (λ b. xs ++ cond (b && (standing p i == s)) (i ∷ []) []) (sym out)

pub members_here : (f : Family) (standing : ℕ → ℕ → ℕ) (p i s : ℕ) (xs : List ℕ) → f p i ≡ true → standing p i ≡ s → xs ++ i ∷ [] ≡ xs ++ cond (f p i && (standing p i == s)) (i ∷ []) []
members_here f standing p i s xs left_ same = λ n. xs ++ cond (sym left_ n && sym (eq-eqb (standing p i) s same) n) (i ∷ []) []

pub members_apart : (f : Family) (standing : ℕ → ℕ → ℕ) (p i s : ℕ) (xs : List ℕ) → f p i ≡ true → s ≢ standing p i → xs ≡ xs ++ cond (f p i && (standing p i == s)) (i ∷ []) []
members_apart f standing p i s xs left_ ne = sym (append-nil xs) ∙ (λ n. xs ++ cond (sym left_ n && sym (ne_eqb (standing p i) s (λ e. ne (sym e))) n) (i ∷ []) [])

pub members_next : (f : Family) (standing : ℕ → ℕ → ℕ) (p i s : ℕ) → members_of f standing p (i + 1) s ≡ members_of f standing p i s ++ cond (f p i && (standing p i == s)) (i ∷ []) []
members_next f standing p i s = filter-range-more (λ k. f p k && (standing p k == s)) i

-- ---- the classes of one package

-- the classes of the first states of p
abbrev pub class_list : Family → (ℕ → ℕ → ℕ) → ℕ → ℕ → ℕ → List ClassSaid
class_list f standing p n s = map (class_of f standing p n) (filter (does_stand f standing p) (range_with_len 0 s))

mapped_cond : {X Y : Type 0} (f : X → Y) (b : Bool) (x : X) → map f (cond b (x ∷ []) []) ≡ cond b (f x ∷ []) []
mapped_cond f true x = refl
mapped_cond f false x = refl

pub class_next : (f : Family) (standing : ℕ → ℕ → ℕ) (p n s : ℕ) → class_list f standing p n (s + 1) ≡ class_list f standing p n s ++ cond (does_stand f standing p s) (class_of f standing p n s ∷ []) []
class_next f standing p n s =
    ap (map (class_of f standing p n)) (filter-range-more (does_stand f standing p) s)
    ∙ map-append (class_of f standing p n) (filter (does_stand f standing p) (range_with_len 0 s)) (cond (does_stand f standing p s) (s ∷ []) [])
    ∙ ap (λ r. class_list f standing p n s ++ r) (mapped_cond (class_of f standing p n) (does_stand f standing p s) s)

-- ---- all packages

flat_cond : {X Y : Type 0} (f : X → List Y) (b : Bool) (x : X) → flat_map f (cond b (x ∷ []) []) ≡ cond b (f x) []
flat_cond f true x = append-nil (f x)
flat_cond f false x = refl

pub package_next : (g : Graph) (f : Family) (standing : ℕ → ℕ → ℕ) (kept : ℕ → Bool) (n : ℕ) →
    classes_below g f standing kept (n + 1) ≡ classes_below g f standing kept n ++ cond (kept n) (classes_of f standing n (states g n)) []
package_next g f standing kept n =
    ap (flat_map (λ p. classes_of f standing p (states g p))) (filter-range-more kept n)
    ∙ flat_map-append (λ p. classes_of f standing p (states g p)) (filter kept (range_with_len 0 n)) (cond (kept n) (n ∷ []) [])
    ∙ ap (λ r. classes_below g f standing kept n ++ r) (flat_cond (λ p. classes_of f standing p (states g p)) (kept n) n)

pub all_listed : (g : Graph) (f : Family) (pr : Pruning) → ((p i : ℕ) → f p i ≡ left g pr p i) → classes_below g f pr.standing pr.kept (packages g) ≡ classes_in g pr
all_listed g f pr same = λ k. classes_below g (λ p i. same p i k) pr.standing pr.kept (packages g)

-- ---- what listing the classes of a package asks

pub has_states : (g : Graph) (d : List (List Bool)) (marks : List Bool) (rows : List (List ℕ)) (open_ : Bool) (t : History) → HeldIsOffered → OfferedIsKnown → Holds g d t → IsPruned g (has d) marks rows open_ →
    (p : ℕ) → p < packages g → HasStates d rows p (states g p)
has_states g d marks rows open_ t offered known holds pruned p inside = record {
  known = omega (arith, inside, holds.shape.each);
  wide = holds.shape.wide p inside;
  listed = omega (arith, inside, pruned.shape.each);
  long = pruned.shape.wide p inside;
  below = λ i state here.
      let stands = pruned.pruning.classes.stands p i (sym (pruned.domains p i) ∙ here) in
      (known g p (standing_in rows p i) (offered g d t holds p (standing_in rows p i) (pruned.domains p (standing_in rows p i) ∙ stands.same.second))).state;
}

-- ---- one list of a vector

items_read : (lists : List (Listing ℕ)) (s : ℕ) (l : Listing ℕ) → s < length lists → items_at lists s ≡ (get_or lists s l).items
items_read lists s l inside = get_or-map (λ (x : Listing ℕ). x.items) lists s l [] inside

pub items_set_here : (lists : List (Listing ℕ)) (place : ℕ) (l : Listing ℕ) → place < length lists → items_at (set lists place l) place ≡ l.items
items_set_here lists place l inside =
    items_read (set lists place l) place l (omega (arith, inside, length-set lists place l)) ∙ ap (λ (x : Listing ℕ). x.items) (get_or-set_same lists place l l inside)

pub items_set_other : (lists : List (Listing ℕ)) (place s : ℕ) (l : Listing ℕ) → s ≢ place → items_at (set lists place l) s ≡ items_at lists s
items_set_other lists place s l ne = elim (cases_lt s (length lists)) [
  | inl inside ↦
      items_read (set lists place l) s l (omega (arith, inside, length-set lists place l)) ∙ ap (λ (x : Listing ℕ). x.items) (get_or-set_other lists place s l l ne) ∙ sym (items_read lists s l inside)
  | inr past ↦
      get_or_past (map (λ (x : Listing ℕ). x.items) (set lists place l)) s [] (omega (arith, past, length-set lists place l, length-map (set lists place l) (λ (x : Listing ℕ). x.items)))
      ∙ sym (get_or_past (map (λ (x : Listing ℕ). x.items) lists) s [] (omega (arith, past, length-map lists (λ (x : Listing ℕ). x.items))))
]

pub items_of : (lists : List (Listing ℕ)) (place : ℕ) (l : Listing ℕ) → place < length lists → l ≡ get_or lists place l → items_at lists place ≡ l.items
items_of lists place l inside is = items_read lists place l inside ∙ ap (λ (x : Listing ℕ). x.items) (sym is)

pub if_listed : {T E : Type 0} (r : Result T E) {P Q : T → Type 0} → ((x : T) → P x → Q x) → IfOk r P → IfOk r Q
if_listed (Ok x) f is = f x is
if_listed (Err e) f is = tt
