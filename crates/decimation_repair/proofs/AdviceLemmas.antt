-- How messages are heard at a cut prefix: the full domains are cut to its choices and closed.
use Rattle.std.proofs.Common.{◌≡◌, ℕ, zero, suc, ◌*◌, ◌/◌, ◌<◌, ◌≤◌, true, not, ◌||◌, List, [], ◌∷◌, length, get_or, take, refl, sym, ◌∙◌, ap, subst, arith, inl, inr, eqb}
use Rattle.std.proofs.Math.Path.{fun_ext}
use Rattle.std.proofs.lemmas.Bool.{and_parts, and_from, eqb-true, eq-eqb, cases_Bool}
use Rattle.std.proofs.lemmas.List.{get_or-take, get_or-map, ext_get_or, length-take-le, length-map, take-map}
use Rattle.std.proofs.lemmas.Nat.{div-add-mod', mod_below}
use Rattle.version_graph.specs.Graph.{Graph, packages, is_offered}
use Rattle.version_graph.specs.Family.{HasEmpty, IsClosureOf, agrees, under}
use Rattle.version_graph.specs.Domain.{Rows, has, IsFor}
use Rattle.version_graph.specs.Noted.{History, Holds, left_by, is_noted}
use Rattle.version_graph.proofs.FamilyLemmas.{closure-largest, below_within}
use Rattle.graph_pruning.specs.Closing.{IsClosedFrom}
use Rattle.maxsum_messages.specs.Field.{AreFieldsFor}
use Rattle.maxsum_messages.specs.Post.{Post, IsPostFor}
use Rattle.maxsum_messages.specs.Kept.{AreAligned}
use Rattle.maxsum_messages.specs.Choice.{IsSingle, IsChosen, AreInOrder}
use Rattle.maxsum_messages.specs.Belief.{belief}
use Rattle.decimation_repair.specs.Choice.{IsCutOf, AreHeard, BeliefChoice}
use Rattle.decimation_repair.specs.Levels.{Levels, zero_levels, plus_levels, minus_levels, compare_levels}
use Rattle.decimation_repair.specs.Path.{nothing, chosen_at, prefix_of, choices_before}
use Rattle.decimation_repair.specs.Advised.{IsOpenPath, IsWide}
use Rattle.decimation_repair.specs.declared.path.Chosen.{Chosen}
use Rattle.decimation_repair.proofs.StandLemmas.{several-left}

abbrev as_pair : Chosen → ℕ × ℕ
as_pair c = (c.package, c.state)

-- ---- domains that are cut to choices

-- at first there are no choices
pub no-choices : (g : Graph) (path : List Chosen) (d : Rows) (t : History) → Holds g d t → t.notes ≡ [] → (p i : ℕ) → has d p i ≡ under g (choices_before path 0) p i
unfolding left_by is_noted
no-choices g path d t h e p i = h.left p i ∙ ap (λ l. left_by g l p i) e

agrees-at : (path : List Chosen) (k p i : ℕ) → k < length path → (chosen_at path k).package ≡ p → agrees (prefix_of path) p i ≡ true → i ≡ (chosen_at path k).state
agrees-at [] k p i h e a = absurd (omega (arith, h))
agrees-at (c ∷ path) zero p i h e a =
    let parts = and_parts (not (eqb p c.package) || eqb i c.state) (agrees (prefix_of path) p i) a in
    let here : eqb p c.package ≡ true = eq-eqb p c.package (sym e) in
    eqb-true i c.state (ap (λ v. not v || eqb i c.state) (sym here) ∙ parts.0)
agrees-at (c ∷ path) (suc k) p i h e a = agrees-at path k p i (omega (arith, h)) e (and_parts (not (eqb p c.package) || eqb i c.state) (agrees (prefix_of path) p i) a).1

agrees-before : (path : List Chosen) (k p i : ℕ) → agrees (prefix_of path) p i ≡ true → agrees (choices_before path k) p i ≡ true
agrees-before path zero p i a = refl
agrees-before [] (suc k) p i a = refl
agrees-before (c ∷ path) (suc k) p i a =
    let parts = and_parts (not (eqb p c.package) || eqb i c.state) (agrees (prefix_of path) p i) a in
    and_from (not (eqb p c.package) || eqb i c.state) (agrees (choices_before path k) p i) parts.0 (agrees-before path k p i parts.1)

under-before : (g : Graph) (path : List Chosen) (k p i : ℕ) → under g (prefix_of path) p i ≡ true → under g (choices_before path k) p i ≡ true
under-before g path k p i e =
    let parts = and_parts (is_offered g p i) (agrees (prefix_of path) p i) e in
    and_from (is_offered g p i) (agrees (choices_before path k) p i) parts.0 (agrees-before path k p i parts.1)

-- each choice's state is left by the choices before
pub choice-left : (g : Graph) (path : List Chosen) (k : ℕ) → IsOpenPath g path → k < length path → under g (choices_before path k) (chosen_at path k).package (chosen_at path k).state ≡ true
choice-left g path k o h =
    let c = chosen_at path k in
    elim (cases_Bool (under g (choices_before path k) c.package c.state)) [
      | inl is ↦ is
      | inr out ↦ absurd (o.filled (record {
        place = c.package;
        known = o.known k h;
        none = λ i there.
            let within = (closure-largest g (under g (prefix_of path))).within c.package i there in
            let same = agrees-at path k c.package i h refl (and_parts (is_offered g c.package i) (agrees (prefix_of path) c.package i) within).1 in
            let is : under g (choices_before path k) c.package c.state ≡ true = subst (λ j. under g (choices_before path k) c.package j ≡ true) same (under-before g path k c.package i within) in
            absurd (cc);
      }))
    ]

-- ---- the closure under choices

same-as-under : (g : Graph) (path : List Chosen) (d : Rows) → ((p i : ℕ) → has d p i ≡ under g (prefix_of path) p i) → has d ≡ under g (prefix_of path)
same-as-under g path d e = fun_ext (λ p. fun_ext (λ i. e p i))

pub closed-under : (g : Graph) (path : List Chosen) (d new : Rows) → ((p i : ℕ) → has d p i ≡ under g (prefix_of path) p i) → IsClosedFrom g (has d) (has new) → IsClosureOf g (under g (prefix_of path)) (has new)
closed-under g path d new e c = subst (λ f. IsClosureOf g f (has new)) (same-as-under g path d e) c.closure

pub never-emptied : (g : Graph) (path : List Chosen) (d : Rows) → IsOpenPath g path → ((p i : ℕ) → has d p i ≡ under g (prefix_of path) p i) → HasEmpty g (has d) → ⊥
never-emptied g path d o e h = o.filled (subst (HasEmpty g) (same-as-under g path d e) h)

-- ---- the prefix cut to a block

pub cut-open : (g : Graph) (path : List Chosen) (n : ℕ) → n ≤ length path → IsOpenPath g path → IsOpenPath g (take n path)
cut-open g path n low o =
    let long : length (take n path) ≡ n = length-take-le n path low in
    record {
      known = λ k h. subst (λ (c : Chosen). c.package < packages g) (sym (get_or-take n path k nothing (omega (arith, h, long)))) (o.known k (omega (arith, h, long, low)));
      short = (let few = o.short in omega (arith, long, low, few));
      filled = λ h. o.filled (record {
        place = h.place;
        known = h.known;
        none = λ i there. h.none i ((below_within g (under g (prefix_of path)) (under g (choices_before path n)) (record { at = λ p j e. under-before g path n p j e })).below h.place i there);
      });
    }

pub block-inside : (n : ℕ) → 16 * (n / 16) ≤ n
block-inside n = let parts = div-add-mod' n 16 in omega (arith, parts)

pub cut-of : (path : List Chosen) → IsCutOf (prefix_of path) (prefix_of (take (16 * (length path / 16)) path))
cut-of path =
    let n = length path in
    let long : length (prefix_of path) ≡ n = length-map path as_pair in
    let parts = div-add-mod' n 16 in
    let rest = mod_below n 16 (omega arith) in
    record {
      blocks = n / 16;
      inside = omega (arith, long, parts);
      most = omega (arith, long, parts, rest);
      cut_is = sym (take-map as_pair (16 * (n / 16)) path);
    }

-- the same states of the same packages
pub same-choices : (one other : List Chosen) → length one ≡ length other → ((k : ℕ) → k < length one → (chosen_at one k).package ≡ (chosen_at other k).package) →
    ((k : ℕ) → k < length one → (chosen_at one k).state ≡ (chosen_at other k).state) → prefix_of one ≡ prefix_of other
same-choices one other long p s =
    let a = length-map one as_pair in
    let b = length-map other as_pair in
    ext_get_or (0, 0) (prefix_of one) (prefix_of other) (omega (arith, a, b, long)) (λ k h.
    let inside : k < length one = omega (arith, h, a) in
    let pair : as_pair (chosen_at one k) ≡ as_pair (chosen_at other k) = λ i. (p k inside i, s k inside i) in
    get_or-map as_pair one k nothing (0, 0) inside ∙ pair ∙ sym (get_or-map as_pair other k nothing (0, 0) (omega (arith, inside, long))))

-- ---- the choice

pub believed : (f : List (List Levels)) (g : Graph) (path cut : List Chosen) (m : Post Levels) (d : Rows) (p : ℕ) (order : List ℕ) → cut ≡ take (16 * (length path / 16)) path → AreHeard f g (prefix_of cut) m →
    IsClosureOf g (under g (prefix_of path)) (has d) → IsPostFor g m → IsChosen compare_levels minus_levels (length m.sizes) (has d) (belief zero_levels plus_levels f m) p →
    AreInOrder compare_levels (has d p) (belief zero_levels plus_levels f m p) order → BeliefChoice f g (prefix_of path) p order
believed f g path cut m d p order e heard closure made chosen in_order = record {
  cut = prefix_of cut;
  cut_is = subst (λ l. IsCutOf (prefix_of path) (prefix_of l)) (sym e) (cut-of path);
  messages = m;
  heard = heard;
  closed = has d;
  closure = closure;
  chosen = subst (λ n. IsChosen compare_levels minus_levels n (has d) (belief zero_levels plus_levels f m) p) (ap length made.sizes) chosen;
  in_order = in_order;
}

pub aligned : {W : Type 0} (g : Graph) (m : Post W) (f : List (List W)) (d : Rows) → IsPostFor g m → AreFieldsFor g f → IsFor g d → AreAligned m.sizes f d
aligned g m f d made fields shape =
    let same = made.sizes in
    let count = ap length same in
    record {
      fields = fields.each ∙ sym count;
      field_places = λ p h. fields.wide p (omega (arith, h, count)) ∙ ap (λ (l : List ℕ). get_or l p 0) (sym same);
      domains = shape.each ∙ sym count;
      domain_places = λ p h. shape.wide p (omega (arith, h, count)) ∙ ap (λ (l : List ℕ). get_or l p 0) (sym same);
    }

pub wide-not-single : {W : Type 0} (g : Graph) (m : Post W) (d : Rows) → IsPostFor g m → IsWide g d → ((p : ℕ) → p < length m.sizes → IsSingle (has d p)) → ⊥
wide-not-single g m d made w single =
    let two = several-left d w.place w.wide in
    let count = ap length made.sizes in
    two.2 (single w.place (let known = w.known in omega (arith, known, count)) two.0 two.1 two.3 two.4)
