-- Which pairs of states are forbidden, after each step.
use Rattle.std.proofs.Common.{◌≡◌, ◌≢◌, ℕ, ◌<◌, ◌≤◌, Bool, true, false, not, ◌&&◌, ◌||◌, ◌==◌, true≢false, ◌⊎◌, List, length, slice_get, Option, Some, None, Contains, refl, sym, ap, ◌∙◌, subst, inl, inr, arith}
use Rattle.std.proofs.lemmas.Bool.{and_parts, and_from, or_cases, or_left, or_right, eqb-true, eq-eqb}
use Rattle.std.proofs.lemmas.Option.{same_Some, slice_get_within}
use Rattle.jl_versions.specs.Triple.{triple_of}
use Rattle.compat_spec.specs.declared.allowed.Allowed.{Allowed}
use Rattle.compat_spec.specs.declared.allowed.Allowed.TheVariants as kinds
use Rattle.compat_spec.specs.Admitted.{allowed_holds}
use Rattle.offer_terms.specs.Offered.{Text, Id, Allows, allows, Offering}
use Rattle.offer_terms.specs.Booked.{Packed, package_at}
use Rattle.version_graph.specs.Graph.{Graph, is_barred, is_forbidden, is_pair}
use Rattle.book_graph.specs.StandsFor.{id_of, offer_in, Excludes, Depends, IsOutside}
use Rattle.book_graph.specs.Building.{State, Pair, Forbids, EitherWay, UpTo, OfOne, AreThese, IsWith, IsFrom, IsAmong, IsAmongAt, IsOffered, IsAbsent, IsExcludedBy, AreExcludedOf, AreExcluded, IsNumberOf, IsNowhereElse, is_refused}
use Rattle.book_graph.proofs.Steps.{forbids_none, forbids_on, forbids_like}
use Rattle.book_graph.proofs.States.{not_true, all_among, offered_to, among_of, absent_to, absent_of, last_from, none_last}

-- ---- one pair

abbrev IsOnly : ℕ → ℕ → ℕ → ℕ → Pair → Type 0
IsOnly p i q j x = (x.0 ≡ p) × (x.1 ≡ i) × (x.2 ≡ q) × (x.3 ≡ j)

four : (a b c d p i q j : ℕ) → ((a == p && b == i) && (c == q && d == j)) ≡ true → (a ≡ p) × (b ≡ i) × (c ≡ q) × (d ≡ j)
four a b c d p i q j is =
    let both = and_parts (a == p && b == i) (c == q && d == j) is in
    let one = and_parts (a == p) (b == i) both.0 in
    let two = and_parts (c == q) (d == j) both.1 in
    (eqb-true a p one.0, eqb-true b i one.1, eqb-true c q two.0, eqb-true d j two.1)

from_four : (a b c d p i q j : ℕ) → a ≡ p → b ≡ i → c ≡ q → d ≡ j → ((a == p && b == i) && (c == q && d == j)) ≡ true
from_four a b c d p i q j e f g h =
    and_from (a == p && b == i) (c == q && d == j) (and_from (a == p) (b == i) (eq-eqb a p e) (eq-eqb b i f)) (and_from (c == q) (d == j) (eq-eqb c q g) (eq-eqb d j h))

pub forbids_one : (old new : Graph) (p i q j : ℕ) (T : Pair → Type 0) → new.sizes ≡ old.sizes → ((a b : ℕ) → is_barred new a b ≡ is_barred old a b) →
    ((a b c d : ℕ) → is_forbidden new a b c d ≡ (is_forbidden old a b c d || is_pair a b c d p i q j)) →
    ((x : Pair) → IsOnly p i q j x → T x) → ((x : Pair) → T x → IsOnly p i q j x) → Forbids old new T
forbids_one old new p i q j T sizes barred forbidden to back = record {
  sizes = sizes;
  alike = barred;
  adds = record {
    keeps = λ x is. forbidden x.0 x.1 x.2 x.3 ∙ or_left (is_forbidden old x.0 x.1 x.2 x.3) (is_pair x.0 x.1 x.2 x.3 p i q j) is;
    sound = λ x is. elim (or_cases (is_forbidden old x.0 x.1 x.2 x.3) (is_pair x.0 x.1 x.2 x.3 p i q j) (sym (forbidden x.0 x.1 x.2 x.3) ∙ is)) [
      | inl before ↦ inl before
      | inr here ↦ inr (either_of x here)
    ];
    whole = λ x t. forbidden x.0 x.1 x.2 x.3 ∙ or_right (is_forbidden old x.0 x.1 x.2 x.3) (is_pair x.0 x.1 x.2 x.3 p i q j) (pair_of x t);
  };
}
  where
    either_of : (x : Pair) → is_pair x.0 x.1 x.2 x.3 p i q j ≡ true → EitherWay T x
    either_of x is = elim (or_cases ((x.0 == p && x.1 == i) && (x.2 == q && x.3 == j)) ((x.0 == q && x.1 == j) && (x.2 == p && x.3 == i)) is) [
      | inl one ↦ inl (to x (four x.0 x.1 x.2 x.3 p i q j one))
      | inr two ↦ (let at = four x.0 x.1 x.2 x.3 q j p i two in inr (to (x.2, x.3, x.0, x.1) (at.2, at.3, at.0, at.1)))
    ]

    pair_of : (x : Pair) → EitherWay T x → is_pair x.0 x.1 x.2 x.3 p i q j ≡ true
    pair_of x e = elim e [
      | inl t ↦
          let at = back x t in
          or_left ((x.0 == p && x.1 == i) && (x.2 == q && x.3 == j)) ((x.0 == q && x.1 == j) && (x.2 == p && x.3 == i)) (from_four x.0 x.1 x.2 x.3 p i q j at.0 at.1 at.2 at.3)
      | inr t ↦
          let at = back (x.2, x.3, x.0, x.1) t in
          or_right ((x.0 == p && x.1 == i) && (x.2 == q && x.3 == j)) ((x.0 == q && x.1 == j) && (x.2 == p && x.3 == i)) (from_four x.0 x.1 x.2 x.3 q j p i at.2 at.3 at.0 at.1)
    ]

pub forbids_these : (old new : Graph) (p i q j : ℕ) (wanted : Bool) → wanted ≡ true → new.sizes ≡ old.sizes → ((a b : ℕ) → is_barred new a b ≡ is_barred old a b) →
    ((a b c d : ℕ) → is_forbidden new a b c d ≡ (is_forbidden old a b c d || is_pair a b c d p i q j)) → Forbids old new (AreThese p i q j wanted)
forbids_these old new p i q j wanted due sizes barred forbidden = forbids_one old new p i q j (AreThese p i q j wanted) sizes barred forbidden
    (λ x at. record { first = at.0; first_state = at.1; second = at.2; second_state = at.3; due = due })
    (λ x t. (t.first, t.first_state, t.second, t.second_state))

pub forbids_unwanted : (g : Graph) (p i q j : ℕ) (wanted : Bool) → wanted ≡ false → Forbids g g (AreThese p i q j wanted)
forbids_unwanted g p i q j wanted out = forbids_none g (AreThese p i q j wanted) (λ x t. true≢false (sym t.due ∙ out))

-- ---- another package's offers

abbrev pub with_place : ℕ → ℕ → ℕ → List Offering → (Offering → Bool) → ℕ → Pair → Type 0
with_place p i q offers test k = IsWith p i (IsAmongAt q offers test k)

pub with_next : (old new : Graph) (p i q k : ℕ) (offers : List Offering) (test : Offering → Bool) (y : Offering) (wanted : Bool) → slice_get offers k ≡ Some y → wanted ≡ test y →
    Forbids old new (AreThese p i q k wanted) → Forbids old new (with_place p i q offers test k)
with_next old new p i q k offers test y wanted there told b = forbids_like old new (AreThese p i q k wanted) (with_place p i q offers test k) b
    (λ x t. record {
      first = t.first;
      first_state = t.first_state;
      other = record { state_is = t.second_state; among = record { package_is = t.second; offer = y; there = ap (slice_get offers) t.second_state ∙ there; passes = sym told ∙ t.due } };
    })
    (λ x a. record {
      first = a.first;
      first_state = a.first_state;
      second = a.other.among.package_is;
      second_state = a.other.state_is;
      due = told ∙ ap test (same_Some y a.other.among.offer (sym there ∙ ap (slice_get offers) (sym a.other.state_is) ∙ a.other.among.there)) ∙ a.other.among.passes;
    })

pub forbids_among : (old new : Graph) (p i q : ℕ) (offers : List Offering) (test : Offering → Bool) (n : ℕ) → length offers ≤ n → Forbids old new (UpTo (with_place p i q offers test) n) →
    Forbids old new (IsWith p i (IsAmong q offers test))
forbids_among old new p i q offers test n past b = forbids_like old new (UpTo (with_place p i q offers test) n) (IsWith p i (IsAmong q offers test)) b
    (λ x u. record { first = u.here.first; first_state = u.here.first_state; other = u.here.other.among })
    (λ x a. let u = all_among q offers test n past (x.2, x.3) a.other in
    record { place = u.place; below = u.below; here = record { first = a.first; first_state = a.first_state; other = u.here } })

-- ---- another package of the book

pub forbids_offered : (old new : Graph) (book : List Packed) (u : Id) (p i q : ℕ) (offers : List Offering) (test told : Offering → Bool) → IsNumberOf book u q → q ≢ p → offers ≡ (package_at book q).offers →
    ((y : Offering) → test y ≡ told y) → Forbids old new (IsWith p i (IsAmong q offers test)) → Forbids old new (IsFrom p i (IsOffered book u told))
forbids_offered old new book u p i q offers test told number ne is alike b =
    forbids_like old new (IsWith p i (IsAmong q offers test)) (IsFrom p i (IsOffered book u told)) b
    (λ x a. record {
      first = a.first;
      first_state = a.first_state;
      apart = λ e. ne (sym a.other.package_is ∙ e);
      other = offered_to book u q offers told number is (x.2, x.3) (record { package_is = a.other.package_is; offer = a.other.offer; there = a.other.there; passes = sym (alike a.other.offer) ∙ a.other.passes });
    })
    (λ x f. let a = among_of book u q offers told number is (x.2, x.3) f.other in
    record { first = f.first; first_state = f.first_state; other = record { package_is = a.package_is; offer = a.offer; there = a.there; passes = alike a.offer ∙ a.passes } })

pub offered_nowhere_else : (g : Graph) (book : List Packed) (u : Id) (p i : ℕ) (test : Offering → Bool) → IsNowhereElse book u p → Forbids g g (IsFrom p i (IsOffered book u test))
offered_nowhere_else g book u p i test none = forbids_none g (IsFrom p i (IsOffered book u test)) (λ x f. f.apart (none x.2 f.other.known f.other.named))

pub forbids_absent : (old new : Graph) (book : List Packed) (u : Id) (p i q j : ℕ) → IsNumberOf book u q → q ≢ p → j ≡ length (package_at book q).offers → Forbids old new (AreThese p i q j true) →
    Forbids old new (IsFrom p i (IsAbsent book u))
forbids_absent old new book u p i q j number ne last b = forbids_like old new (AreThese p i q j true) (IsFrom p i (IsAbsent book u)) b
    (λ x t. record { first = t.first; first_state = t.first_state; apart = λ e. ne (sym t.second ∙ e); other = absent_to book u q number (x.2, x.3) t.second (t.second_state ∙ last) })
    (λ x f. let at = absent_of book u q number (x.2, x.3) f.other in
    record { first = f.first; first_state = f.first_state; second = at.0; second_state = at.1 ∙ sym last; due = refl })

pub absent_nowhere_else : (g : Graph) (book : List Packed) (u : Id) (p i : ℕ) → IsNowhereElse book u p → Forbids g g (IsFrom p i (IsAbsent book u))
absent_nowhere_else g book u p i none = forbids_none g (IsFrom p i (IsAbsent book u)) (λ x f. f.apart (none x.2 f.other.known f.other.named))

-- the entry, without the room of its list, refuses the same
pub entry_refuses : (entry : Allowed) (y : Offering) → not (allowed_holds entry (triple_of y.version)) ≡ is_refused (allows entry) y
entry_refuses (kinds.Spec parts) y = refl
entry_refuses (kinds.Ranges set) y = refl

-- ---- what one offer excludes

module _ (book : List Packed) (p i : ℕ) (x : Offering) where
  abbrev pub by_deps : Pair → Type 0
  by_deps = OfOne (λ (d : Text × Id). IsFrom p i (IsAbsent book d.1)) x.deps

  abbrev pub by_compat : Pair → Type 0
  by_compat = OfOne (λ (e : Id × Allows). IsFrom p i (IsOffered book e.0 (is_refused e.1))) x.compat

  abbrev ByOffer : Pair → Type 0
  ByOffer = IsFrom p i (IsExcludedBy book (Some x))

  excluded_absent : (y : Pair) → by_deps y → ByOffer y
  excluded_absent y o = record {
    first = o.here.first;
    first_state = o.here.first_state;
    apart = o.here.apart;
    other = record {
      known = o.here.other.known;
      state = let last = o.here.other.last in omega (arith, last);
      excluded = subst (λ (f : Option Offering). Excludes (Some x) (id_of book y.2) f) (sym (ap (offer_in book y.2) o.here.other.last ∙ none_last (package_at book y.2).offers))
          (record { name = o.item.0; there = subst (λ (d : Text × Id). Contains x.deps d) (λ k. (o.item.0, sym o.here.other.named k)) o.there });
    };
  }

  excluded_offer : (y : Pair) → by_compat y → ByOffer y
  excluded_offer y o = record {
    first = o.here.first;
    first_state = o.here.first_state;
    apart = o.here.apart;
    other = record {
      known = o.here.other.known;
      state = let inside = slice_get_within (package_at book y.2).offers y.3 o.here.other.offer o.here.other.there in omega (arith, inside);
      excluded = subst (λ (f : Option Offering). Excludes (Some x) (id_of book y.2) f) (sym o.here.other.there)
          (record { entry = o.item.1; there = subst (λ (e : Id × Allows). Contains x.compat e) (λ k. (sym o.here.other.named k, o.item.1)) o.there; outside = not_true _ o.here.other.passes });
    };
  }

  by_either : (y : Pair) → ByOffer y → by_deps y ⊎ by_compat y
  by_either y f = elim (offer_in book y.2 y.3) as (λ (o : Option Offering). offer_in book y.2 y.3 ≡ o → Excludes (Some x) (id_of book y.2) o → by_deps y ⊎ by_compat y) [
    | None ↦ λ none (d : Depends x (id_of book y.2)). inl (record {
      item = (d.name, id_of book y.2);
      there = d.there;
      here = record { first = f.first; first_state = f.first_state; apart = f.apart; other = record { known = f.other.known; named = refl; last = last_from (package_at book y.2).offers y.3 f.other.state none } };
    })
    | Some z ↦ λ there (e : IsOutside x (id_of book y.2) z.version). inr (record {
      item = (id_of book y.2, e.entry);
      there = e.there;
      here = record { first = f.first; first_state = f.first_state; apart = f.apart; other = record { known = f.other.known; named = refl; offer = z; there = there; passes = ap not e.outside } };
    })
  ] refl f.other.excluded

  pub forbids_by_offer : (a b c : Graph) → Forbids a b by_deps → Forbids b c by_compat → Forbids a c ByOffer
  forbids_by_offer a b c d e = forbids_on a b c by_deps by_compat ByOffer d e excluded_absent excluded_offer by_either

-- ---- what the offers of a package exclude, and those of all

abbrev pub of_state : List Packed → ℕ → ℕ → Pair → Type 0
of_state book p i = IsFrom p i (IsExcludedBy book (offer_in book p i))

pub state_excludes : (old new : Graph) (book : List Packed) (p i : ℕ) (x : Offering) → offer_in book p i ≡ Some x → Forbids old new (IsFrom p i (IsExcludedBy book (Some x))) → Forbids old new (of_state book p i)
state_excludes old new book p i x there b = subst (λ (o : Option Offering). Forbids old new (IsFrom p i (IsExcludedBy book o))) (sym there) b

excluder_inside : (book : List Packed) (p i : ℕ) (y : State) → IsExcludedBy book (offer_in book p i) y → i < length (package_at book p).offers
excluder_inside book p i y e = elim (offer_in book p i) as (λ (o : Option Offering). offer_in book p i ≡ o → Excludes o (id_of book y.0) (offer_in book y.0 y.1) → i < length (package_at book p).offers) [
  | None ↦ λ none excluded. absurd excluded
  | Some x ↦ λ there excluded. slice_get_within (package_at book p).offers i x there
] refl e.excluded

pub forbids_of_package : (old new : Graph) (book : List Packed) (p n : ℕ) → length (package_at book p).offers ≤ n → Forbids old new (UpTo (of_state book p) n) → Forbids old new (AreExcludedOf book p)
forbids_of_package old new book p n past b = forbids_like old new (UpTo (of_state book p) n) (AreExcludedOf book p) b
    (λ x u. record { first = u.here.first; apart = u.here.apart; other = subst (λ k. IsExcludedBy book (offer_in book p k) (x.2, x.3)) (sym u.here.first_state) u.here.other })
    (λ x a. let inside = excluder_inside book p x.1 (x.2, x.3) a.other in
    record { place = x.1; below = omega (arith, inside, past); here = record { first = a.first; first_state = refl; apart = a.apart; other = a.other } })

pub forbids_of_all : (old new : Graph) (book : List Packed) (n : ℕ) → n ≡ length book → Forbids old new (UpTo (AreExcludedOf book) n) → Forbids old new (AreExcluded book)
forbids_of_all old new book n whole b = forbids_like old new (UpTo (AreExcludedOf book) n) (AreExcluded book) b
    (λ x u. let below = u.below in record {
      first = subst (λ k. k < length book) (sym u.here.first) (omega (arith, below, whole));
      apart = λ e. u.here.apart (sym e ∙ u.here.first);
      other = subst (λ k. IsExcludedBy book (offer_in book k x.1) (x.2, x.3)) (sym u.here.first) u.here.other;
    })
    (λ x a. let first = a.first in record { place = x.0; below = omega (arith, first, whole); here = record { first = refl; apart = λ e. a.apart (sym e); other = a.other } })
