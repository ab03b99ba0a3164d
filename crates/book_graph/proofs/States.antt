-- Which states are forbidden alone, after each step.
use Rattle.std.proofs.Common.{◌≡◌, ◌≢◌, ℕ, zero, suc, ◌+◌, ◌<◌, ◌≤◌, Bool, true, false, not, ◌||◌, ◌==◌, true≢false, ◌⊎◌, List, [], ◌∷◌, ◌++◌, length, slice_get, Option, Some, None, Contains, refl, sym, ap, ◌∙◌, subst, inl, inr, arith}
use Rattle.std.specs.Ordering.{eq_by_cmp}
use Rattle.std.specs.Str.{bytes_eq}
use Rattle.std.proofs.lemmas.Bool.{and_parts, and_from, or_cases, or_left, or_right, eqb-true, eq-eqb, cases_lt}
use Rattle.std.proofs.lemmas.List.Elements.{Contains-append_left, Contains-append_right, Contains-append_cases}
use Rattle.std.proofs.lemmas.List.Folds.{Any-from_list_any, list_any-from_Any}
use Rattle.std.proofs.lemmas.Option.{none-some, same_Some, slice_get_within, slice_get_past}
use Rattle.jl_versions.specs.Order.{version_cmp}
use Rattle.jl_versions.specs.OrderLaws.{eq_is_same}
use Rattle.jl_versions.specs.declared.version.Version.{Version}
use Rattle.compat_spec.specs.declared.part.Part.{Part}
use Rattle.package_tables.specs.Row.{julia_id}
use Rattle.offer_terms.specs.Offered.{Text, Id, Allows, allows_holds, Offering}
use Rattle.offer_terms.specs.Booked.{Packed, package_at}
use Rattle.offer_terms.specs.Demanded.{Wanted}
use Rattle.version_graph.specs.Graph.{Graph, is_barred, is_forbidden, is_state}
use Rattle.book_graph.specs.StandsFor.{id_of, offer_in, state_count, IsRoot, ShutsOffer, at_julia, at_project, at_pin, Shuts}
use Rattle.book_graph.specs.Building.{State, Bars, UpTo, OfOne, IsThis, IsAmong, IsAmongAt, IsOffered, IsAbsent, IsAnywhere, IsShut, IsNumberOf, IsNowhere, is_outside, is_other, refuses_entry, refuses_julia}
use Rattle.book_graph.proofs.Ids.{same_id, id_itself}
use Rattle.book_graph.proofs.Steps.{bars_none, bars_on, bars_like}

pub not_true : (b : Bool) → not b ≡ true → b ≡ false
not_true true is = absurd (true≢false (sym is))
not_true false is = refl

-- ---- one state

at_state : (q j p i : ℕ) → is_state q j p i ≡ true → (q ≡ p) × (j ≡ i)
at_state q j p i is = let parts = and_parts (q == p) (j == i) is in (eqb-true q p parts.0, eqb-true j i parts.1)

is_at_state : (q j p i : ℕ) → q ≡ p → j ≡ i → is_state q j p i ≡ true
is_at_state q j p i a b = and_from (q == p) (j == i) (eq-eqb q p a) (eq-eqb j i b)

pub bars_one : (old new : Graph) (p i : ℕ) (T : State → Type 0) → new.sizes ≡ old.sizes → ((q j : ℕ) → is_barred new q j ≡ (is_barred old q j || is_state q j p i)) →
    ((a b c d : ℕ) → is_forbidden new a b c d ≡ is_forbidden old a b c d) → ((x : State) → x.0 ≡ p → x.1 ≡ i → T x) → ((x : State) → T x → (x.0 ≡ p) × (x.1 ≡ i)) → Bars old new T
bars_one old new p i T sizes barred same to back = record {
  sizes = sizes;
  alike = same;
  adds = record {
    keeps = λ x is. barred x.0 x.1 ∙ or_left (is_barred old x.0 x.1) (is_state x.0 x.1 p i) is;
    sound = λ x is. elim (or_cases (is_barred old x.0 x.1) (is_state x.0 x.1 p i) (sym (barred x.0 x.1) ∙ is)) [
      | inl before ↦ inl before
      | inr here ↦ (let at = at_state x.0 x.1 p i here in inr (to x at.0 at.1))
    ];
    whole = λ x t. let at = back x t in barred x.0 x.1 ∙ or_right (is_barred old x.0 x.1) (is_state x.0 x.1 p i) (is_at_state x.0 x.1 p i at.0 at.1);
  };
}

pub bars_this : (old new : Graph) (p i : ℕ) (wanted : Bool) → wanted ≡ true → new.sizes ≡ old.sizes → ((q j : ℕ) → is_barred new q j ≡ (is_barred old q j || is_state q j p i)) →
    ((a b c d : ℕ) → is_forbidden new a b c d ≡ is_forbidden old a b c d) → Bars old new (IsThis p i wanted)
bars_this old new p i wanted due sizes barred same = bars_one old new p i (IsThis p i wanted) sizes barred same
    (λ x a b. record { package_is = a; state_is = b; due = due }) (λ x t. (t.package_is, t.state_is))

pub bars_unwanted : (g : Graph) (p i : ℕ) (wanted : Bool) → wanted ≡ false → Bars g g (IsThis p i wanted)
bars_unwanted g p i wanted out = bars_none g (IsThis p i wanted) (λ x t. true≢false (sym t.due ∙ out))

-- ---- the offers of a package

pub among_next : (old new : Graph) (p k : ℕ) (offers : List Offering) (test : Offering → Bool) (y : Offering) (wanted : Bool) → slice_get offers k ≡ Some y → wanted ≡ test y →
    Bars old new (IsThis p k wanted) → Bars old new (IsAmongAt p offers test k)
among_next old new p k offers test y wanted there told b = bars_like old new (IsThis p k wanted) (IsAmongAt p offers test k) b
    (λ x t. record { state_is = t.state_is; among = record { package_is = t.package_is; offer = y; there = ap (slice_get offers) t.state_is ∙ there; passes = sym told ∙ t.due } })
    (λ x a. record { package_is = a.among.package_is; state_is = a.state_is; due = told ∙ ap test (same_Some y a.among.offer (sym there ∙ ap (slice_get offers) (sym a.state_is) ∙ a.among.there)) ∙ a.among.passes })

pub among_all : (p : ℕ) (offers : List Offering) (test : Offering → Bool) (n : ℕ) → (x : State) → UpTo (IsAmongAt p offers test) n x → IsAmong p offers test x
among_all p offers test n x u = u.here.among

pub all_among : (p : ℕ) (offers : List Offering) (test : Offering → Bool) (n : ℕ) → length offers ≤ n → (x : State) → IsAmong p offers test x → UpTo (IsAmongAt p offers test) n x
all_among p offers test n past x a = let inside = slice_get_within offers x.1 a.offer a.there in record { place = x.1; below = omega (arith, inside, past); here = record { state_is = refl; among = a } }

pub bars_among : (old new : Graph) (p : ℕ) (offers : List Offering) (test : Offering → Bool) (n : ℕ) → length offers ≤ n → Bars old new (UpTo (IsAmongAt p offers test) n) → Bars old new (IsAmong p offers test)
bars_among old new p offers test n past b = bars_like old new (UpTo (IsAmongAt p offers test) n) (IsAmong p offers test) b (among_all p offers test n) (all_among p offers test n past)

-- ---- a package of the book

pub offered_to : (book : List Packed) (u : Id) (q : ℕ) (offers : List Offering) (test : Offering → Bool) → IsNumberOf book u q → offers ≡ (package_at book q).offers → (x : State) → IsAmong q offers test x → IsOffered book u test x
offered_to book u q offers test number is x a = record {
  known = subst (λ k. k < length book) (sym a.package_is) number.known;
  named = ap (id_of book) a.package_is ∙ number.named;
  offer = a.offer;
  there = (λ i. slice_get (package_at book (a.package_is i)).offers x.1) ∙ (λ i. slice_get (sym is i) x.1) ∙ a.there;
  passes = a.passes;
}

pub among_of : (book : List Packed) (u : Id) (q : ℕ) (offers : List Offering) (test : Offering → Bool) → IsNumberOf book u q → offers ≡ (package_at book q).offers → (x : State) → IsOffered book u test x → IsAmong q offers test x
among_of book u q offers test number is x o =
    let same = number.only x.0 o.known o.named in
    record {
      package_is = same;
      offer = o.offer;
      there = (λ i. slice_get (is i) x.1) ∙ (λ i. slice_get (package_at book (sym same i)).offers x.1) ∙ o.there;
      passes = o.passes;
    }

pub bars_offered : (old new : Graph) (book : List Packed) (u : Id) (q : ℕ) (offers : List Offering) (test : Offering → Bool) → IsNumberOf book u q → offers ≡ (package_at book q).offers →
    Bars old new (IsAmong q offers test) → Bars old new (IsOffered book u test)
bars_offered old new book u q offers test number is b = bars_like old new (IsAmong q offers test) (IsOffered book u test) b (offered_to book u q offers test number is) (among_of book u q offers test number is)

pub offered_nowhere : (g : Graph) (book : List Packed) (u : Id) (test : Offering → Bool) → IsNowhere book u → Bars g g (IsOffered book u test)
offered_nowhere g book u test none = bars_none g (IsOffered book u test) (λ x o. none x.0 o.known o.named)

pub absent_to : (book : List Packed) (u : Id) (q : ℕ) → IsNumberOf book u q → (x : State) → x.0 ≡ q → x.1 ≡ length (package_at book q).offers → IsAbsent book u x
absent_to book u q number x a b = record {
  known = subst (λ k. k < length book) (sym a) number.known;
  named = ap (id_of book) a ∙ number.named;
  last = b ∙ ap (λ k. length (package_at book k).offers) (sym a);
}

pub absent_of : (book : List Packed) (u : Id) (q : ℕ) → IsNumberOf book u q → (x : State) → IsAbsent book u x → (x.0 ≡ q) × (x.1 ≡ length (package_at book q).offers)
absent_of book u q number x o = let same = number.only x.0 o.known o.named in (same, o.last ∙ ap (λ k. length (package_at book k).offers) same)

pub bars_absent : (old new : Graph) (book : List Packed) (u : Id) (q i : ℕ) → IsNumberOf book u q → i ≡ length (package_at book q).offers → new.sizes ≡ old.sizes →
    ((p j : ℕ) → is_barred new p j ≡ (is_barred old p j || is_state p j q i)) → ((a b c d : ℕ) → is_forbidden new a b c d ≡ is_forbidden old a b c d) → Bars old new (IsAbsent book u)
bars_absent old new book u q i number last sizes barred same = bars_one old new q i (IsAbsent book u) sizes barred same
    (λ x a b. absent_to book u q number x a (b ∙ last))
    (λ x o. let at = absent_of book u q number x o in (at.0, at.1 ∙ sym last))

pub absent_nowhere : (g : Graph) (book : List Packed) (u : Id) → IsNowhere book u → Bars g g (IsAbsent book u)
absent_nowhere g book u none = bars_none g (IsAbsent book u) (λ x o. none x.0 o.known o.named)

-- ---- every package

abbrev pub of_package : List Packed → (Offering → Bool) → ℕ → State → Type 0
of_package book test p x = IsAmong p (package_at book p).offers test x

pub bars_anywhere : (old new : Graph) (book : List Packed) (test : Offering → Bool) (n : ℕ) → n ≡ length book → Bars old new (UpTo (of_package book test) n) → Bars old new (IsAnywhere book test)
bars_anywhere old new book test n whole b = bars_like old new (UpTo (of_package book test) n) (IsAnywhere book test) b
    (λ x u. let below = u.below in record {
      known = subst (λ k. k < length book) (sym u.here.package_is) (omega (arith, below, whole));
      offer = u.here.offer;
      there = (λ i. slice_get (package_at book (u.here.package_is i)).offers x.1) ∙ u.here.there;
      passes = u.here.passes;
    })
    (λ x a. let known = a.known in record { place = x.0; below = omega (arith, known, whole); here = record { package_is = refl; offer = a.offer; there = a.there; passes = a.passes } })

-- ---- all that the demand shuts

pub bars_both : (f g h : Graph) (A B : State → Type 0) → Bars f g A → Bars g h B → Bars f h (λ x. A x ⊎ B x)
bars_both f g h A B a b = bars_on f g h A B (λ x. A x ⊎ B x) a b (λ x t. inl t) (λ x t. inr t) (λ x t. t)

pub other_than : (v pin : Version) → not (eq_by_cmp version_cmp v pin) ≡ true → v ≢ pin
other_than v pin is same = true≢false (sym ((eq_is_same v pin).1 same) ∙ not_true _ is)

pub is_other_than : (v pin : Version) → v ≢ pin → not (eq_by_cmp version_cmp v pin) ≡ true
is_other_than v pin ne =
    elim (eq_by_cmp version_cmp v pin) as (λ b. eq_by_cmp version_cmp v pin ≡ b → not b ≡ true) [
      | true ↦ λ is. absurd (ne ((eq_is_same v pin).0 is))
      | false ↦ λ _. refl
    ] refl

module _ (julia : List ℕ) (x : Offering) where
  -- an entry on Julia that doesn't allow its version
  pub record RefusesJulia : Type 0 where
    pub entry : Allows
    pub there : Contains x.compat (julia_id, entry)
    pub outside : allows_holds entry julia ≡ false

  pub refused : refuses_julia julia x ≡ true → RefusesJulia
  refused is =
      let a = Any-from_list_any (refuses_entry julia) x.compat is in
      let parts = and_parts (bytes_eq a.1.0 julia_id) (not (allows_holds a.1.1 julia)) a.4 in
      record {
        entry = a.1.1;
        there = subst (λ (e : Id × Allows). Contains x.compat e) (λ i. (same_id a.1.0 julia_id parts.0 i, a.1.1)) (a.0, a.2, a.3);
        outside = not_true _ parts.1;
      }

  pub refuses : (entry : Allows) → Contains x.compat (julia_id, entry) → allows_holds entry julia ≡ false → refuses_julia julia x ≡ true
  refuses entry there outside = list_any-from_Any (refuses_entry julia) x.compat
      (there.0, (julia_id, entry), there.1, there.2, and_from (bytes_eq julia_id julia_id) (not (allows_holds entry julia)) (id_itself julia_id julia_id refl) (ap not outside))

pub none_last : (offers : List Offering) → slice_get offers (length offers) ≡ None
none_last offers = slice_get_past offers (length offers) (omega arith)

pub last_from : (offers : List Offering) (i : ℕ) → i < length offers + 1 → slice_get offers i ≡ None → i ≡ length offers
last_from offers i below none = elim (cases_lt i (length offers)) [
  | inl inside ↦ absurd (within offers i inside none)
  | inr past ↦ omega (arith, below, past)
]
  where
    within : (offers : List Offering) (i : ℕ) → i < length offers → slice_get offers i ≡ None → ⊥
    within [] i inside none = absurd (omega (arith, inside))
    within (y ∷ offers) zero inside none = none-some y (sym none)
    within (y ∷ offers) (suc i) inside none = within offers i (omega (arith, inside)) none

module _ (book : List Packed) (w : Wanted) where
  abbrev pub by_roots : State → Type 0
  by_roots = OfOne (λ (r : Text × Id). IsAbsent book r.1) w.roots

  abbrev pub by_project : State → Type 0
  by_project = OfOne (λ (e : Id × List Part). IsOffered book e.0 (is_outside e.1)) w.compat

  abbrev pub by_pins : List (Id × Version) → State → Type 0
  by_pins pins = OfOne (λ (p : Id × Version). IsOffered book p.0 (is_other p.1)) pins

  abbrev pub by_julia : State → Type 0
  by_julia = IsAnywhere book (refuses_julia w.julia)

  abbrev pub ByOne : State → Type 0
  ByOne x = (((by_roots x ⊎ by_project x) ⊎ by_pins w.pins x) ⊎ by_pins w.held x) ⊎ by_julia x

  state_inside : (p i : ℕ) (y : Offering) → offer_in book p i ≡ Some y → i < state_count (package_at book p)
  state_inside p i y there = let inside = slice_get_within (package_at book p).offers i y there in omega (arith, inside)

  shut_offer : (x : State) (y : Offering) → x.0 < length book → offer_in book x.0 x.1 ≡ Some y → ShutsOffer w (id_of book x.0) y → IsShut book w x
  shut_offer x y known there shuts = record {
    known = known;
    state = state_inside x.0 x.1 y there;
    shut = subst (λ (o : Option Offering). Shuts w (id_of book x.0) o) (sym there) shuts;
  }

  from_roots : (x : State) → by_roots x → IsShut book w x
  from_roots x o = record {
    known = o.here.known;
    state = let last = o.here.last in omega (arith, last);
    shut = subst (λ (f : Option Offering). Shuts w (id_of book x.0) f) (sym (ap (offer_in book x.0) o.here.last ∙ none_last (package_at book x.0).offers))
        (record { name = o.item.0; there = subst (λ (r : Text × Id). Contains w.roots r) (λ i. (o.item.0, sym o.here.named i)) o.there });
  }

  from_project : (x : State) → by_project x → IsShut book w x
  from_project x o = shut_offer x o.here.offer o.here.known o.here.there
      (at_project o.item.1 (subst (λ (e : Id × List Part). Contains w.compat e) (λ i. (sym o.here.named i, o.item.1)) o.there) (not_true _ o.here.passes))

  from_pins : (pins : List (Id × Version)) → ((p : Id × Version) → Contains pins p → Contains (w.pins ++ w.held) p) → (x : State) → by_pins pins x → IsShut book w x
  from_pins pins among x o = shut_offer x o.here.offer o.here.known o.here.there
      (at_pin o.item.1 (subst (λ (p : Id × Version). Contains (w.pins ++ w.held) p) (λ i. (sym o.here.named i, o.item.1)) (among o.item o.there)) (other_than _ _ o.here.passes))

  from_julia : (x : State) → by_julia x → IsShut book w x
  from_julia x o =
      let r = refused w.julia o.offer o.passes in
      shut_offer x o.offer o.known o.there (at_julia r.entry r.there r.outside)

  pub shut_from : (x : State) → ByOne x → IsShut book w x
  shut_from x e = elim e [
    | inl e ↦ elim e [
      | inl e ↦ elim e [
        | inl e ↦ elim e [ inl o ↦ from_roots x o | inr o ↦ from_project x o ]
        | inr o ↦ from_pins w.pins (λ p c. Contains-append_left w.pins w.held p c) x o
      ]
      | inr o ↦ from_pins w.held (λ p c. Contains-append_right w.pins w.held p c) x o
    ]
    | inr o ↦ from_julia x o
  ]

  to_roots : (x : State) → x.0 < length book → x.1 < state_count (package_at book x.0) → offer_in book x.0 x.1 ≡ None → IsRoot w (id_of book x.0) → by_roots x
  to_roots x known state none root = record {
    item = (root.name, id_of book x.0);
    there = root.there;
    here = record { known = known; named = refl; last = last_from (package_at book x.0).offers x.1 state none };
  }

  to_one : (x : State) (y : Offering) → x.0 < length book → offer_in book x.0 x.1 ≡ Some y → ShutsOffer w (id_of book x.0) y → ByOne x
  to_one x y known there (at_julia entry inside outside) = inr (record { known = known; offer = y; there = there; passes = refuses w.julia y entry inside outside })
  to_one x y known there (at_project parts inside outside) =
      inl (inl (inl (inr (record { item = (id_of book x.0, parts); there = inside; here = record { known = known; named = refl; offer = y; there = there; passes = ap not outside } }))))
  to_one x y known there (at_pin pin inside ne) = elim (Contains-append_cases w.pins w.held (id_of book x.0, pin) inside) [
    | inl c ↦ inl (inl (inr (by c)))
    | inr c ↦ inl (inr (by c))
  ]
    where
      by : {pins : List (Id × Version)} → Contains pins (id_of book x.0, pin) → by_pins pins x
      by c = record { item = (id_of book x.0, pin); there = c; here = record { known = known; named = refl; offer = y; there = there; passes = is_other_than y.version pin ne } }

  pub shut_to : (x : State) → IsShut book w x → ByOne x
  shut_to x s = elim (offer_in book x.0 x.1) as (λ (o : Option Offering). offer_in book x.0 x.1 ≡ o → Shuts w (id_of book x.0) o → ByOne x) [
    | None ↦ λ none root. inl (inl (inl (inl (to_roots x s.known s.state none root))))
    | Some y ↦ λ there shuts. to_one x y s.known there shuts
  ] refl s.shut

  pub bars_all : (a b c d e f : Graph) → Bars a b by_roots → Bars b c by_project → Bars c d (by_pins w.pins) → Bars d e (by_pins w.held) → Bars e f by_julia → Bars a f (IsShut book w)
  bars_all a b c d e f r p i h j =
      let rp = bars_both a b c by_roots by_project r p in
      let rpi = bars_both a c d (λ x. by_roots x ⊎ by_project x) (by_pins w.pins) rp i in
      let rpih = bars_both a d e (λ x. (by_roots x ⊎ by_project x) ⊎ by_pins w.pins x) (by_pins w.held) rpi h in
      bars_like a f ByOne (IsShut book w) (bars_both a e f (λ x. ((by_roots x ⊎ by_project x) ⊎ by_pins w.pins x) ⊎ by_pins w.held x) by_julia rpih j) shut_from shut_to
