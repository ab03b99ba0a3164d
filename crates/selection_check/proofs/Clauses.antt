-- The first of what a list's entries name is where a clause is broken first.
use Rattle.std.proofs.Common.{◌≡◌, ◌≢◌, ℕ, Bool, true, false, cond, not, true≢false, ◌||◌, ◌⊎◌, List, [], ◌∷◌, ◌++◌, Option, Some, None, is_some, IsSome, Contains, bytes_eq, refl, sym, ap, ◌∙◌, subst, inl, inr, arith}
use Rattle.std.specs.Map.{lookup}
use Rattle.std.specs.Ordering.{eq_by_cmp}
use Rattle.std.proofs.lemmas.Bool.{and_parts, and_from, or_cases, or_left, or_right}
use Rattle.std.proofs.lemmas.List.Elements.{Contains-append_left, Contains-append_right}
use Rattle.std.proofs.lemmas.Option.{none-some, same_Some, cond_some}
use Rattle.jl_versions.specs.Order.{version_cmp}
use Rattle.jl_versions.specs.OrderLaws.{eq_is_same}
use Rattle.jl_versions.specs.Triple.{triple_of}
use Rattle.jl_versions.specs.declared.version.Version.{Version}
use Rattle.compat_spec.specs.declared.part.Part.{Part}
use Rattle.compat_spec.specs.Meaning.{specifier_holds}
use Rattle.package_tables.specs.Row.{julia_id}
use Rattle.offer_terms.specs.Offered.{Text, Id, Allows, allows_holds, Offering, Selected, version_in}
use Rattle.offer_terms.specs.Booked.{Packed, number_of}
use Rattle.offer_terms.specs.Demanded.{Wanted}
use Rattle.selection_check.specs.Order.{id_cmp, FirstOf, first_id}
use Rattle.selection_check.specs.Breaches.{LacksRoot, OfferLacks, IsOutside, OfferExcludes, ProjectExcludes, BreaksPin}
use Rattle.selection_check.specs.Found.{some_and, lacking, lacking_other, unheld, outside_spec, refuses_julia, refuses_other, outside_entry, off_pin, first_lacking, first_unheld, first_lacking_other, first_outside_spec, first_outside, first_off_pin}
use Rattle.selection_check.proofs.Ranks.{id_case, id_itself, same_id}
use Rattle.selection_check.proofs.Orders.{Hits, first_hits, first_like, joined, contains_first, contains_later, contains_cases}

-- ---- look-ups in a selection

pub selected_of_contained : {T : Type 0} (s : List (Id × T)) (u : Id) (v : T) → Contains s (u, v) → IsSome (lookup (bytes_eq u) s)
selected_of_contained [] u v c = let inside = c.1 in absurd (omega (arith, inside))
selected_of_contained (e ∷ s) u v c =
    elim (bytes_eq u e.0) as (λ b. bytes_eq u e.0 ≡ b → IsSome (cond b (Some e.1) (lookup (bytes_eq u) s))) [
      | true ↦ λ _. refl
      | false ↦ λ is. elim (contains_cases e (u, v) s c) [
        | inl here ↦ absurd (true≢false (sym (id_itself u e.0 (sym (ap (λ x. x.0) here))) ∙ is))
        | inr later ↦ selected_of_contained s u v later
      ]
    ] refl

pub contained_of_selected : {T : Type 0} (s : List (Id × T)) (u : Id) (v : T) → lookup (bytes_eq u) s ≡ Some v → Contains s (u, v)
contained_of_selected [] u v is = absurd (none-some v is)
contained_of_selected {T} (e ∷ s) u v is =
    elim (bytes_eq u e.0) as (λ b. bytes_eq u e.0 ≡ b → cond b (Some e.1) (lookup (bytes_eq u) s) ≡ Some v → Contains (e ∷ s) (u, v)) [
      | true ↦ λ named found. at_head (sym (same_id u e.0 named)) (same_Some e.1 v found)
      | false ↦ λ _ found. contains_later e (u, v) s (contained_of_selected s u v found)
    ] refl is
  where
    at_head : e.0 ≡ u → e.1 ≡ v → Contains (e ∷ s) (u, v)
    at_head id version = subst (λ (x : Id × T). Contains (e ∷ s) x) (λ i. (id i, version i)) (contains_first e s)

pub some_value : {T : Type 0} (o : Option T) → IsSome o → (v : T) × (o ≡ Some v)
some_value None none = absurd (true≢false (sym none))
some_value (Some v) _ = (v, refl)

pub none_value : {T : Type 0} (o : Option T) → is_some o ≡ false → o ≡ None
none_value None _ = refl
none_value (Some v) none = absurd (true≢false none)

and_true : (test : Version → Bool) (o : Option Version) → some_and test o ≡ true → (v : Version) × (o ≡ Some v) × (test v ≡ true)
and_true test None is = absurd (true≢false (sym is))
and_true test (Some v) is = (v, refl, is)

and_here : (test : Version → Bool) (o : Option Version) (v : Version) → o ≡ Some v → test v ≡ true → some_and test o ≡ true
and_here test o v at is = ap (some_and test) at ∙ is

not_true : (b : Bool) → not b ≡ true → b ≡ false
not_true true is = absurd (true≢false (sym is))
not_true false is = refl

-- ---- roots and dependencies

lacking_some : (s : Selected) (u t : Id) → lacking s u ≡ Some t → (version_in s u ≡ None) × (u ≡ t)
lacking_some s u t is =
    elim (version_in s u) as (λ o. cond (is_some o) None (Some u) ≡ Some t → (o ≡ None) × (u ≡ t)) [
      | None ↦ λ e. (refl, same_Some u t e)
      | Some v ↦ λ e. absurd (none-some t e)
    ] is

lacking_here : (s : Selected) (u : Id) → version_in s u ≡ None → lacking s u ≡ Some u
lacking_here s u none = ap (λ o. cond (is_some o) None (Some u)) none

pub roots_first : (book : List Packed) (w : Wanted) (s : Selected) → FirstOf (id_cmp book) (LacksRoot w s) (first_lacking book s w.roots)
roots_first book w s = first_hits book (λ r. lacking s r.1) (LacksRoot w s) w.roots to back
  where
    to : (u : Id) → Hits (λ (r : Text × Id). lacking s r.1) w.roots u → LacksRoot w s u
    to u h = let parts = lacking_some s h.item.1 u h.hit in record {
      name = h.item.0;
      root = subst (λ (x : Text × Id). Contains w.roots x) (λ i. (h.item.0, parts.1 i)) h.there;
      missing = ap (version_in s) (sym parts.1) ∙ parts.0;
    }

    back : (u : Id) → LacksRoot w s u → Hits (λ (r : Text × Id). lacking s r.1) w.roots u
    back u l = record { item = (l.name, u); there = l.root; hit = lacking_here s u l.missing }

other_some : (s : Selected) (u d t : Id) → lacking_other s u d ≡ Some t → (d ≢ u) × (version_in s d ≡ None) × (d ≡ t)
other_some s u d t is = elim (id_case d u) [
  | inl here ↦ absurd (none-some t (ap (λ b. cond b None (lacking s d)) (sym here.1) ∙ is))
  | inr a ↦ (let parts = lacking_some s d t (ap (λ b. cond b None (lacking s d)) (sym a.1) ∙ is) in (a.0, parts.0, parts.1))
]

other_here : (s : Selected) (u d : Id) → d ≢ u → version_in s d ≡ None → lacking_other s u d ≡ Some d
other_here s u d ne none = elim (id_case d u) [
  | inl here ↦ absurd (ne here.0)
  | inr a ↦ ap (λ b. cond b None (lacking s d)) a.1 ∙ lacking_here s d none
]

pub deps_first : (book : List Packed) (s : Selected) (u : Id) (offer : Offering) → FirstOf (id_cmp book) (OfferLacks s u offer) (first_lacking_other book s u offer.deps)
deps_first book s u offer = first_hits book (λ d. lacking_other s u d.1) (OfferLacks s u offer) offer.deps to back
  where
    to : (d : Id) → Hits (λ (e : Text × Id). lacking_other s u e.1) offer.deps d → OfferLacks s u offer d
    to d h = let parts = other_some s u h.item.1 d h.hit in record {
      name = h.item.0;
      dependency = subst (λ (x : Text × Id). Contains offer.deps x) (λ i. (h.item.0, parts.2 i)) h.there;
      other = λ e. parts.0 (parts.2 ∙ e);
      missing = ap (version_in s) (sym parts.2) ∙ parts.1;
    }

    back : (d : Id) → OfferLacks s u offer d → Hits (λ (e : Text × Id). lacking_other s u e.1) offer.deps d
    back d l = record { item = (l.name, d); there = l.dependency; hit = other_here s u d l.other l.missing }

-- ---- what the book doesn't hold

-- a selected package without a number
pub record IsUnknown (book : List Packed) (s : Selected) (u : Id) : Type 0 where
  pub version : Version
  pub selected : version_in s u ≡ Some version
  pub unheld : number_of book u ≡ None

unheld_some : (book : List Packed) (u t : Id) → unheld book u ≡ Some t → (number_of book u ≡ None) × (u ≡ t)
unheld_some book u t is =
    elim (number_of book u) as (λ o. cond (is_some o) None (Some u) ≡ Some t → (o ≡ None) × (u ≡ t)) [
      | None ↦ λ e. (refl, same_Some u t e)
      | Some p ↦ λ e. absurd (none-some t e)
    ] is

unheld_here : (book : List Packed) (u : Id) → number_of book u ≡ None → unheld book u ≡ Some u
unheld_here book u none = ap (λ o. cond (is_some o) None (Some u)) none

pub unknown_first : (book : List Packed) (s : Selected) → FirstOf (id_cmp book) (IsUnknown book s) (first_unheld book s)
unknown_first book s = first_hits book (λ e. unheld book e.0) (IsUnknown book s) s to back
  where
    to : (u : Id) → Hits (λ (e : Id × Version). unheld book e.0) s u → IsUnknown book s u
    to u h =
        let parts = unheld_some book h.item.0 u h.hit in
        let there = subst (λ (x : Id × Version). Contains s x) (λ i. (parts.1 i, h.item.1)) h.there in
        let found = some_value (version_in s u) (selected_of_contained s u h.item.1 there) in
        record { version = found.0; selected = found.1; unheld = ap (number_of book) (sym parts.1) ∙ parts.0 }

    back : (u : Id) → IsUnknown book s u → Hits (λ (e : Id × Version). unheld book e.0) s u
    back u l = record { item = (u, l.version); there = contained_of_selected s u l.version l.selected; hit = unheld_here book u l.unheld }

-- ---- the project's compat

abbrev refuses_spec : Id × List Part → Version → Bool
refuses_spec e v = not (specifier_holds e.1 (triple_of v))

pub project_first : (book : List Packed) (w : Wanted) (s : Selected) → FirstOf (id_cmp book) (ProjectExcludes w s) (first_outside_spec book s w.compat)
project_first book w s = first_hits book (outside_spec s) (ProjectExcludes w s) w.compat to back
  where
    to : (d : Id) → Hits (outside_spec s) w.compat d → ProjectExcludes w s d
    to d h =
        let named = cond_some (some_and (refuses_spec h.item) (version_in s h.item.0)) h.item.0 d h.hit in
        let found = and_true (refuses_spec h.item) (version_in s h.item.0) named.0 in
        record {
          parts = h.item.1;
          version = found.0;
          entry = subst (λ (x : Id × List Part). Contains w.compat x) (λ i. (named.1 i, h.item.1)) h.there;
          selected = ap (version_in s) (sym named.1) ∙ found.1;
          outside = not_true _ found.2;
        }

    back : (d : Id) → ProjectExcludes w s d → Hits (outside_spec s) w.compat d
    back d l = record {
      item = (d, l.parts);
      there = l.entry;
      hit = ap (λ b. cond b (Some d) None) (and_here (refuses_spec (d, l.parts)) (version_in s d) l.version l.selected (ap not l.outside));
    }

-- ---- an offer's compat

module _ (julia : List ℕ) (s : Selected) (u : Id) where
  abbrev refuses : Id × Allows → Version → Bool
  refuses e v = not (allows_holds e.1 (triple_of v))

  refused : (e : Id × Allows) → (refuses_julia julia e || refuses_other s u e) ≡ true → IsOutside julia s u e.1 e.0
  refused e is = elim (or_cases (refuses_julia julia e) (refuses_other s u e) is) [
    | inl at_julia ↦ (let parts = and_parts (bytes_eq e.0 julia_id) (not (allows_holds e.1 julia)) at_julia in inr (same_id e.0 julia_id parts.0, not_true _ parts.1))
    | inr at_other ↦
        let parts = and_parts (not (bytes_eq e.0 u)) (some_and (refuses e) (version_in s e.0)) at_other in
        let found = and_true (refuses e) (version_in s e.0) parts.1 in
        inl (λ is_u. true≢false (sym (id_itself e.0 u is_u) ∙ not_true _ parts.0), record { version = found.0; selected = found.1; outside = not_true _ found.2 })
  ]

  refuses_at : (e : Id × Allows) → IsOutside julia s u e.1 e.0 → (refuses_julia julia e || refuses_other s u e) ≡ true
  refuses_at e out = elim out [
    | inl at_other ↦ or_right (refuses_julia julia e) (refuses_other s u e) (and_from (not (bytes_eq e.0 u)) _
        (elim (id_case e.0 u) [ inl here ↦ absurd (at_other.0 here.0) | inr a ↦ ap not a.1 ])
        (and_here (refuses e) (version_in s e.0) at_other.1.version at_other.1.selected (ap not at_other.1.outside)))
    | inr at_julia ↦ or_left (refuses_julia julia e) (refuses_other s u e) (and_from (bytes_eq e.0 julia_id) _ (id_itself e.0 julia_id at_julia.0) (ap not at_julia.1))
  ]

  pub compat_first : (book : List Packed) (offer : Offering) → FirstOf (id_cmp book) (OfferExcludes julia s u offer) (first_outside book julia s u offer.compat)
  compat_first book offer = first_hits book (outside_entry julia s u) (OfferExcludes julia s u offer) offer.compat to back
    where
      to : (d : Id) → Hits (outside_entry julia s u) offer.compat d → OfferExcludes julia s u offer d
      to d h =
          let named = cond_some (refuses_julia julia h.item || refuses_other s u h.item) h.item.0 d h.hit in
          record {
            allowed = h.item.1;
            entry = subst (λ (x : Id × Allows). Contains offer.compat x) (λ i. (named.1 i, h.item.1)) h.there;
            outside = subst (IsOutside julia s u h.item.1) named.1 (refused h.item named.0);
          }

      back : (d : Id) → OfferExcludes julia s u offer d → Hits (outside_entry julia s u) offer.compat d
      back d l = record { item = (d, l.allowed); there = l.entry; hit = ap (λ b. cond b (Some d) None) (refuses_at (d, l.allowed) l.outside) }

-- ---- pins

-- a selected package that isn't at one of these versions
pub record IsPinnedOff (pins : List (Id × Version)) (s : Selected) (u : Id) : Type 0 where
  pub pin : Version
  pub version : Version
  pub pinned : Contains pins (u, pin)
  pub selected : version_in s u ≡ Some version
  pub differs : version ≢ pin

differs_from : (v p : Version) → not (eq_by_cmp version_cmp v p) ≡ true → v ≢ p
differs_from v p is e = true≢false (sym ((eq_is_same v p).1 e) ∙ not_true _ is)

differs_at : (v p : Version) → v ≢ p → not (eq_by_cmp version_cmp v p) ≡ true
differs_at v p ne =
    elim (eq_by_cmp version_cmp v p) as (λ b. eq_by_cmp version_cmp v p ≡ b → not b ≡ true) [
      | true ↦ λ is. absurd (ne ((eq_is_same v p).0 is))
      | false ↦ λ _. refl
    ] refl

abbrev off_version : Id × Version → Version → Bool
off_version p v = not (eq_by_cmp version_cmp v p.1)

off_first : (book : List Packed) (s : Selected) (pins : List (Id × Version)) → FirstOf (id_cmp book) (IsPinnedOff pins s) (first_off_pin book s pins)
off_first book s pins = first_hits book (off_pin s) (IsPinnedOff pins s) pins to back
  where
    to : (u : Id) → Hits (off_pin s) pins u → IsPinnedOff pins s u
    to u h =
        let named = cond_some (some_and (off_version h.item) (version_in s h.item.0)) h.item.0 u h.hit in
        let found = and_true (off_version h.item) (version_in s h.item.0) named.0 in
        record {
          pin = h.item.1;
          version = found.0;
          pinned = subst (λ (x : Id × Version). Contains pins x) (λ i. (named.1 i, h.item.1)) h.there;
          selected = ap (version_in s) (sym named.1) ∙ found.1;
          differs = differs_from found.0 h.item.1 found.2;
        }

    back : (u : Id) → IsPinnedOff pins s u → Hits (off_pin s) pins u
    back u l = record {
      item = (u, l.pin);
      there = l.pinned;
      hit = ap (λ b. cond b (Some u) None) (and_here (off_version (u, l.pin)) (version_in s u) l.version l.selected (differs_at l.version l.pin l.differs));
    }

pub contains_append : {X : Type 0} (xs ys : List X) (x : X) → Contains (xs ++ ys) x → Contains xs x ⊎ Contains ys x
contains_append [] ys x c = inr c
contains_append (y ∷ xs) ys x c = elim (contains_cases y x (xs ++ ys) c) [
  | inl here ↦ inl (subst (λ z. Contains (y ∷ xs) z) here (contains_first y xs))
  | inr later ↦ elim (contains_append xs ys x later) [ inl a ↦ inl (contains_later y x xs a) | inr b ↦ inr b ]
]

pub pins_first : (book : List Packed) (w : Wanted) (s : Selected) → FirstOf (id_cmp book) (BreaksPin w s) (first_id book (first_off_pin book s w.pins) (first_off_pin book s w.held))
pins_first book w s = first_like (id_cmp book) (first_id book (first_off_pin book s w.pins) (first_off_pin book s w.held)) to back
    (joined book (IsPinnedOff w.pins s) (IsPinnedOff w.held s) (first_off_pin book s w.pins) (first_off_pin book s w.held) (off_first book s w.pins) (off_first book s w.held))
  where
    to : (u : Id) → IsPinnedOff w.pins s u ⊎ IsPinnedOff w.held s u → BreaksPin w s u
    to u e = elim e [
      | inl l ↦ record { pin = l.pin; version = l.version; pinned = Contains-append_left w.pins w.held (u, l.pin) l.pinned; selected = l.selected; differs = l.differs }
      | inr l ↦ record { pin = l.pin; version = l.version; pinned = Contains-append_right w.pins w.held (u, l.pin) l.pinned; selected = l.selected; differs = l.differs }
    ]

    back : (u : Id) → BreaksPin w s u → IsPinnedOff w.pins s u ⊎ IsPinnedOff w.held s u
    back u l = elim (contains_append w.pins w.held (u, l.pin) l.pinned) [
      | inl c ↦ inl (record { pin = l.pin; version = l.version; pinned = c; selected = l.selected; differs = l.differs })
      | inr c ↦ inr (record { pin = l.pin; version = l.version; pinned = c; selected = l.selected; differs = l.differs })
    ]
