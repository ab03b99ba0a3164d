-- The offers that pass are those to which packages can be raised.
use Rattle.std.proofs.Common.{◌≡◌, ℕ, ◌<◌, ◌≤◌, Bool, true, false, true≢false, List, ◌++◌, length, Option, Some, None, Ordering, Less, Equal, Greater, is_lt, MatchBool, MatchOption, is_some, IsSome, Contains, refl, sym, ap, ◌∙◌, subst, inl, inr, arith}
use Rattle.std.specs.Prelude.{slice_get}
use Rattle.std.specs.List.{position_or_len}
use Rattle.std.proofs.lemmas.Bool.{cases_lt}
use Rattle.std.proofs.lemmas.List.Folds.{find_at}
use Rattle.std.proofs.lemmas.Option.{same_Some}
use Rattle.jl_versions.specs.Order.{version_cmp}
use Rattle.jl_versions.specs.OrderLaws.{eq_is_same}
use Rattle.jl_versions.specs.Triple.{triple_of}
use Rattle.jl_versions.specs.declared.version.Version.{Version}
use Rattle.compat_spec.specs.declared.part.Part.{Part}
use Rattle.compat_spec.specs.Meaning.{specifier_holds}
use Rattle.package_tables.specs.Row.{julia_id}
use Rattle.offer_terms.specs.Offered.{Text, Id, Allows, allows_holds, Offering, Selected, version_in, is_of, offer_at, taken, with_version}
use Rattle.offer_terms.specs.Booked.{Packed, package_at, book_offers}
use Rattle.offer_terms.specs.Demanded.{Wanted}
use Rattle.offer_terms.specs.Feasible.{IsFeasible, IsValid, CanRaise}
use Rattle.selection_check.specs.Order.{rank}
use Rattle.selection_check.specs.Raises.{CanRaiseTo, IsLeastAt, RaisesNone}
use Rattle.selection_check.specs.Laws.{RaiseHasPlace, OneRaise}
use Rattle.selection_check.specs.Opening.{is_open, IsAllowedByAll, AreOpen}
use Rattle.selection_check.specs.Passing.{IsMet, Passes, IsFirstPass}
use Rattle.selection_check.proofs.Ranks.{id_case, id_at_rank, found_passes, offered_held, offers_at_rank, taken_held}
use Rattle.selection_check.proofs.Clauses.{some_value}
use Rattle.selection_check.proofs.Exits.{some_if, true_if, not_none}
use Rattle.selection_check.proofs.Changes.{changed_keys, still_selected, changed_here, changed_apart, taken_here, taken_apart}

module _ (book : List Packed) (w : Wanted) (s : Selected) where
  -- ---- what can be raised passes

  module _ (u : Id) (old : Version) (x : Offering) (there : version_in s u ≡ Some old) (stands : offer_at (book_offers book) u x.version ≡ Some x) where
    module _ (free : (p : Id × Version) → Contains (w.pins ++ w.held) p → p.0 ≡ u → ⊥) (stays : IsFeasible (book_offers book) w (with_version s u x.version)) where
      pub raise_met : IsMet w.julia s u x
      raise_met = record {
        needs = λ d l. not_none _ (stays.needs u x (l.name, d) (taken_here s u x.version old there (book_offers book) x stands) l.dependency l.other) (changed_apart s u x.version old there d l.other ∙ l.missing);
        fits = λ d l. elim l.outside [
          | inl other ↦ true≢false (sym (stays.fits u x (d, l.allowed) other.1.version (taken_here s u x.version old there (book_offers book) x stands) l.entry other.0 (changed_apart s u x.version old there d other.0 ∙ other.1.selected)) ∙ other.1.outside)
          | inr julia ↦ true≢false (sym (stays.julia u x (d, l.allowed) (taken_here s u x.version old there (book_offers book) x stands) l.entry julia.0) ∙ julia.1)
        ];
      }

      now : (t : Id) → t ≡ u → version_in (with_version s u x.version) t ≡ Some x.version
      now t is = ap (version_in (with_version s u x.version)) is ∙ changed_here s u x.version old there

      pub raise_allowed : IsAllowedByAll book w s u x.version
      raise_allowed = record {
        free = free;
        project = λ e entry on. stays.compat e x.version entry (now e.0 on);
        offers = λ q y below inside is e entry other on.
            stays.fits (package_at book q).uuid y e x.version
            (taken_apart s u x.version old there (book_offers book) (package_at book q).uuid (λ same. other (on ∙ sym same)) ∙ is) entry other (now e.0 on);
      }

    -- ---- what passes can be raised

    module _ (is : IsValid (book_offers book) w s) (allowed : IsAllowedByAll book w s u x.version) (met : IsMet w.julia s u x) where
      version_after : (t : Id) (z : Version) → t ≡ u → version_in (with_version s u x.version) t ≡ Some z → x.version ≡ z
      version_after t z same at = same_Some x.version z (sym (ap (version_in (with_version s u x.version)) same ∙ changed_here s u x.version old there) ∙ at)

      taken_after : (t : Id) (y : Offering) → t ≡ u → taken (book_offers book) (with_version s u x.version) t ≡ Some y → x ≡ y
      taken_after t y same at = same_Some x y (sym (ap (taken (book_offers book) (with_version s u x.version)) same ∙ taken_here s u x.version old there (book_offers book) x stands) ∙ at)

      before : (t : Id) (z : Version) → (t ≡ u → ⊥) → version_in (with_version s u x.version) t ≡ Some z → version_in s t ≡ Some z
      before t z ne at = sym (changed_apart s u x.version old there t ne) ∙ at

      taken_before : (t : Id) (y : Offering) → (t ≡ u → ⊥) → taken (book_offers book) (with_version s u x.version) t ≡ Some y → taken (book_offers book) s t ≡ Some y
      taken_before t y ne at = sym (taken_apart s u x.version old there (book_offers book) t ne) ∙ at

      offered_after : (t : Id) (z : Version) → version_in (with_version s u x.version) t ≡ Some z → IsSome (offer_at (book_offers book) t z)
      offered_after t z at = elim (id_case t u) [
        | inl same ↦ ap is_some ((λ i. offer_at (book_offers book) (same.0 i) (sym (version_after t z same.0 at) i)) ∙ stands)
        | inr a ↦ is.feasible.offered t z (before t z a.0 at)
      ]

      needs_after : (t : Id) (y : Offering) (d : Text × Id) → taken (book_offers book) (with_version s u x.version) t ≡ Some y → Contains y.deps d → (d.1 ≡ t → ⊥) → IsSome (version_in (with_version s u x.version) d.1)
      needs_after t y d at dep other = still_selected s u x.version d.1 (elim (id_case t u) [
        | inl same ↦ some_if (version_in s d.1) (λ none. met.needs d.1 (record {
          name = d.0;
          dependency = subst (λ (z : Offering). Contains z.deps d) (sym (taken_after t y same.0 at)) dep;
          other = λ on. other (on ∙ sym same.0);
          missing = none;
        }))
        | inr a ↦ is.feasible.needs t y d (taken_before t y a.0 at) dep other
      ])

      own_fits : (e : Id × Allows) (z : Version) → Contains x.compat e → (e.0 ≡ u → ⊥) → version_in s e.0 ≡ Some z → allows_holds e.1 (triple_of z) ≡ true
      own_fits e z entry other at = true_if _ (λ out. met.fits e.0 (record { allowed = e.1; entry = entry; outside = inl (other, record { version = z; selected = at; outside = out }) }))

      other_allows : (t : Id) (y : Offering) (e : Id × Allows) → taken (book_offers book) s t ≡ Some y → Contains y.compat e → (e.0 ≡ t → ⊥) → e.0 ≡ u → allows_holds e.1 (triple_of x.version) ≡ true
      other_allows t y e at entry other on =
          let inside = taken_held book s t y at in
          let named = id_at_rank book t inside in
          allowed.offers (rank book t) y inside inside (subst (λ z. taken (book_offers book) s z ≡ Some y) named at) e entry (λ same. other (same ∙ sym named)) on

      fits_after : (t : Id) (y : Offering) (e : Id × Allows) (z : Version) → taken (book_offers book) (with_version s u x.version) t ≡ Some y → Contains y.compat e → (e.0 ≡ t → ⊥) →
          version_in (with_version s u x.version) e.0 ≡ Some z → allows_holds e.1 (triple_of z) ≡ true
      fits_after t y e z at entry other there_now = elim (id_case t u) [
        | inl same ↦
            let ne : e.0 ≡ u → ⊥ = λ on. other (on ∙ sym same.0) in
            own_fits e z (subst (λ (q : Offering). Contains q.compat e) (sym (taken_after t y same.0 at)) entry) ne (before e.0 z ne there_now)
        | inr a ↦ elim (id_case e.0 u) [
          | inl on ↦ subst (λ q. allows_holds e.1 (triple_of q) ≡ true) (version_after e.0 z on.0 there_now) (other_allows t y e (taken_before t y a.0 at) entry other on.0)
          | inr b ↦ is.feasible.fits t y e z (taken_before t y a.0 at) entry other (before e.0 z b.0 there_now)
        ]
      ]

      julia_after : (t : Id) (y : Offering) (e : Id × Allows) → taken (book_offers book) (with_version s u x.version) t ≡ Some y → Contains y.compat e → e.0 ≡ julia_id → allows_holds e.1 w.julia ≡ true
      julia_after t y e at entry on = elim (id_case t u) [
        | inl same ↦ true_if _ (λ out. met.fits e.0 (record {
          allowed = e.1;
          entry = subst (λ (q : Offering). Contains q.compat e) (sym (taken_after t y same.0 at)) entry;
          outside = inr (on, out);
        }))
        | inr a ↦ is.feasible.julia t y e (taken_before t y a.0 at) entry on
      ]

      compat_after : (e : Id × List Part) (z : Version) → Contains w.compat e → version_in (with_version s u x.version) e.0 ≡ Some z → specifier_holds e.1 (triple_of z) ≡ true
      compat_after e z entry at = elim (id_case e.0 u) [
        | inl on ↦ subst (λ q. specifier_holds e.1 (triple_of q) ≡ true) (version_after e.0 z on.0 at) (allowed.project e entry on.0)
        | inr a ↦ is.feasible.compat e z entry (before e.0 z a.0 at)
      ]

      pinned_after : (p : Id × Version) (z : Version) → Contains (w.pins ++ w.held) p → version_in (with_version s u x.version) p.0 ≡ Some z → z ≡ p.1
      pinned_after p z pin at = elim (id_case p.0 u) [
        | inl on ↦ absurd (allowed.free p pin on.0)
        | inr a ↦ is.feasible.pinned p z pin (before p.0 z a.0 at)
      ]

      pub stays_feasible : IsFeasible (book_offers book) w (with_version s u x.version)
      stays_feasible = record {
        once = changed_keys s u x.version is.feasible.once;
        roots = λ r root. still_selected s u x.version r.1 (is.feasible.roots r root);
        offered = offered_after;
        needs = needs_after;
        fits = fits_after;
        julia = julia_after;
        compat = compat_after;
        pinned = pinned_after;
      }

  -- ---- both ways

  module _ (table : List (List Bool)) (opened : AreOpen book w s table) where
    pub passes_if_raised : (p j : ℕ) → CanRaiseTo book w s p j → Passes book w.julia s table p j
    passes_if_raised p j c =
        let u = (package_at book p).uuid in
        let allowed = raise_allowed u c.can.old c.offer c.can.selected c.stands c.can.free c.can.stays in
        record {
          known = c.known;
          offer = c.offer;
          there = c.there;
          stands = c.stands;
          old = c.can.old;
          selected = c.can.selected;
          greater = c.can.greater;
          opened = opened.whole p j c.offer c.known c.there allowed;
          met = raise_met u c.can.old c.offer c.can.selected c.stands c.can.free c.can.stays;
        }

    pub raised_if_passes : IsValid (book_offers book) w s → (p j : ℕ) → Passes book w.julia s table p j → CanRaiseTo book w s p j
    raised_if_passes is p j c =
        let u = (package_at book p).uuid in
        let allowed = opened.sound p j c.offer c.known c.there c.opened in
        record {
          known = c.known;
          offer = c.offer;
          there = c.there;
          stands = c.stands;
          can = record {
            free = allowed.free;
            old = c.old;
            selected = c.selected;
            greater = c.greater;
            offered = ap is_some c.stands;
            stays = stays_feasible u c.old c.offer c.selected c.stands is allowed c.met;
          };
        }

    pub least_raised : IsValid (book_offers book) w s → (p j : ℕ) → IsLeastAt (Passes book w.julia s table) p j → IsLeastAt (CanRaiseTo book w s) p j
    least_raised is p j c = record {
      here = raised_if_passes is p j c.here;
      least = λ q i can. c.least q i (passes_if_raised q i can);
      lowest = λ i can. c.lowest i (passes_if_raised p i can);
    }

-- ---- laws

pub raise_has_place : RaiseHasPlace
raise_has_place book w s u v can =
    let found = some_value (offer_at (book_offers book) u v) can.offered in
    let x = found.0 in
    let inside = offered_held book u v x found.1 in
    let number = id_at_rank book u inside in
    let same : v ≡ x.version = (eq_is_same v x.version).0 (found_passes (is_of v) (book_offers book u) x found.1) in
    record {
      number = rank book u;
      place = position_or_len (is_of v) (book_offers book u);
      raise = record {
        known = inside;
        offer = x;
        there = ap (λ xs. slice_get xs (position_or_len (is_of v) (book_offers book u))) (sym (offers_at_rank book u inside)) ∙ sym (find_at (is_of v) (book_offers book u)) ∙ found.1;
        stands = (λ i. offer_at (book_offers book) (sym number i) (sym same i)) ∙ found.1;
        can = subst (λ (t : Id). CanRaise (book_offers book) w s t x.version) number (subst (λ (z : Version). CanRaise (book_offers book) w s u z) same can);
      };
      named = sym number;
      to = sym same;
    }

-- nothing can be raised where nothing passes
pub raises_none : (book : List Packed) (w : Wanted) (s : Selected) (table : List (List Bool)) → AreOpen book w s table → ((p j : ℕ) → Passes book w.julia s table p j → ⊥) → RaisesNone book w s
raises_none book w s table opened none u v can =
    let at = raise_has_place book w s u v can in
    none at.number at.place (passes_if_raised book w s table opened at.number at.place at.raise)

pub one_raise : OneRaise
one_raise book w s p j q i a b =
    let low = a.least q i b.here in
    let high = b.least p j a.here in
    let same : p ≡ q = omega (arith, low, high) in
    let first = a.lowest i (subst (λ k. CanRaiseTo book w s k i) (sym same) b.here) in
    let second = b.lowest j (subst (λ k. CanRaiseTo book w s k j) same a.here) in
    (same, omega (arith, first, second))

-- ---- the first that passes

pub least_passes : (P : ℕ → ℕ → Type 0) (p j : ℕ) → ((q : ℕ) → q < p → (i : ℕ) → P q i → ⊥) → P p j → ((i : ℕ) → P p i → j ≤ i) → IsLeastAt P p j
least_passes P p j none here lowest = record {
  here = here;
  least = λ q i is. elim (cases_lt q p) [ inl below ↦ absurd (none q below i is) | inr above ↦ above ];
  lowest = lowest;
}

pub first_pass : {book : List Packed} {julia : List ℕ} {s : Selected} {table : List (List Bool)} {p j : ℕ} → Passes book julia s table p j → ((i : ℕ) → i < j → Passes book julia s table p i → ⊥) → IsFirstPass book julia s table p j
first_pass {j = j} here none = record {
  here = here;
  lowest = λ i is. elim (cases_lt i j) [ inl below ↦ absurd (none i below is) | inr above ↦ above ];
}

less_of : (r : Ordering) → is_lt r ≡ true → r ≡ Less
less_of Less _ = refl
less_of Equal e = absurd (true≢false (sym e))
less_of Greater e = absurd (true≢false (sym e))

pub is_less : (r q : Ordering) → r ≡ q → true ≡ is_lt r → q ≡ Less
is_less r q same below = sym same ∙ less_of r (sym below)

-- an offer that is greater and allowed by all others passes exactly where it is met
module _ (book : List Packed) (julia : List ℕ) (s : Selected) (table : List (List Bool)) (p j : ℕ) (known : p < length book) (offer : Offering) (there : slice_get (package_at book p).offers j ≡ Some offer) where
  pub passes_if : offer_at (book_offers book) (package_at book p).uuid offer.version ≡ Some offer → (old : Version) → version_in s (package_at book p).uuid ≡ Some old → version_cmp old offer.version ≡ Less →
      is_open table p j ≡ true → (b : Bool) → MatchBool b (IsMet julia s (package_at book p).uuid offer) (IsMet julia s (package_at book p).uuid offer → ⊥) →
      MatchBool b (Passes book julia s table p j) (Passes book julia s table p j → ⊥)
  passes_if stands old selected greater opened true met = record {
    known = known;
    offer = offer;
    there = there;
    stands = stands;
    old = old;
    selected = selected;
    greater = greater;
    opened = opened;
    met = met;
  }
  passes_if stands old selected greater opened false unmet = λ l. unmet (subst (λ (y : Offering). IsMet julia s (package_at book p).uuid y) (same_Some l.offer offer (sym l.there ∙ there)) l.met)

-- what a search for an offer that passes answers
pub raise_found : (book : List Packed) (w : Wanted) (s : Selected) (table : List (List Bool)) (julia : List ℕ) → IsValid (book_offers book) w s → AreOpen book w s table → julia ≡ w.julia → (r : Option (ℕ × ℕ)) →
    MatchOption r ((p j : ℕ) → Passes book julia s table p j → ⊥) (λ x. IsLeastAt (Passes book julia s table) x.0 x.1) → MatchOption r (RaisesNone book w s) (λ x. IsLeastAt (CanRaiseTo book w s) x.0 x.1)
raise_found book w s table julia is opened same None none = raises_none book w s table opened (subst (λ triple. (p j : ℕ) → Passes book triple s table p j → ⊥) same none)
raise_found book w s table julia is opened same (Some x) f = least_raised book w s table opened is x.0 x.1 (subst (λ triple. IsLeastAt (Passes book triple s table) x.0 x.1) same f)
