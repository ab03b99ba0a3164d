-- The first breach of a clause is the first breach of all where never earlier clause is broken; and a selection is valid exactly
-- where none is.
use Rattle.std.proofs.Common.{◌≡◌, Bool, true, false, true≢false, List, Option, Some, None, is_some, IsSome, is_lt, refl, sym, ap, ◌∙◌, inl, inr}
use Rattle.std.specs.Map.{keys_of}
use Rattle.std.specs.Ordering.{eq_by_cmp}
use Rattle.jl_versions.specs.Order.{version_cmp}
use Rattle.jl_versions.specs.OrderLaws.{eq_is_same}
use Rattle.jl_versions.specs.declared.version.Version.{Version}
use Rattle.offer_terms.specs.ById.{AreRising}
use Rattle.offer_terms.specs.Offered.{Id, Offers, Selected, version_in, offer_at}
use Rattle.offer_terms.specs.Booked.{Packed, book_offers}
use Rattle.offer_terms.specs.Demanded.{Wanted}
use Rattle.offer_terms.specs.Feasible.{IsFeasible, IsValid}
use Rattle.selection_check.specs.Order.{id_cmp, both_cmp, IsFirst}
use Rattle.selection_check.specs.Breaches.{LacksRoot, LacksOffer, LacksDep, Excludes, ProjectExcludes, BreaksPin, IsSpare}
use Rattle.selection_check.specs.Verdicts.{Breaks, verdict_cmp, IsFirstBreach, IsVerdict}
use Rattle.selection_check.specs.declared.verdict.Verdict.{Verdict}
use Rattle.selection_check.specs.declared.verdict.Verdict.TheVariants.{Good, MissingRoot, NoOffer, MissingDep, Outside, PinBroken, Unneeded}

pub some_if : {T : Type 0} (o : Option T) → (o ≡ None → ⊥) → IsSome o
some_if None never = absurd (never refl)
some_if (Some v) _ = refl

pub true_if : (b : Bool) → (b ≡ false → ⊥) → b ≡ true
true_if true _ = refl
true_if false never = absurd (never refl)

pub not_none : {T : Type 0} (o : Option T) → IsSome o → o ≡ None → ⊥
not_none o is none = true≢false (sym is ∙ ap is_some none)

same_version : (v p : Version) → ((v ≡ p → ⊥) → ⊥) → v ≡ p
same_version v p never = (eq_is_same v p).0 (true_if (eq_by_cmp version_cmp v p) (λ out. never (λ e. true≢false (sym ((eq_is_same v p).1 e) ∙ out))))

-- ---- what no clause says

pub feasible : (o : Offers) (w : Wanted) (s : Selected) → AreRising (keys_of s) → ((u : Id) → LacksRoot w s u → ⊥) → ((u : Id) → LacksOffer o s u → ⊥) →
    ((x : Id × Id) → LacksDep o s x.0 x.1 → ⊥) → ((d : Id) → ProjectExcludes w s d → ⊥) → ((x : Id × Id) → Excludes o w.julia s x.0 x.1 → ⊥) → ((u : Id) → BreaksPin w s u → ⊥) → IsFeasible o w s
feasible o w s once roots offered deps project offers pins = record {
  once = once;
  roots = λ r root. some_if (version_in s r.1) (λ none. roots r.1 (record { name = r.0; root = root; missing = none }));
  offered = λ u v at. some_if (offer_at o u v) (λ none. offered u (record { version = v; selected = at; missing = none }));
  needs = λ u x d is dep other. some_if (version_in s d.1) (λ none.
      deps (u, d.1) (record { offer = x; selected = is; lacks = record { name = d.0; dependency = dep; other = other; missing = none } }));
  fits = λ u x e v is entry other at. true_if _ (λ out.
      offers (u, e.0) (record { offer = x; selected = is; excludes = record { allowed = e.1; entry = entry; outside = inl (other, record { version = v; selected = at; outside = out }) } }));
  julia = λ u x e is entry on. true_if _ (λ out.
      offers (u, e.0) (record { offer = x; selected = is; excludes = record { allowed = e.1; entry = entry; outside = inr (on, out) } }));
  compat = λ e v entry at. true_if _ (λ out. project e.0 (record { parts = e.1; version = v; entry = entry; selected = at; outside = out }));
  pinned = λ p v pin at. same_version v p.1 (λ ne. pins p.0 (record { pin = p.1; version = v; pinned = pin; selected = at; differs = ne }));
}

pub valid : (o : Offers) (w : Wanted) (s : Selected) → IsFeasible o w s → ((u : Id) → IsSpare o w s u → ⊥) → IsValid o w s
valid o w s all none = record {
  feasible = all;
  needed = λ u v at. record {
    in_each = λ set spreads. true_if (set u) (λ out.
        none u (record { version = v; selected = at; unneeded = λ needed. true≢false (sym (needed.in_each set spreads) ∙ out) }));
  };
}

module _ (o : Offers) (w : Wanted) (s : Selected) (all : IsFeasible o w s) where
  pub no_root : (u : Id) → LacksRoot w s u → ⊥
  no_root u l = not_none _ (all.roots (l.name, u) l.root) l.missing

  pub no_offer : (u : Id) → LacksOffer o s u → ⊥
  no_offer u l = not_none _ (all.offered u l.version l.selected) l.missing

  pub no_dep : (u d : Id) → LacksDep o s u d → ⊥
  no_dep u d l = not_none _ (all.needs u l.offer (l.lacks.name, d) l.selected l.lacks.dependency l.lacks.other) l.lacks.missing

  pub no_project : (d : Id) → ProjectExcludes w s d → ⊥
  no_project d l = true≢false (sym (all.compat (d, l.parts) l.version l.entry l.selected) ∙ l.outside)

  pub no_outside : (u d : Id) → Excludes o w.julia s u d → ⊥
  no_outside u d l = elim l.excludes.outside [
    | inl other ↦ true≢false (sym (all.fits u l.offer (d, l.excludes.allowed) other.1.version l.selected l.excludes.entry other.0 other.1.selected) ∙ other.1.outside)
    | inr julia ↦ true≢false (sym (all.julia u l.offer (d, l.excludes.allowed) l.selected l.excludes.entry julia.0) ∙ julia.1)
  ]

  pub no_pin : (u : Id) → BreaksPin w s u → ⊥
  no_pin u l = l.differs (all.pinned (u, l.pin) l.version l.pinned l.selected)

pub breaks_none : (o : Offers) (w : Wanted) (s : Selected) → IsValid o w s → (v : Verdict) → Breaks o w s v → ⊥
breaks_none o w s is Good broken = broken
breaks_none o w s is (MissingRoot u) broken = no_root o w s is.feasible u broken
breaks_none o w s is (NoOffer u) broken = no_offer o w s is.feasible u broken
breaks_none o w s is (MissingDep u d) broken = no_dep o w s is.feasible u d broken
breaks_none o w s is (Outside None d) broken = no_project o w s is.feasible d broken
breaks_none o w s is (Outside (Some u) d) broken = no_outside o w s is.feasible u d broken
breaks_none o w s is (PinBroken u) broken = no_pin o w s is.feasible u broken
breaks_none o w s is (Unneeded u) broken = broken.unneeded (is.needed u broken.version broken.selected)

-- ---- the first of all

module _ (book : List Packed) (w : Wanted) (s : Selected) where
  pub at_root : (u : Id) → IsFirst (id_cmp book) (LacksRoot w s) u → IsFirstBreach book w s (MissingRoot u)
  at_root u f = record { here = f.here; first = least }
    where
      least : (t : Verdict) → Breaks (book_offers book) w s t → is_lt (verdict_cmp book t (MissingRoot u)) ≡ false
      least Good broken = absurd broken
      least (MissingRoot t) broken = f.first t broken
      least (NoOffer t) broken = refl
      least (MissingDep t d) broken = refl
      least (Outside g d) broken = refl
      least (PinBroken t) broken = refl
      least (Unneeded t) broken = refl

  module _ (roots : (u : Id) → LacksRoot w s u → ⊥) where
    pub at_offer : (u : Id) → IsFirst (id_cmp book) (LacksOffer (book_offers book) s) u → IsFirstBreach book w s (NoOffer u)
    at_offer u f = record { here = f.here; first = least }
      where
        least : (t : Verdict) → Breaks (book_offers book) w s t → is_lt (verdict_cmp book t (NoOffer u)) ≡ false
        least Good broken = absurd broken
        least (MissingRoot t) broken = absurd (roots t broken)
        least (NoOffer t) broken = f.first t broken
        least (MissingDep t d) broken = refl
        least (Outside g d) broken = refl
        least (PinBroken t) broken = refl
        least (Unneeded t) broken = refl

    module _ (offered : (u : Id) → LacksOffer (book_offers book) s u → ⊥) where
      pub at_dep : (x : Id × Id) → IsFirst (both_cmp book) (λ y. LacksDep (book_offers book) s y.0 y.1) x → IsFirstBreach book w s (MissingDep x.0 x.1)
      at_dep x f = record { here = f.here; first = least }
        where
          least : (t : Verdict) → Breaks (book_offers book) w s t → is_lt (verdict_cmp book t (MissingDep x.0 x.1)) ≡ false
          least Good broken = absurd broken
          least (MissingRoot t) broken = absurd (roots t broken)
          least (NoOffer t) broken = absurd (offered t broken)
          least (MissingDep t d) broken = f.first (t, d) broken
          least (Outside g d) broken = refl
          least (PinBroken t) broken = refl
          least (Unneeded t) broken = refl

      module _ (deps : (x : Id × Id) → LacksDep (book_offers book) s x.0 x.1 → ⊥) where
        pub at_project : (d : Id) → IsFirst (id_cmp book) (ProjectExcludes w s) d → IsFirstBreach book w s (Outside None d)
        at_project d f = record { here = f.here; first = least }
          where
            least : (t : Verdict) → Breaks (book_offers book) w s t → is_lt (verdict_cmp book t (Outside None d)) ≡ false
            least Good broken = absurd broken
            least (MissingRoot t) broken = absurd (roots t broken)
            least (NoOffer t) broken = absurd (offered t broken)
            least (MissingDep t e) broken = absurd (deps (t, e) broken)
            least (Outside None e) broken = f.first e broken
            least (Outside (Some t) e) broken = refl
            least (PinBroken t) broken = refl
            least (Unneeded t) broken = refl

        module _ (project : (d : Id) → ProjectExcludes w s d → ⊥) where
          pub at_outside : (x : Id × Id) → IsFirst (both_cmp book) (λ y. Excludes (book_offers book) w.julia s y.0 y.1) x → IsFirstBreach book w s (Outside (Some x.0) x.1)
          at_outside x f = record { here = f.here; first = least }
            where
              least : (t : Verdict) → Breaks (book_offers book) w s t → is_lt (verdict_cmp book t (Outside (Some x.0) x.1)) ≡ false
              least Good broken = absurd broken
              least (MissingRoot t) broken = absurd (roots t broken)
              least (NoOffer t) broken = absurd (offered t broken)
              least (MissingDep t e) broken = absurd (deps (t, e) broken)
              least (Outside None e) broken = absurd (project e broken)
              least (Outside (Some t) e) broken = f.first (t, e) broken
              least (PinBroken t) broken = refl
              least (Unneeded t) broken = refl

          module _ (offers : (x : Id × Id) → Excludes (book_offers book) w.julia s x.0 x.1 → ⊥) where
            pub at_pin : (u : Id) → IsFirst (id_cmp book) (BreaksPin w s) u → IsFirstBreach book w s (PinBroken u)
            at_pin u f = record { here = f.here; first = least }
              where
                least : (t : Verdict) → Breaks (book_offers book) w s t → is_lt (verdict_cmp book t (PinBroken u)) ≡ false
                least Good broken = absurd broken
                least (MissingRoot t) broken = absurd (roots t broken)
                least (NoOffer t) broken = absurd (offered t broken)
                least (MissingDep t e) broken = absurd (deps (t, e) broken)
                least (Outside None e) broken = absurd (project e broken)
                least (Outside (Some t) e) broken = absurd (offers (t, e) broken)
                least (PinBroken t) broken = f.first t broken
                least (Unneeded t) broken = refl

  pub at_spare : (u : Id) → IsFeasible (book_offers book) w s → IsFirst (id_cmp book) (IsSpare (book_offers book) w s) u → IsFirstBreach book w s (Unneeded u)
  at_spare u all f = record { here = f.here; first = least }
    where
      least : (t : Verdict) → Breaks (book_offers book) w s t → is_lt (verdict_cmp book t (Unneeded u)) ≡ false
      least Good broken = absurd broken
      least (MissingRoot t) broken = absurd (no_root (book_offers book) w s all t broken)
      least (NoOffer t) broken = absurd (no_offer (book_offers book) w s all t broken)
      least (MissingDep t d) broken = absurd (no_dep (book_offers book) w s all t d broken)
      least (Outside None d) broken = absurd (no_project (book_offers book) w s all d broken)
      least (Outside (Some t) d) broken = absurd (no_outside (book_offers book) w s all t d broken)
      least (PinBroken t) broken = absurd (no_pin (book_offers book) w s all t broken)
      least (Unneeded t) broken = f.first t broken

  -- the first breach is the verdict
  pub first_is_verdict : (v : Verdict) → IsFirstBreach book w s v → IsVerdict book w s v
  first_is_verdict Good f = absurd f.here
  first_is_verdict (MissingRoot u) f = f
  first_is_verdict (NoOffer u) f = f
  first_is_verdict (MissingDep u d) f = f
  first_is_verdict (Outside g d) f = f
  first_is_verdict (PinBroken u) f = f
  first_is_verdict (Unneeded u) f = f
