-- What the selected offer of a package lacks first, and what it doesn't allow first.
use Rattle.std.proofs.Common.{◌≡◌, ℕ, List, Option, Some, None, refl, sym, ◌∙◌, subst}
use Rattle.std.proofs.lemmas.Option.{none-some, same_Some}
use Rattle.offer_terms.specs.Offered.{Id, Offering, Offers, Selected, taken}
use Rattle.offer_terms.specs.Booked.{Packed}
use Rattle.selection_check.specs.Order.{id_cmp, FirstOf}
use Rattle.selection_check.specs.Breaches.{OfferLacks, LacksDep, OfferExcludes, Excludes}
use Rattle.selection_check.specs.Found.{deps_in, compat_in, first_lacking_other, first_outside}
use Rattle.selection_check.proofs.Orders.{first_like}
use Rattle.selection_check.proofs.Clauses.{deps_first, compat_first}

pub taken_deps_first : (book : List Packed) (o : Offers) (s : Selected) (u : Id) → FirstOf (id_cmp book) (LacksDep o s u) (first_lacking_other book s u (deps_in (taken o s u)))
taken_deps_first book o s u =
    elim (taken o s u) as (λ (found : Option Offering). taken o s u ≡ found → FirstOf (id_cmp book) (LacksDep o s u) (first_lacking_other book s u (deps_in found))) [
      | None ↦ λ none d l. none-some l.offer (sym none ∙ l.selected)
      | Some x ↦ λ is. first_like (id_cmp book) (first_lacking_other book s u x.deps)
          (λ d l. record { offer = x; selected = is; lacks = l })
          (λ d l. subst (λ (y : Offering). OfferLacks s u y d) (same_Some l.offer x (sym l.selected ∙ is)) l.lacks)
          (deps_first book s u x)
    ] refl

pub taken_compat_first : (book : List Packed) (o : Offers) (julia : List ℕ) (s : Selected) (u : Id) → FirstOf (id_cmp book) (Excludes o julia s u) (first_outside book julia s u (compat_in (taken o s u)))
taken_compat_first book o julia s u =
    elim (taken o s u) as (λ (found : Option Offering). taken o s u ≡ found → FirstOf (id_cmp book) (Excludes o julia s u) (first_outside book julia s u (compat_in found))) [
      | None ↦ λ none d l. none-some l.offer (sym none ∙ l.selected)
      | Some x ↦ λ is. first_like (id_cmp book) (first_outside book julia s u x.compat)
          (λ d l. record { offer = x; selected = is; excludes = l })
          (λ d l. subst (λ (y : Offering). OfferExcludes julia s u y d) (same_Some l.offer x (sym l.selected ∙ is)) l.excludes)
          (compat_first julia s u book x)
    ] refl
