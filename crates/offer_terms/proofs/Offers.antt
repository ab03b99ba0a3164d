-- The offers of selected packages alone decide; and a feasible selection that is cut to a closed set.
use Rattle.std.proofs.Common.{◌≡◌, Bool, true, false, cond, List, [], ◌∷◌, Option, Some, None, refl, sym, ap, ◌∙◌, subst}
use Rattle.std.specs.Prelude.{IsSome, is_some, Contains, find, filter}
use Rattle.std.specs.Cmp.Lexicographic.{slice_cmp}
use Rattle.std.specs.List.{position_or_len}
use Rattle.std.specs.Map.{keys_of}
use Rattle.std.specs.Option.{option_and_then}
use Rattle.std.specs.Ordering.{nat_cmp}
use Rattle.std.specs.Str.{bytes_eq}
use Rattle.std.proofs.lemmas.List.Folds.{find_at}
use Rattle.std.proofs.lemmas.List.Kept.{IsStrictlySortedBy-filter}
use Rattle.std.proofs.lemmas.Map.{keys-set_value}
use Rattle.std.proofs.lemmas.Map.Entries.{lookup-filter-keys}
use Rattle.std.proofs.lemmas.Map.Made.{IsSome-lookup_same_keys}
use Rattle.std.proofs.lemmas.Option.{none-some, slice_get_within, get_or_from_slice_get}
use Rattle.std.proofs.lemmas.Slice.Eq.{bytes_eq-Decides}
use Rattle.jl_versions.specs.declared.version.Version.{Version}
use Rattle.offer_terms.specs.ById.{AreRising}
use Rattle.offer_terms.specs.Offered.{Id, Offering, Offers, Selected, version_in, is_of, offer_at, taken, with_version, cut_to}
use Rattle.offer_terms.specs.Demanded.{Wanted}
use Rattle.offer_terms.specs.Feasible.{Spreads}
use Rattle.offer_terms.specs.Laws.{OfferAlike, SameOffers, SameOffersValid, SameOffersRaise, CutStaysFeasible}

-- ---- other offers of packages that aren't selected

some_of : {T : Type 0} (o : Option T) (v : T) → o ≡ Some v → IsSome o
some_of o v is = ap is_some is

alike_at : (o p : Offers) (s : Selected) (u : Id) (v : Version) → OfferAlike o p s → version_in s u ≡ Some v → offer_at o u v ≡ offer_at p u v
alike_at o p s u v same there = ap (find (is_of v)) (same.alike u (some_of (version_in s u) v there))

-- what is selected of a package is the same offer
taken_alike : (o p : Offers) (s : Selected) (u : Id) → OfferAlike o p s → taken o s u ≡ taken p s u
taken_alike o p s u same =
    elim (version_in s u) as (λ found. version_in s u ≡ found → option_and_then (offer_at o u) found ≡ option_and_then (offer_at p u) found) [
      | None ↦ λ _. refl
      | Some v ↦ λ there. alike_at o p s u v same there
    ] refl

pub same_offers : SameOffers
same_offers o p w s same feasible = record {
  once = feasible.once;
  roots = feasible.roots;
  offered = λ u v there. subst IsSome (alike_at o p s u v same there) (feasible.offered u v there);
  needs = λ u x d is. feasible.needs u x d (taken_alike o p s u same ∙ is);
  fits = λ u x e v is. feasible.fits u x e v (taken_alike o p s u same ∙ is);
  julia = λ u x e is. feasible.julia u x e (taken_alike o p s u same ∙ is);
  compat = feasible.compat;
  pinned = feasible.pinned;
}

-- a set that spreads by the one offers does so by the others
same_spread : (o p : Offers) (w : Wanted) (s : Selected) (set : Id → Bool) → OfferAlike o p s → Spreads p w s set → Spreads o w s set
same_spread o p w s set same spreads = record {
  roots = spreads.roots;
  needs = λ u x d here is. spreads.needs u x d here (sym (taken_alike o p s u same) ∙ is);
}

pub same_offers_valid : SameOffersValid
same_offers_valid o p w s same valid = record {
  feasible = same_offers o p w s same valid.feasible;
  needed = λ u v there. record { in_each = λ set spreads. (valid.needed u v there).in_each set (same_spread o p w s set same spreads) };
}

-- the same packages are selected after one has another version
same_packages : (s : Selected) (u : Id) (v : Version) (t : Id) → IsSome (version_in (with_version s u v) t) → IsSome (version_in s t)
same_packages s u v t = (IsSome-lookup_same_keys (bytes_eq t) (with_version s u v) s (keys-set_value (bytes_eq u) s v)).0

alike_after : (o p : Offers) (s : Selected) (u : Id) (v : Version) → OfferAlike o p s → OfferAlike o p (with_version s u v)
alike_after o p s u v same = record { alike = λ t there. same.alike t (same_packages s u v t there) }

pub same_offers_raise : SameOffersRaise
same_offers_raise o p w s u v same can = record {
  free = can.free;
  old = can.old;
  selected = can.selected;
  greater = can.greater;
  offered = subst IsSome (ap (find (is_of v)) (same.alike u (some_of (version_in s u) can.old can.selected))) can.offered;
  stays = same_offers o p w (with_version s u v) (alike_after o p s u v same) can.stays;
}

-- ---- a selection that is cut to a set

-- what an offer of the package is found, is one of its offers
found_is_offered : {X : Type 0} (p : X → Bool) (xs : List X) (x : X) → find p xs ≡ Some x → Contains xs x
found_is_offered p xs x is = let there = sym (find_at p xs) ∙ is in
    (position_or_len p xs, slice_get_within xs (position_or_len p xs) x there, get_or_from_slice_get xs (position_or_len p xs) x x there)

cut_at : (set : Id → Bool) (s : Selected) (u : Id) (b : Bool) → set u ≡ b → version_in (cut_to set s) u ≡ cond b (version_in s u) None
cut_at set s u b is = lookup-filter-keys (bytes_eq u) set b (λ k same. ap set (sym ((bytes_eq-Decides u k).0 same)) ∙ is) s

-- what is left in the selection was in it, and is in the set
record IsLeft (set : Id → Bool) (s : Selected) (u : Id) (v : Version) : Type 0 where
  pub inside : set u ≡ true
  pub there : version_in s u ≡ Some v

left_in : (set : Id → Bool) (s : Selected) (u : Id) (v : Version) → version_in (cut_to set s) u ≡ Some v → IsLeft set s u v
left_in set s u v is =
    elim (set u) as (λ b. set u ≡ b → IsLeft set s u v) [
      | true ↦ λ inside. record { inside = inside; there = sym (cut_at set s u true inside) ∙ is }
      | false ↦ λ out. absurd (none-some v (sym (cut_at set s u false out) ∙ is))
    ] refl

-- what was in the selection and is in the set is left
stays_in : (set : Id → Bool) (s : Selected) (u : Id) → set u ≡ true → IsSome (version_in s u) → IsSome (version_in (cut_to set s) u)
stays_in set s u inside there = subst IsSome (sym (cut_at set s u true inside)) there

-- an offer that is selected after the cut was selected before
record IsTakenLeft (o : Offers) (set : Id → Bool) (s : Selected) (u : Id) (x : Offering) : Type 0 where
  pub inside : set u ≡ true
  pub before : taken o s u ≡ Some x
  pub offered : Contains (o u) x

left_taken : (o : Offers) (set : Id → Bool) (s : Selected) (u : Id) (x : Offering) → taken o (cut_to set s) u ≡ Some x → IsTakenLeft o set s u x
left_taken o set s u x =
    elim (version_in (cut_to set s) u) as (λ found. version_in (cut_to set s) u ≡ found → option_and_then (offer_at o u) found ≡ Some x → IsTakenLeft o set s u x) [
      | None ↦ λ _ is. absurd (none-some x is)
      | Some v ↦ λ there is. let left = left_in set s u v there in record {
        inside = left.inside;
        before = ap (option_and_then (offer_at o u)) left.there ∙ is;
        offered = found_is_offered (is_of v) (o u) x is;
      }
    ] refl

keys-cut : (set : Id → Bool) (s : Selected) → keys_of (cut_to set s) ≡ filter set (keys_of s)
keys-cut set [] = refl
keys-cut set (e ∷ s) =
    elim (set e.0) as (λ b. keys_of (cond b (e ∷ cut_to set s) (cut_to set s)) ≡ cond b (e.0 ∷ filter set (keys_of s)) (filter set (keys_of s))) [
      | true ↦ ap (λ ids. e.0 ∷ ids) (keys-cut set s)
      | false ↦ keys-cut set s
    ]

pub cut_stays_feasible : CutStaysFeasible
cut_stays_feasible o w s set closed feasible = record {
  once = subst AreRising (sym (keys-cut set s)) (IsStrictlySortedBy-filter (slice_cmp nat_cmp) set (keys_of s) feasible.once);
  roots = λ r root. stays_in set s r.1 (closed.roots r root) (feasible.roots r root);
  offered = λ u v there. feasible.offered u v (left_in set s u v there).there;
  needs = λ u x d is dep other. let left = left_taken o set s u x is in
      stays_in set s d.1 (closed.needs u x d left.inside left.offered dep other) (feasible.needs u x d left.before dep other);
  fits = λ u x e v is entry other there. feasible.fits u x e v (left_taken o set s u x is).before entry other (left_in set s e.0 v there).there;
  julia = λ u x e is. feasible.julia u x e (left_taken o set s u x is).before;
  compat = λ e v entry there. feasible.compat e v entry (left_in set s e.0 v there).there;
  pinned = λ p v pin there. feasible.pinned p v pin (left_in set s p.0 v there).there;
}
