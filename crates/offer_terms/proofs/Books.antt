-- What a book keeps, seen as its packages.
use Rattle.std.proofs.Common.{◌≡◌, ℕ, zero, suc, ◌-◌, ◌^◌, ◌<◌, true, false, cond, true≢false, is_some, List, [], ◌∷◌, ◌++◌, map, length, Option, Some, None, ◌⊎◌, inl, inr, refl, sym, ap, ◌∙◌, subst, arith}
use Rattle.std.specs.Prelude.{position, slice_get}
use Rattle.indexmap.specs.Layout.{set_value_at, length-set_value_at}
use Rattle.std.specs.List.Sorted.{IsStrictlySortedBy}
use Rattle.std.specs.Map.{keys_of}
use Rattle.std.specs.Option.{option_map}
use Rattle.std.specs.Str.{bytes_eq}
use Rattle.std.proofs.lemmas.List.{length-append, length-map, map-append}
use Rattle.std.proofs.lemmas.Option.{none-some, same_Some, slice_get-map, slice_get-get_or, get_or_from_slice_get}
use Rattle.offer_terms.specs.Offered.{Text, Id, offering}
use Rattle.offer_terms.specs.Booked.{Packed, unread, package_at, ids_of, is_for, number_of, offers_of, book_offers, entered, filled}
use Rattle.offer_terms.specs.Kept.{AreNumbered, DoRise, packed, IsKept}
use Rattle.offer_terms.specs.declared.book.Package.{Package}
use Rattle.offer_terms.proofs.Finds.{position-map, position_within, find_there, find_nowhere}

-- the package of a number is what is kept there
pub package_is : (es : List (Id × Package)) (p : ℕ) (e : Id × Package) → slice_get es p ≡ Some e → package_at (map packed es) p ≡ packed e
package_is es p e there = get_or_from_slice_get (map packed es) p (packed e) (unread [] []) (slice_get-map packed es p ∙ ap (option_map packed) there)

pub ids-packed : (es : List (Id × Package)) → ids_of (map packed es) ≡ keys_of es
ids-packed [] = refl
ids-packed (e ∷ es) = ap (λ ids. e.0 ∷ ids) (ids-packed es)

-- ---- numbers

pub number_of-packed : (es : List (Id × Package)) (u : Id) → number_of (map packed es) u ≡ position (bytes_eq u) (keys_of es)
number_of-packed es u = position-map packed (is_for u) es ∙ sym (position-map (λ e. e.0) (bytes_eq u) es)

-- what a book offers of a package is what it holds at its number
pub offers_at_number : (book : List Packed) (u : Id) (p : ℕ) → Some p ≡ number_of book u → book_offers book u ≡ (package_at book p).offers
offers_at_number book u p at =
    let there = slice_get-get_or book p (unread [] []) (position_within (is_for u) book p at) in
    ap offers_of (find_there (is_for u) book p at ∙ there)

pub offers_nowhere : (book : List Packed) (u : Id) → None ≡ number_of book u → book_offers book u ≡ []
offers_nowhere book u nowhere = ap offers_of (find_nowhere (is_for u) book nowhere)

-- ---- one package more

pub none_from : {T : Type 0} (o : Option T) → is_some o ≡ false → o ≡ None
none_from None no_value = refl
none_from (Some x) no_value = absurd (true≢false no_value)

pub entered_there : (book : List Packed) (u : Id) (name : Text) → is_some (number_of book u) ≡ true → book ≡ entered book u name
entered_there book u name there = sym (ap (λ t. cond t book (book ++ unread u name ∷ [])) there)

pub entered_packed : (es new : List (Id × Package)) (book : List Packed) (u : Id) (name : Text) (w : Package) → map packed es ≡ book → new ≡ es ++ (u, w) ∷ [] →
    w.name ≡ name → w.has_source ≡ false → w.offers.items ≡ [] → is_some (number_of book u) ≡ false → map packed new ≡ entered book u name
entered_packed es new book u name w view last named source none absent =
    let one : packed (u, w) ≡ unread u name = λ i. record { uuid = u; name = named i; has_source = source i; offers = map offering (none i) } in
    ap (map packed) last ∙ map-append packed es ((u, w) ∷ []) ∙ (λ i. view i ++ one i ∷ []) ∙ sym (ap (λ t. cond t book (book ++ unread u name ∷ [])) absent)

entry_past : (es : List (Id × Package)) (x e : Id × Package) (q : ℕ) → slice_get (es ++ x ∷ []) q ≡ Some e → (slice_get es q ≡ Some e) ⊎ (x ≡ e)
entry_past [] x e zero there = inr (same_Some x e there)
entry_past [] x e (suc q) there = absurd (none-some e there)
entry_past (y ∷ es) x e zero there = inl there
entry_past (y ∷ es) x e (suc q) there = entry_past es x e q there

pub kept-entered : (es : List (Id × Package)) (x : Id × Package) → IsKept es → length es < 2 ^ 32 - 1 → x.1.offers.items ≡ [] → IsKept (es ++ x ∷ [])
unfolding IsStrictlySortedBy
kept-entered es x kept few none = record {
  few = omega (arith, length-append es (x ∷ []));
  numbered = λ q e there. elim (entry_past es x e q there) [
    | inl before ↦ kept.numbered q e before
    | inr last ↦ subst (AreNumbered q) (sym none ∙ ap (λ (y : Id × Package). y.1.offers.items) last) (λ k d past. absurd (omega (arith, past)))
  ];
  rising = λ q e there. elim (entry_past es x e q there) [
    | inl before ↦ kept.rising q e before
    | inr last ↦ subst DoRise (sym none ∙ ap (λ (y : Id × Package). y.1.offers.items) last) tt
  ];
}

pub few_entries : (es : List (Id × Package)) (book : List Packed) (n : ℕ) → map packed es ≡ book → length book < n → length es < n
few_entries es book n view few = omega (arith, few, ap length view, length-map es packed)

-- ---- a package's offers

pub packed-filled : (es : List (Id × Package)) (p : ℕ) (w : Package) → w.name ≡ (package_at (map packed es) p).name → w.has_source ≡ true →
    map packed (set_value_at es p w) ≡ filled (map packed es) p (map offering w.offers.items)
packed-filled [] p w name source = refl
packed-filled (e ∷ es) zero w name source = λ i. record { uuid = e.0; name = name i; has_source = source i; offers = map offering w.offers.items } ∷ map packed es
packed-filled (e ∷ es) (suc p) w name source = ap (λ more. packed e ∷ more) (packed-filled es p w name source)

entry_set : (es : List (Id × Package)) (p : ℕ) (w : Package) (q : ℕ) (e : Id × Package) → slice_get (set_value_at es p w) q ≡ Some e → ((q ≡ p) × (w ≡ e.1)) ⊎ (slice_get es q ≡ Some e)
entry_set [] p w q e there = inr there
entry_set (y ∷ es) zero w zero e there = inl (refl, ap (λ x. x.1) (same_Some _ _ there))
entry_set (y ∷ es) zero w (suc q) e there = inr there
entry_set (y ∷ es) (suc p) w zero e there = inr there
entry_set (y ∷ es) (suc p) w (suc q) e there = elim (entry_set es p w q e there) [
  | inl here ↦ inl (ap suc here.0, here.1)
  | inr other ↦ inr other
]

pub kept-filled : (es : List (Id × Package)) (p : ℕ) (w : Package) → IsKept es → AreNumbered p w.offers.items → DoRise w.offers.items → IsKept (set_value_at es p w)
kept-filled es p w kept numbered rising = record {
  few = subst (λ n. n < 2 ^ 32) (sym (length-set_value_at es p w)) kept.few;
  numbered = λ q e there. elim (entry_set es p w q e there) [
    | inl here ↦ subst (λ n. AreNumbered n e.1.offers.items) (sym here.0) (subst (λ (x : Package). AreNumbered p x.offers.items) here.1 numbered)
    | inr other ↦ kept.numbered q e other
  ];
  rising = λ q e there. elim (entry_set es p w q e there) [
    | inl here ↦ subst (λ (x : Package). DoRise x.offers.items) here.1 rising
    | inr other ↦ kept.rising q e other
  ];
}
