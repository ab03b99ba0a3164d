-- The last stanza of a package is its only one, and says the selected version.
use Rattle.std.proofs.Common.{◌≡◌, suc, Bool, true, false, cond, ◌&&◌, true≢false, T, List, [], ◌∷◌, find, Option, Some, None, IsSome, Ok, option_map, unwrap_or, Contains, Less, refl, sym, ap, ◌∙◌, subst, arith}
use Rattle.std.specs.Cmp.Lexicographic.{nat_list_cmp_total}
use Rattle.std.specs.FinMap.Entries.{find as found_at, below_all, is_sorted, same_entries}
use Rattle.std.specs.List.{AllByRecursion}
use Rattle.std.specs.List.Sorted.{IsStrictlySortedBy}
use Rattle.std.specs.Map.{keys_of}
use Rattle.std.specs.Option.{option_or, option_and_then}
use Rattle.std.specs.Ordering.{is_lt}
use Rattle.std.specs.Str.{bytes_eq}
use Rattle.std.proofs.lemmas.Map.Lookups.{exact_bytes}
use Rattle.std.proofs.lemmas.Map.Text.{is_eq-slice_cmp}
use Rattle.std.proofs.lemmas.Option.{none-some, same_Some}
use Rattle.std.proofs.lemmas.Slice.Eq.{bytes_eq-Decides}
use Rattle.jl_versions.specs.declared.version.Version.{Version}
use Rattle.pkg_world.specs.Tree.{Files}
use Rattle.package_tables.specs.Row.{by_bytes}
use Rattle.manifest_file.specs.Saying.{SaidStanza}
use Rattle.registry_tables.specs.Lasts.{last_of}
use Rattle.offer_terms.specs.ById.{AreRising}
use Rattle.offer_terms.specs.Booked.{Packed}
use Rattle.offer_terms.specs.Demanded.{Wanted}
use Rattle.offer_terms.specs.Feasible.{IsFeasible}
use Rattle.offer_terms.specs.Offered.{Id, Selected, version_in, is_of}
use Rattle.offer_catalog.specs.Laws.{LastStanzaIsSelected, SelectedRise}
use Rattle.offer_catalog.specs.SaidCatalog.{SaidCatalog}
use Rattle.offer_catalog.specs.Selected.{counts, given_version, version_of, selected_by}
use Rattle.offer_book.specs.AllOffers.{all_offers, given, or_registries, offers_found}
use Rattle.offer_book.specs.Laws.{FeasibleOverAll}
use Rattle.offer_book.specs.Scope.{scope}
use Rattle.manifest_writing.specs.Laws.{IsOnBook, SelectionIsSaid, StanzasSayOffers, SaysAnOffer}
use Rattle.manifest_writing.specs.Writing.{Found, written}
use Rattle.written_selection.specs.Laws.{HasOthersAlone, WrittenIsSelected, FeasibleIsSelected}

-- ---- the last that passes a test

contains-head : {X : Type 0} (x : X) (xs : List X) → Contains (x ∷ xs) x
contains-head x xs = (0, omega arith, refl)

contains-tail : {X : Type 0} (y : X) (xs : List X) (x : X) → Contains xs x → Contains (y ∷ xs) x
contains-tail y xs x (k, inside, is) = (suc k, omega (arith, inside), is)

last_is : {X : Type 0} (p : X → Bool) (xs : List X) (x : X) → last_of p xs ≡ Some x → (p x ≡ true) × Contains xs x
last_is p [] x is = absurd (none-some x is)
last_is p (y ∷ ys) x is =
    elim (last_of p ys) as (λ o. last_of p ys ≡ o → option_or o (cond (p y) (Some y) None) ≡ Some x → (p x ≡ true) × Contains (y ∷ ys) x) [
      | Some z ↦ λ later same. let at = last_is p ys x (later ∙ same) in (at.0, contains-tail y ys x at.1)
      | None ↦ λ _ here. elim (p y) as (λ b. p y ≡ b → cond b (Some y) None ≡ Some x → (p x ≡ true) × Contains (y ∷ ys) x) [
        | true ↦ λ passes same. subst (λ z. (p z ≡ true) × Contains (y ∷ ys) z) (same_Some y x same) (passes, contains-head y ys)
        | false ↦ λ _ none. absurd (none-some x none)
      ] refl here
    ] refl is

-- where none is the last one, none is the first one
no_first : {X : Type 0} (p q : X → Bool) → ((x : X) → q x ≡ true → p x ≡ true) → (xs : List X) → last_of p xs ≡ None → find q xs ≡ None
no_first p q more [] none = refl
no_first p q more (y ∷ ys) none =
    elim (last_of p ys) as (λ o. last_of p ys ≡ o → option_or o (cond (p y) (Some y) None) ≡ None → cond (q y) (Some y) (find q ys) ≡ None) [
      | Some z ↦ λ _ wrong. absurd (none-some z (sym wrong))
      | None ↦ λ later here. elim (q y) as (λ b. q y ≡ b → cond b (Some y) (find q ys) ≡ None) [
        | true ↦ λ passes. absurd (none-some y (sym here ∙ ap (λ b. cond b (Some y) None) (more y passes)))
        | false ↦ λ _. no_first p q more ys later
      ] refl
    ] refl none

both : (a b : Bool) → (a && b) ≡ true → (a ≡ true) × (b ≡ true)
both true b is = (refl, is)
both false b is = absurd (true≢false (sym is))

-- ---- selections with the same look-ups are the same

lookup_is : (q : Id) (es : Selected) → found_at by_bytes q es ≡ version_in es q
lookup_is q [] = refl
lookup_is q (e ∷ es) = λ i. cond (is_eq-slice_cmp q e.0 i) (Some e.1) (lookup_is q es i)

below_is : (k : Id) (es : Selected) → AllByRecursion (λ y. by_bytes k y ≡ Less) (keys_of es) → below_all by_bytes k es ≡ true
below_is k [] below = refl
below_is k (e ∷ es) below = λ i. is_lt (below.0 i) && below_is k es below.1 i

rising_is : (es : Selected) → AreRising (keys_of es) → is_sorted by_bytes es ≡ true
unfolding IsStrictlySortedBy
rising_is [] rise = refl
rising_is (e ∷ es) rise = λ i. below_is e.0 es rise.0 i && rising_is es rise.1 i

same_selection : (s t : Selected) → AreRising (keys_of s) → AreRising (keys_of t) → ((u : Id) → version_in s u ≡ version_in t u) → s ≡ t
same_selection s t s_rise t_rise same =
    same_entries by_bytes nat_list_cmp_total exact_bytes s t (subst T (sym (rising_is s s_rise)) tt) (subst T (sym (rising_is t t_rise)) tt)
    (λ q. lookup_is q s ∙ same q ∙ sym (lookup_is q t))

-- ---- what was written is read back

module _ (selection_is_said : SelectionIsSaid) (stanzas_say_offers : StanzasSayOffers) (last_is_selected : LastStanzaIsSelected) (selected_rise : SelectedRise) where
  module _ (read : SaidCatalog) (own : Option Id) (book : List Packed) (w : Wanted) (found : Found) (s : Selected) (on : IsOnBook book s) (others : HasOthersAlone own s) where
    abbrev stanzas : List SaidStanza
    stanzas = (written book w found s).stanzas

    abbrev is_of_package : Id → SaidStanza → Bool
    is_of_package u t = counts own t.uuid && bytes_eq u t.uuid

    said_once : (u : Id) (t : SaidStanza) → is_of_package u t ≡ true → Contains stanzas t → Some (version_of read t) ≡ version_in s u
    said_once u t is stands =
        let says : SaysAnOffer book w found s t = stanzas_say_offers book w found s on.once t stands in
        let version : t.version ≡ Some says.version = ap (λ (r : SaidStanza). r.version) says.said in
        let same : u ≡ t.uuid = (bytes_eq-Decides u t.uuid).0 ((both (counts own t.uuid) (bytes_eq u t.uuid) is).1) in
        ap (λ o. Some (unwrap_or o (given_version read t.uuid))) version ∙ sym says.selected ∙ ap (version_in s) (sym same)

    unsaid : (u : Id) → last_of (is_of_package u) stanzas ≡ None → None ≡ version_in s u
    unsaid u none =
        elim (version_in s u) as (λ o. version_in s u ≡ o → None ≡ o) [
          | None ↦ λ _. refl
          | Some v ↦ λ is. ap (option_and_then (λ (t : SaidStanza). t.version)) (sym (no_first (is_of_package u) (λ (t : SaidStanza). bytes_eq u t.uuid) (passes v is) stanzas none))
              ∙ selection_is_said book w found s on u ∙ is
        ] refl
      where
        passes : (v : Version) → version_in s u ≡ Some v → (t : SaidStanza) → bytes_eq u t.uuid ≡ true → is_of_package u t ≡ true
        passes v is t named =
            let same : u ≡ t.uuid = (bytes_eq-Decides u t.uuid).0 named in
            let counted : counts own t.uuid ≡ true = ap (counts own) (sym same) ∙ others u v is in
            λ i. counted i && named i

    same_version : (u : Id) → version_in (selected_by read own (written book w found s)) u ≡ version_in s u
    same_version u =
        last_is_selected read own (written book w found s) u
        ∙ elim (last_of (is_of_package u) stanzas) as (λ o. last_of (is_of_package u) stanzas ≡ o → option_map (version_of read) o ≡ version_in s u) [
          | None ↦ λ none. unsaid u none
          | Some t ↦ λ is. let last = last_is (is_of_package u) stanzas t is in said_once u t last.0 last.1
        ] refl

  pub written_is_selected : WrittenIsSelected
  written_is_selected read own book w found s on others =
      same_selection (selected_by read own (written book w found s)) s (selected_rise read own (written book w found s)) on.once (same_version read own book w found s on others)

  -- nothing is offered of Julia and of the project's own package
  others_alone : (files : Files) (catalog : SaidCatalog) (w : Wanted) (s : Selected) → IsFeasible (all_offers files catalog (scope w)) w s → HasOthersAlone w.own s
  others_alone files catalog w s feasible u v is =
      elim (counts w.own u) as (λ b. IsSome (find (is_of v) (offers_found (cond b (or_registries files catalog (scope w) u (given catalog (scope w) u)) (Ok None)))) → b ≡ true) [
        | true ↦ λ _. refl
        | false ↦ λ none. absurd (true≢false (sym none))
      ] (feasible.offered u v is)

  pub feasible_is_selected : FeasibleOverAll → FeasibleIsSelected
  feasible_is_selected feasible_over_all files catalog read extra book w found s gathers feasible =
      written_is_selected read w.own book w found s (record { once = feasible.once; offered = feasible.offered })
      (others_alone files catalog w s (feasible_over_all files catalog w extra book s gathers feasible))
