-- Packages of a book by their numbers and by their identifiers.
use Rattle.std.proofs.Common.{◌≡◌, ℕ, ◌<◌, Bool, true, false, cond, ltb, true≢false, ◌⊎◌, List, [], ◌∷◌, length, get_or, Some, None, bytes_eq, lt-ltb, refl, sym, ap, ◌∙◌, inl, inr, arith}
use Rattle.std.specs.Prelude.{find}
use Rattle.std.specs.List.{IsDistinct, position_or_len}
use Rattle.std.proofs.lemmas.List.{get_or-map, length-map}
use Rattle.std.proofs.lemmas.List.Sums.{position_or_len_is}
use Rattle.std.proofs.lemmas.Map.Keys.{apart_from_distinct}
use Rattle.std.proofs.lemmas.Option.{none-some, same_Some, slice_get-get_or}
use Rattle.std.proofs.lemmas.Slice.Eq.{bytes_eq-Decides}
use Rattle.offer_terms.specs.Offered.{Id}
use Rattle.offer_terms.specs.Booked.{Packed, unread, package_at, ids_of, is_for, number_of, book_offers}
use Rattle.offer_terms.proofs.Finds.{position_within, find_there}
use Rattle.offer_terms.proofs.Books.{offers_at_number}
use Rattle.book_graph.specs.StandsFor.{id_of}
use Rattle.book_graph.specs.Building.{IsNumberOf, IsNowhere}

-- ---- identifiers

pub same_id : (u t : Id) → bytes_eq u t ≡ true → u ≡ t
same_id u t = (bytes_eq-Decides u t).0

pub id_itself : (u t : Id) → u ≡ t → bytes_eq u t ≡ true
id_itself u t = (bytes_eq-Decides u t).1

-- two identifiers are the same or not
pub id_case : (u t : Id) → ((u ≡ t) × (bytes_eq u t ≡ true)) ⊎ ((u ≡ t → ⊥) × (bytes_eq u t ≡ false))
id_case u t =
    elim (bytes_eq u t) as (λ b. bytes_eq u t ≡ b → ((u ≡ t) × (bytes_eq u t ≡ true)) ⊎ ((u ≡ t → ⊥) × (bytes_eq u t ≡ false))) [
      | true ↦ λ is. inl (same_id u t is, is)
      | false ↦ λ is. inr (λ e. true≢false (sym (id_itself u t e) ∙ is), is)
    ] refl

-- ---- numbers

pub found_passes : {X : Type 0} (p : X → Bool) (xs : List X) (x : X) → find p xs ≡ Some x → p x ≡ true
found_passes p [] x is = absurd (none-some x is)
found_passes p (y ∷ xs) x is =
    elim (p y) as (λ b. p y ≡ b → cond b (Some y) (find p xs) ≡ Some x → p x ≡ true) [
      | true ↦ λ passes here. ap p (sym (same_Some y x here)) ∙ passes
      | false ↦ λ _ later. found_passes p xs x later
    ] refl is

-- a number stands within the book, at the package of that identifier
pub number_is : (book : List Packed) (u : Id) (q : ℕ) → Some q ≡ number_of book u → (q < length book) × (id_of book q ≡ u)
number_is book u q at =
    let inside = position_within (is_for u) book q at in
    (inside, sym (same_id u (id_of book q) (found_passes (is_for u) book (package_at book q) (find_there (is_for u) book q at ∙ slice_get-get_or book q (unread [] []) inside))))

module _ (book : List Packed) (once : IsDistinct bytes_eq (ids_of book)) where
  id_at : (k : ℕ) → k < length book → get_or (ids_of book) k [] ≡ id_of book k
  id_at k inside = get_or-map (λ (it : Packed). it.uuid) book k (unread [] []) [] inside

  -- the number of a package's identifier is its own
  pub number_at : (p : ℕ) → p < length book → number_of book (id_of book p) ≡ Some p
  number_at p inside =
      let first : position_or_len (is_for (id_of book p)) book ≡ p = position_or_len_is (is_for (id_of book p)) book p (unread [] []) (omega (arith, inside)) before here in
      ap (λ k. cond (ltb k (length book)) (Some k) None) first ∙ ap (λ b. cond b (Some p) None) (lt-ltb p (length book) inside)
    where
      before : (k : ℕ) → k < p → is_for (id_of book p) (package_at book k) ≡ false
      before k below =
          let ids = apart_from_distinct bytes_eq (ids_of book) k p [] once below (omega (arith, inside, length-map book (λ (it : Packed). it.uuid))) in
          let apart : bytes_eq (id_of book k) (id_of book p) ≡ false = (λ i. bytes_eq (sym (id_at k (omega (arith, below, inside))) i) (sym (id_at p inside) i)) ∙ ids in
          elim (id_case (id_of book p) (id_of book k)) [
            | inl same ↦ absurd (true≢false (sym (id_itself (id_of book k) (id_of book p) (sym same.0)) ∙ apart))
            | inr other ↦ other.1
          ]

      here : p < length book → is_for (id_of book p) (package_at book p) ≡ true
      here _ = id_itself (id_of book p) (id_of book p) refl

  pub number_named : (p : ℕ) (u : Id) → p < length book → id_of book p ≡ u → number_of book u ≡ Some p
  number_named p u inside named = ap (number_of book) (sym named) ∙ number_at p inside

  -- two packages of one identifier are one
  pub one_number : (p q : ℕ) → p < length book → q < length book → id_of book p ≡ id_of book q → p ≡ q
  one_number p q first second same = same_Some p q (sym (number_at p first) ∙ ap (number_of book) same ∙ number_at q second)

  pub offers_of_number : (p : ℕ) → p < length book → book_offers book (id_of book p) ≡ (package_at book p).offers
  offers_of_number p inside = offers_at_number book (id_of book p) p (sym (number_at p inside))

  -- ---- what a call for a number answers

  pub number_in_some : (u : Id) (q : ℕ) → Some q ≡ number_of book u → IsNumberOf book u q
  number_in_some u q at =
      let is = number_is book u q at in
      record { known = is.0; named = is.1; only = λ r inside named. same_Some r q (sym (number_named r u inside named) ∙ sym at) }

  pub number_in_none : (u : Id) → None ≡ number_of book u → IsNowhere book u
  number_in_none u none r inside named = none-some r (none ∙ number_named r u inside named)
