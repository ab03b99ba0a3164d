-- Packages of a book by their ranks, and what a book offers by its packages' numbers.
use Rattle.std.proofs.Common.{◌≡◌, ℕ, ◌<◌, ◌≤◌, suc, ◌+◌, Bool, true, false, not, cond, ltb, true≢false, ◌⊎◌, List, [], ◌∷◌, length, get_or, Some, None, bytes_eq, option_and_then, le-ltb, lt-ltb, ltb-true, refl, sym, ap, ◌∙◌, subst, inl, inr, arith}
use Rattle.std.specs.Prelude.{find, slice_get}
use Rattle.std.specs.List.{IsDistinct}
use Rattle.std.proofs.lemmas.Bool.{cases_lt}
use Rattle.std.proofs.lemmas.List.{get_or-map, length-map}
use Rattle.std.proofs.lemmas.List.Folds.{find_at}
use Rattle.std.proofs.lemmas.List.Sums.{position_or_len_is}
use Rattle.std.proofs.lemmas.Map.Keys.{apart_from_distinct}
use Rattle.std.proofs.lemmas.Option.{none-some, same_Some, slice_get-get_or, slice_get_past, cond_some, option_and_then_some}
use Rattle.std.proofs.lemmas.Slice.Eq.{bytes_eq-Decides}
use Rattle.jl_versions.specs.declared.version.Version.{Version}
use Rattle.offer_terms.specs.Offered.{Id, Offering, Selected, version_in, is_of, offer_at, taken}
use Rattle.offer_terms.specs.Booked.{Packed, unread, package_at, ids_of, is_for, number_of, offers_of, book_offers}
use Rattle.selection_check.specs.Order.{rank}

-- ---- identifiers

pub same_id : (u t : Id) → bytes_eq u t ≡ true → u ≡ t
same_id u t = (bytes_eq-Decides u t).0

pub id_itself : (u t : Id) → u ≡ t → bytes_eq u t ≡ true
id_itself u t = (bytes_eq-Decides u t).1

-- two identifiers are the same or not
pub id_case : (u t : Id) → ((u ≡ t) × (bytes_eq u t ≡ true)) ⊎ ((u ≡ t → ⊥) × (bytes_eq u t ≡ false))
id_case u t =
    elim (bytes_eq u t) as (λ b. bytes_eq u t ≡ b → ((u ≡ t) × (bytes_eq u t ≡ true)) ⊎ ((u ≡ t → ⊥) × (bytes_eq u t ≡ false))) [
      | true ↦ λ is. inl (same_id u t is, is)
      | false ↦ λ is. inr (λ e. true≢false (sym (id_itself u t e) ∙ is), is)
    ] refl

pub apart_back : (u t : Id) → bytes_eq u t ≡ false → bytes_eq t u ≡ false
apart_back u t is =
    elim (bytes_eq t u) as (λ b. bytes_eq t u ≡ b → b ≡ false) [
      | true ↦ λ back. absurd (true≢false (sym (id_itself u t (sym (same_id t u back))) ∙ is))
      | false ↦ λ _. refl
    ] refl

-- ---- ranks

pub found_passes : {X : Type 0} (p : X → Bool) (xs : List X) (x : X) → find p xs ≡ Some x → p x ≡ true
found_passes p [] x is = absurd (none-some x is)
found_passes p (y ∷ xs) x is =
    elim (p y) as (λ b. p y ≡ b → cond b (Some y) (find p xs) ≡ Some x → p x ≡ true) [
      | true ↦ λ passes here. ap p (sym (same_Some y x here)) ∙ passes
      | false ↦ λ _ later. found_passes p xs x later
    ] refl is

-- what is found of an identifier that the book holds
pub found_at_rank : (book : List Packed) (u : Id) → rank book u < length book → find (is_for u) book ≡ Some (package_at book (rank book u))
found_at_rank book u inside = find_at (is_for u) book ∙ slice_get-get_or book (rank book u) (unread [] []) inside

-- the package at an identifier's rank has that identifier
pub id_at_rank : (book : List Packed) (u : Id) → rank book u < length book → u ≡ (package_at book (rank book u)).uuid
id_at_rank book u inside = same_id u _ (found_passes (is_for u) book _ (found_at_rank book u inside))

-- the rank of the identifier of a package is its number
pub rank_of_number : (book : List Packed) (p : ℕ) → IsDistinct bytes_eq (ids_of book) → p < length book → rank book (package_at book p).uuid ≡ p
rank_of_number book p once inside = position_or_len_is (is_for (package_at book p).uuid) book p (unread [] []) (omega (arith, inside)) before here
  where
    id_at : (k : ℕ) → k < length book → get_or (ids_of book) k [] ≡ (package_at book k).uuid
    id_at k inside = get_or-map (λ (it : Packed). it.uuid) book k (unread [] []) [] inside

    before : (k : ℕ) → k < p → is_for (package_at book p).uuid (package_at book k) ≡ false
    before k below =
        let ids = apart_from_distinct bytes_eq (ids_of book) k p [] once below (omega (arith, inside, length-map book (λ (it : Packed). it.uuid))) in
        apart_back (package_at book k).uuid (package_at book p).uuid ((λ i. bytes_eq (sym (id_at k (omega (arith, below, inside))) i) (sym (id_at p inside) i)) ∙ ids)

    here : p < length book → is_for (package_at book p).uuid (package_at book p) ≡ true
    here _ = id_itself (package_at book p).uuid (package_at book p).uuid refl

pub unheld_rank : (book : List Packed) (u : Id) → length book ≤ rank book u → number_of book u ≡ None
unheld_rank book u past = ap (λ b. cond b (Some (rank book u)) None) (le-ltb (rank book u) (length book) past)

-- ---- offers

pub offers_at_rank : (book : List Packed) (u : Id) → rank book u < length book → book_offers book u ≡ (package_at book (rank book u)).offers
offers_at_rank book u inside = ap offers_of (found_at_rank book u inside)

pub offers_of_number : (book : List Packed) (p : ℕ) → IsDistinct bytes_eq (ids_of book) → p < length book → book_offers book (package_at book p).uuid ≡ (package_at book p).offers
offers_of_number book p once inside =
    let at = rank_of_number book p once inside in
    ap offers_of (find_at (is_for (package_at book p).uuid) book ∙ ap (slice_get book) at ∙ slice_get-get_or book p (unread [] []) inside)

pub offers_past : (book : List Packed) (u : Id) → length book ≤ rank book u → book_offers book u ≡ []
offers_past book u past = ap offers_of (find_at (is_for u) book ∙ slice_get_past book (rank book u) past)

-- what has an offer has a number
pub offered_held : (book : List Packed) (u : Id) (v : Version) (x : Offering) → offer_at (book_offers book) u v ≡ Some x → rank book u < length book
offered_held book u v x is = elim (cases_lt (rank book u) (length book)) [
  | inl inside ↦ inside
  | inr past ↦ absurd (none-some x (ap (find (is_of v)) (sym (offers_past book u past)) ∙ is))
]

pub taken_held : (book : List Packed) (s : Selected) (u : Id) (x : Offering) → taken (book_offers book) s u ≡ Some x → rank book u < length book
taken_held book s u x is = option_and_then_some (offer_at (book_offers book) u) (version_in s u) x is (λ v _ at. offered_held book u v x at)

-- ---- what a call for a number answers

rank_within : (book : List Packed) (u : Id) → rank book u ≤ length book
rank_within [] u = omega arith
rank_within (it ∷ book) u =
    let rest = rank_within book u in
    elim (is_for u it) as (λ b. cond (not b) (1 + rank book u) 0 ≤ suc (length book)) [ true ↦ omega arith | false ↦ omega (arith, rest) ]

pub number_is_rank : (book : List Packed) (u : Id) (p : ℕ) → Some p ≡ number_of book u → p ≡ rank book u
number_is_rank book u p is = sym (cond_some (ltb (rank book u) (length book)) (rank book u) p (sym is)).1

pub number_inside : (book : List Packed) (u : Id) (p : ℕ) → Some p ≡ number_of book u → p < length book
number_inside book u p is =
    let parts = cond_some (ltb (rank book u) (length book)) (rank book u) p (sym is) in
    subst (λ n. n < length book) parts.1 (ltb-true (rank book u) (length book) parts.0)

pub held_number : (book : List Packed) (u : Id) → rank book u < length book → number_of book u ≡ Some (rank book u)
held_number book u inside = ap (λ b. cond b (Some (rank book u)) None) (lt-ltb (rank book u) (length book) inside)

pub past_rank : (book : List Packed) (u : Id) → None ≡ number_of book u → length book ≤ rank book u
past_rank book u none = elim (cases_lt (rank book u) (length book)) [
  | inl inside ↦ absurd (none-some (rank book u) (none ∙ held_number book u inside))
  | inr past ↦ past
]

pub no_rank : (book : List Packed) (u : Id) → None ≡ number_of book u → length book ≡ rank book u
no_rank book u none = let past = past_rank book u none in let within = rank_within book u in omega (arith, past, within)

-- what is taken of a selected package
pub taken_of_number : (book : List Packed) (s : Selected) (p : ℕ) (v : Version) → IsDistinct bytes_eq (ids_of book) → p < length book → Some v ≡ version_in s (package_at book p).uuid →
    taken (book_offers book) s (package_at book p).uuid ≡ find (is_of v) (package_at book p).offers
taken_of_number book s p v once inside at =
    ap (option_and_then (offer_at (book_offers book) (package_at book p).uuid)) (sym at) ∙ ap (find (is_of v)) (offers_of_number book p once inside)
