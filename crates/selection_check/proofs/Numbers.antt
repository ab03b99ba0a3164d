-- Passes over a book's packages in the order of their numbers.
use Rattle.std.proofs.Common.{◌≡◌, ℕ, ◌+◌, ◌<◌, false, cond, ◌⊎◌, List, length, Less, Equal, Greater, nat_cmp, is_lt, eqb, bytes_eq, find, le-ltb, ne_eqb, sym, ap, ◌∙◌, subst, inl, inr, arith}
use Rattle.std.specs.List.{IsDistinct}
use Rattle.std.specs.Ordering.{ordering_then}
use Rattle.std.specs.Cmp.{tied_itself}
use Rattle.std.specs.Cmp.Lexicographic.{slice_cmp}
use Rattle.std.proofs.lemmas.Bool.{cases_lt, cases_eq}
use Rattle.offer_terms.specs.Offered.{Id, Selected, is_of}
use Rattle.offer_terms.specs.Booked.{Packed, package_at, ids_of, book_offers}
use Rattle.selection_check.specs.Order.{rank, id_cmp, both_cmp, IsFirst, FirstOf}
use Rattle.selection_check.specs.Breaches.{LacksOffer}
use Rattle.selection_check.specs.Found.{first_unheld}
use Rattle.selection_check.proofs.Ranks.{id_at_rank, rank_of_number, unheld_rank, past_rank, offers_past}
use Rattle.selection_check.proofs.Orders.{id_total, itself, first_like}
use Rattle.selection_check.proofs.Clauses.{IsUnknown, unknown_first}

greater : (n p : ℕ) → p < n → nat_cmp n p ≡ Greater
greater n p above = ap (λ b. cond b Less (cond (eqb n p) Equal Greater)) (le-ltb n p (omega (arith, above))) ∙ ap (λ b. cond b Equal Greater) (ne_eqb n p (omega (arith, above)))

module _ (book : List Packed) where
  -- what is so of no package of the book isn't so of what has a number
  pub none_numbered : (P : Id → Type 0) → ((t : Id) → P t → rank book t < length book) → ((q : ℕ) → q < length book → P (package_at book q).uuid → ⊥) → (t : Id) → P t → ⊥
  none_numbered P held none t is = let inside = held t is in none (rank book t) inside (subst P (id_at_rank book t inside) is)

  module _ (once : IsDistinct bytes_eq (ids_of book)) (p : ℕ) (inside : p < length book) where
    -- what doesn't stand at a lesser number is this package or stands after it
    at_or_past : (t : Id) → (rank book t < p → ⊥) → (t ≡ (package_at book p).uuid) ⊎ (id_cmp book t (package_at book p).uuid ≡ Greater)
    at_or_past t out = elim (cases_eq (rank book t) p) [
      | inl here ↦ inl (id_at_rank book t (omega (arith, here, inside)) ∙ ap (λ k. (package_at book k).uuid) here)
      | inr ne ↦ inr (ap (λ r. ordering_then r (slice_cmp nat_cmp t (package_at book p).uuid))
          (ap (nat_cmp (rank book t)) (rank_of_number book p once inside) ∙ greater (rank book t) p (past ne)))
    ]
      where
        past : (rank book t ≡ p → ⊥) → p < rank book t
        past ne = elim (cases_lt (rank book t) p) [ inl below ↦ absurd (out below) | inr above ↦ omega (arith, ne, above) ]

    not_before : (P : Id → Type 0) → ((q : ℕ) → q < p → P (package_at book q).uuid → ⊥) → (t : Id) → P t → rank book t < p → ⊥
    not_before P none t is below = none (rank book t) below (subst P (id_at_rank book t (omega (arith, below, inside))) is)

    -- the first package of which it is so
    pub first_number : (P : Id → Type 0) → ((q : ℕ) → q < p → P (package_at book q).uuid → ⊥) → P (package_at book p).uuid → IsFirst (id_cmp book) P (package_at book p).uuid
    first_number P none here = record {
      here = here;
      first = λ t is. elim (at_or_past t (not_before P none t is)) [
        | inl same ↦ subst (λ x. is_lt (id_cmp book x (package_at book p).uuid) ≡ false) (sym same) (itself (id_total book) (package_at book p).uuid)
        | inr after ↦ ap is_lt after
      ];
    }

    -- and the first other package of which it is so with this one
    pub first_pair : (P : Id → Id → Type 0) → ((q : ℕ) → q < p → (d : Id) → P (package_at book q).uuid d → ⊥) → (d : Id) → IsFirst (id_cmp book) (P (package_at book p).uuid) d
        → IsFirst (both_cmp book) (λ x. P x.0 x.1) ((package_at book p).uuid, d)
    first_pair P none d f = record {
      here = f.here;
      first = λ x is. elim (at_or_past x.0 (λ below. none (rank book x.0) below x.1 (subst (λ t. P t x.1) (id_at_rank book x.0 (omega (arith, below, inside))) is))) [
        | inl same ↦
            let tied = subst (λ t. id_cmp book t (package_at book p).uuid ≡ Equal) (sym same) (tied_itself (id_total book) (package_at book p).uuid) in
            ap (λ r. is_lt (ordering_then r (id_cmp book x.1 d))) tied ∙ f.first x.1 (subst (λ t. P t x.1) same is)
        | inr after ↦ ap (λ r. is_lt (ordering_then r (id_cmp book x.1 d))) after
      ];
    }

  -- ---- packages without an offer

  pub offer_first : (s : Selected) → ((q : ℕ) → q < length book → LacksOffer (book_offers book) s (package_at book q).uuid → ⊥) → FirstOf (id_cmp book) (LacksOffer (book_offers book) s) (first_unheld book s)
  offer_first s none = first_like (id_cmp book) (first_unheld book s) to back (unknown_first book s)
    where
      to : (u : Id) → IsUnknown book s u → LacksOffer (book_offers book) s u
      to u l = record { version = l.version; selected = l.selected; missing = ap (find (is_of l.version)) (offers_past book u (past_rank book u (sym l.unheld))) }

      back : (u : Id) → LacksOffer (book_offers book) s u → IsUnknown book s u
      back u l = record {
        version = l.version;
        selected = l.selected;
        unheld = unheld_rank book u (elim (cases_lt (rank book u) (length book)) [
          | inl inside ↦ absurd (none (rank book u) inside (subst (LacksOffer (book_offers book) s) (id_at_rank book u inside) l))
          | inr past ↦ past
        ]);
      }

-- ---- one number more

pub below_next : (P : ℕ → Type 0) (n : ℕ) → ((k : ℕ) → k < n → P k) → P n → (k : ℕ) → k < n + 1 → P k
below_next P n all next k below = elim (cases_eq k n) [
  | inl same ↦ subst P (sym same) next
  | inr ne ↦ all k (omega (arith, below, ne))
]
