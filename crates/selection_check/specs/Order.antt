-- The order in which packages are named, where several break a clause: by their numbers in the book. An identifier that the
-- book doesn't hold stands after all that it holds, and these go by their bytes; the project stands before all. (own rule)
use Rattle.std.specs.Prelude.{◌≡◌, ℕ, false, List, Option, Some, None, MatchOption, if◌then◌else◌}
use Rattle.std.specs.List.{position_or_len}
use Rattle.std.specs.Option.{option_cmp}
use Rattle.std.specs.Ordering.{nat_cmp, on, then_cmp, is_lt}
use Rattle.std.specs.declared.cmp.Ordering.{Ordering}
use Rattle.std.specs.Cmp.Lexicographic.{slice_cmp}
use Rattle.offer_terms.specs.Offered.{Id}
use Rattle.offer_terms.specs.Booked.{Packed, is_for}

-- the number of an identifier, or that of the book's packages where it has none
abbrev pub rank : List Packed → Id → ℕ
rank book u = position_or_len (is_for u) book

abbrev pub id_cmp : List Packed → Id → Id → Ordering
id_cmp book = then_cmp (on (rank book) nat_cmp) (slice_cmp nat_cmp)

-- by the first package, where None is the project, and then by the second
abbrev pub pair_cmp : List Packed → Option Id × Id → Option Id × Id → Ordering
pair_cmp book = then_cmp (on (λ x. x.0) (option_cmp (id_cmp book))) (on (λ x. x.1) (id_cmp book))

-- by the one package, and then by the other
abbrev pub both_cmp : List Packed → Id × Id → Id × Id → Ordering
both_cmp book = then_cmp (on (λ x. x.0) (id_cmp book)) (on (λ x. x.1) (id_cmp book))

-- it is one of these, and none of them stands before it
pub record IsFirst {K : Type 0} (order : K → K → Ordering) (These : K → Type 0) (k : K) : Type 0 where
  pub here : These k
  pub first : (j : K) → These j → is_lt (order j k) ≡ false

-- the first of these, or None where there is none
abbrev pub FirstOf : {K : Type 0} → (K → K → Ordering) → (K → Type 0) → Option K → Type 0
FirstOf {K} order These found = MatchOption found ((k : K) → These k → ⊥) (IsFirst order These)

-- of two identifiers that may be missing the one that stands first
abbrev pub first_id : List Packed → Option Id → Option Id → Option Id
first_id book None other = other
first_id book (Some u) None = Some u
first_id book (Some u) (Some t) = if is_lt (id_cmp book t u) then Some t else Some u
