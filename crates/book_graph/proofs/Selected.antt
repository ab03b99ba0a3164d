-- The versions that states choose, package by package.
use Rattle.std.proofs.Common.{◌≡◌, ℕ, ◌+◌, ◌<◌, true, false, cond, ltb, List, length, Option, Some, None, bytes_eq, lt-ltb, le-ltb, refl, sym, ap, ◌∙◌, inl, inr, arith}
use Rattle.std.specs.List.{IsDistinct}
use Rattle.std.specs.Map.{lookup}
use Rattle.std.specs.BTreeMap.{is_at}
use Rattle.std.specs.Cmp.Lexicographic.{slice_cmp}
use Rattle.std.specs.Option.{option_and_then}
use Rattle.std.specs.Ordering.{nat_cmp}
use Rattle.std.proofs.lemmas.Bool.{cases_lt, cases_eq}
use Rattle.std.proofs.lemmas.Map.Text.{is_eq-slice_cmp}
use Rattle.std.proofs.lemmas.Option.{none-some, same_Some}
use Rattle.jl_versions.specs.declared.version.Version.{Version}
use Rattle.offer_terms.specs.Offered.{Id, Selected, version_in}
use Rattle.offer_terms.specs.Booked.{Packed, ids_of, number_of}
use Rattle.book_graph.specs.StandsFor.{id_of}
use Rattle.book_graph.specs.Chosen.{version_of, chosen_version, or_else, Puts}
use Rattle.book_graph.proofs.Ids.{id_case, id_itself, number_is, number_at}

-- an identifier is found by its bytes in either way
pub by_bytes : {X : Type 0} (u : Id) (es : List (Id × X)) → lookup (is_at (slice_cmp nat_cmp u)) es ≡ lookup (bytes_eq u) es
by_bytes u es = λ i. lookup (λ k. is_eq-slice_cmp u k i) es

pub puts_some : (u : Id) (v : Version) (old new : Selected) → ((t : Id) → lookup (is_at (slice_cmp nat_cmp t)) new ≡ cond (is_at (slice_cmp nat_cmp u) t) (Some v) (lookup (is_at (slice_cmp nat_cmp t)) old)) → Puts u (Some v) old new
puts_some u v old new updates t =
    sym (by_bytes t new) ∙ updates t ∙ (λ i. cond (is_eq-slice_cmp u t i) (Some v) (by_bytes t old i)) ∙ elim (id_case t u) [
      | inl same ↦ ap (λ b. cond b (Some v) (version_in old t)) (id_itself u t (sym same.0)) ∙ sym (ap (λ b. cond b (Some v) (version_in old t)) same.1)
      | inr other ↦ (elim (id_case u t) [
        | inl same ↦ absurd (other.0 (sym same.0))
        | inr back ↦ ap (λ b. cond b (Some v) (version_in old t)) back.1 ∙ sym (ap (λ b. cond b (Some v) (version_in old t)) other.1)
      ])
    ]

pub puts_none : (u : Id) (s : Selected) → Puts u None s s
puts_none u s t = elim (bytes_eq t u) as (λ b. version_in s t ≡ cond b (version_in s t) (version_in s t)) [ true ↦ refl | false ↦ refl ]

-- what is chosen of the packages below n
abbrev pub below : List Packed → List ℕ → ℕ → ℕ → Option Version
below book chosen n p = cond (ltb p n) (version_of book chosen p) None

abbrev pub chosen_below : List Packed → List ℕ → ℕ → Id → Option Version
chosen_below book chosen n u = option_and_then (below book chosen n) (number_of book u)

or_none : (o : Option Version) → or_else o None ≡ o
or_none None = refl
or_none (Some v) = refl

module _ (book : List Packed) (once : IsDistinct bytes_eq (ids_of book)) (chosen : List ℕ) where
  pub below_none : (u : Id) → None ≡ chosen_below book chosen 0 u
  below_none u = elim (number_of book u) as (λ o. None ≡ option_and_then (below book chosen 0) o) [
    | None ↦ refl
    | Some q ↦ sym (ap (λ b. cond b (version_of book chosen q) None) (le-ltb q 0 (omega arith)))
  ]

  module _ (n : ℕ) (inside : n < length book) (old new : Selected) (puts : Puts (id_of book n) (version_of book chosen n) old new) where
    apart : (u : Id) → (u ≡ id_of book n → ⊥) → version_in new u ≡ version_in old u
    apart u ne = puts u ∙ elim (id_case u (id_of book n)) [
      | inl same ↦ absurd (ne same.0)
      | inr other ↦ ap (λ b. cond b (or_else (version_of book chosen n) (version_in old u)) (version_in old u)) other.1
    ]

    more : (q : ℕ) → (q ≡ n → ⊥) → below book chosen n q ≡ below book chosen (n + 1) q
    more q ne = elim (cases_lt q n) [
      | inl l ↦ ap (λ b. cond b (version_of book chosen q) None) (lt-ltb q n l ∙ sym (lt-ltb q (n + 1) (omega (arith, l))))
      | inr l ↦ ap (λ b. cond b (version_of book chosen q) None) (le-ltb q n l ∙ sym (le-ltb q (n + 1) (omega (arith, l, ne))))
    ]

    here : (u : Id) → id_of book n ≡ u → version_in old u ≡ None → version_in new u ≡ version_of book chosen n
    here u named none =
        puts u ∙ ap (λ b. cond b (or_else (version_of book chosen n) (version_in old u)) (version_in old u)) (id_itself u (id_of book n) (sym named))
        ∙ ap (or_else (version_of book chosen n)) none ∙ or_none (version_of book chosen n)

    pub below_more : ((u : Id) → version_in old u ≡ chosen_below book chosen n u) → (u : Id) → version_in new u ≡ chosen_below book chosen (n + 1) u
    below_more is u = elim (number_of book u) as (λ o. number_of book u ≡ o → version_in new u ≡ option_and_then (below book chosen (n + 1)) o) [
      | None ↦ λ none. apart u (λ e. none-some n (sym none ∙ ap (number_of book) e ∙ number_at book once n inside)) ∙ is u ∙ ap (option_and_then (below book chosen n)) none
      | Some q ↦ λ at. elim (cases_eq q n) [
        | inl same ↦
            let named = ap (id_of book) (sym same) ∙ (number_is book u q (sym at)).1 in
            let none : version_in old u ≡ None = is u ∙ ap (option_and_then (below book chosen n)) at ∙ ap (λ b. cond b (version_of book chosen q) None) (le-ltb q n (omega (arith, same))) in
            here u named none ∙ ap (version_of book chosen) (sym same) ∙ sym (ap (λ b. cond b (version_of book chosen q) None) (lt-ltb q (n + 1) (omega (arith, same))))
        | inr ne ↦ apart u (λ e. ne (same_Some q n (sym at ∙ ap (number_of book) e ∙ number_at book once n inside))) ∙ is u ∙ ap (option_and_then (below book chosen n)) at ∙ more q ne
      ]
    ] refl

  pub below_all : (n : ℕ) (u : Id) → n ≡ length book → chosen_below book chosen n u ≡ chosen_version book chosen u
  below_all n u whole = elim (number_of book u) as (λ o. number_of book u ≡ o → option_and_then (below book chosen n) o ≡ option_and_then (version_of book chosen) o) [
    | None ↦ λ _. refl
    | Some q ↦ λ at. let inside = (number_is book u q (sym at)).0 in ap (λ b. cond b (version_of book chosen q) None) (lt-ltb q n (omega (arith, inside, whole)))
  ] refl
