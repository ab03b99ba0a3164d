-- The instance in which all this is forbidden stands for the book and the demand.
use Rattle.std.proofs.Common.{◌≡◌, ℕ, ◌<◌, ◌≤◌, true, true≢false, ◌⊎◌, ◌↔◌, List, length, get_or, sum, Result, Ok, Err, IfOk, IfErr, OnOk, refl, sym, ap, ◌∙◌, inl, inr}
use Rattle.std.proofs.lemmas.List.{length-map}
use Rattle.pkg_world.specs.declared.cause.LimitKind.TheVariants.{Packages, States, Bits, Cells, TreeDepth, TreeFiles}
use Rattle.offer_terms.specs.Booked.{Packed, package_at}
use Rattle.offer_terms.specs.Demanded.{Wanted}
use Rattle.version_graph.specs.Graph.{Graph, is_barred, is_forbidden, IsOpen, SameGraph}
use Rattle.version_graph.specs.Answers.{SumsPass}
use Rattle.version_graph.specs.declared.fault.GraphFault.{GraphFault}
use Rattle.version_graph.specs.declared.fault.GraphFault.TheVariants.{Limit, Memory}
use Rattle.book_graph.specs.StandsFor.{id_of, offer_in, sizes_of, state_count, Shuts, Excludes, StandsFor}
use Rattle.book_graph.specs.Limits.{HasFew, IsPast}
use Rattle.book_graph.specs.Building.{IsSized, Bars, Forbids, IsShut, AreExcluded}
use Rattle.book_graph.proofs.Counts.{count_at, few_offers}

pub sized_from : (book : List Packed) (g : Graph) → g.sizes ≡ sizes_of book → sum (sizes_of book) ≤ 65536 → IsSized book g
sized_from book g is small = record {
  each = ap length is ∙ length-map book state_count;
  wide = λ p inside. ap (λ xs. get_or xs p 0) is ∙ count_at book p inside;
  few = few_offers book small;
}

module _ (book : List Packed) (w : Wanted) (a b c d : Graph) (sized : IsSized book a) (open_ : IsOpen a) (bars : Bars a b (IsShut book w)) (forbids : Forbids b c (AreExcluded book)) (same : SameGraph c d) where
  sizes : d.sizes ≡ a.sizes
  sizes = same.sizes ∙ forbids.sizes ∙ bars.sizes

  barred : (p i : ℕ) → p < length book → i < state_count (package_at book p) → (is_barred d p i ≡ true) ↔ Shuts w (id_of book p) (offer_in book p i)
  barred p i known state = (
    λ is. elim (bars.adds.sound (p, i) (sym (same.barred p i ∙ forbids.alike p i) ∙ is)) [
      | inl before ↦ absurd (true≢false (sym before ∙ open_.barred p i))
      | inr shut ↦ shut.shut
    ],
    λ shuts. same.barred p i ∙ forbids.alike p i ∙ bars.adds.whole (p, i) (record { known = known; state = state; shut = shuts }),
  )

  forbidden : (p i q j : ℕ) → p < length book → i < state_count (package_at book p) → q < length book → j < state_count (package_at book q) → (p ≡ q → ⊥) →
      (is_forbidden d p i q j ≡ true) ↔ (Excludes (offer_in book p i) (id_of book q) (offer_in book q j) ⊎ Excludes (offer_in book q j) (id_of book p) (offer_in book p i))
  forbidden p i q j first first_state second second_state ne = (
    λ is. elim (forbids.adds.sound (p, i, q, j) (sym (same.forbidden p i q j) ∙ is)) [
      | inl before ↦ absurd (true≢false (sym before ∙ bars.alike p i q j ∙ open_.forbidden p i q j))
      | inr e ↦ elim e [ inl x ↦ inl x.other.excluded | inr x ↦ inr x.other.excluded ]
    ],
    λ e. same.forbidden p i q j ∙ forbids.adds.whole (p, i, q, j) (elim e [
      | inl x ↦ inl (record { first = first; apart = ne; other = record { known = second; state = second_state; excluded = x } })
      | inr x ↦ inr (record { first = second; apart = λ e. ne (sym e); other = record { known = first; state = first_state; excluded = x } })
    ]),
  )

  pub stands_from : StandsFor book w d
  stands_from = record {
    each = ap length sizes ∙ sized.each;
    wide = λ p inside. ap (λ xs. get_or xs p 0) sizes ∙ sized.wide p inside;
    barred = barred;
    forbidden = forbidden;
  }

pub same_graph : (g : Graph) → SameGraph g g
same_graph g = record { sizes = refl; barred = λ p i. refl; forbidden = λ p i q j. refl }

pub past_sums : (book : List Packed) (w : Wanted) (g : Graph) (fault : GraphFault) → HasFew book → StandsFor book w g → SumsPass g fault → IsPast book w fault
past_sums book w g Memory few stands past = tt
past_sums book w g (Limit Packages n) few stands past = absurd past
past_sums book w g (Limit States n) few stands past = absurd past
past_sums book w g (Limit Bits n) few stands past = (few, record { graph = g; stands = stands; says = past })
past_sums book w g (Limit Cells n) few stands past = (few, record { graph = g; stands = stands; says = past })
past_sums book w g (Limit TreeDepth n) few stands past = absurd past
past_sums book w g (Limit TreeFiles n) few stands past = absurd past

-- ---- by the answer

pub if_ok : {T E : Type 0} (r : Result T E) (P Q : T → Type 0) → ((x : T) → P x → Q x) → IfOk r P → IfOk r Q
if_ok (Ok x) P Q f is = f x is
if_ok (Err e) P Q f is = tt

pub on_ok : {T E : Type 0} (r : Result T E) (P Q : Type 0) → (P → Q) → OnOk r P → OnOk r Q
on_ok (Ok x) P Q f is = f is
on_ok (Err e) P Q f is = tt

pub if_err : {T E : Type 0} (r : Result T E) (P Q : E → Type 0) → ((e : E) → P e → Q e) → IfErr r P → IfErr r Q
if_err (Ok x) P Q f is = tt
if_err (Err e) P Q f is = f e is
