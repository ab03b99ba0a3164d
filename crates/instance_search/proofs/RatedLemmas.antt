-- What holds while weights are set.
use Rattle.std.proofs.Common.{◌≡◌, ◌≢◌, ℕ, ◌+◌, ◌-◌, ◌<◌, Bool, true, false, not, ◌&&◌, cond, List, refl, sym, ◌∙◌, ap, arith, inl, inr, eqb, ltb}
use Rattle.std.proofs.lemmas.Bool.{cases_eq, and_from, eq-eqb, ne_eqb, lt-ltb}
use Rattle.version_graph.specs.Graph.{Graph, packages, states, last, is_barred, is_offered, is_root, is_state}
use Rattle.version_graph.specs.Part.{Part, package_of, state_of}
use Rattle.maxsum_messages.specs.Field.{field}
use Rattle.decimation_repair.specs.Levels.{Levels, zero_levels}
use Rattle.instance_search.specs.Rated.{rated, rated_in, AreRatedAt}

twice : (b : Bool) → not (not b) ≡ b
twice true = refl
twice false = refl

-- a root is a package whose last state isn't offered
pub root_told : (g : Graph) (p : ℕ) → p < packages g → 0 < states g p → not (is_offered g p (last g p)) ≡ is_root g p
unfolding is_offered
root_told g p known some =
    let b = is_barred g p (last g p) in
    ap (λ x. not (x && (ltb (last g p) (states g p) && not b))) (lt-ltb p (packages g) known)
    ∙ ap (λ x. not (x && not b)) (lt-ltb (last g p) (states g p) (omega (arith, some)))
    ∙ twice b
    ∙ sym (ap (λ x. x && b) (lt-ltb p (packages g) known))

and-none : (x y : Bool) → y ≡ false → (x && y) ≡ false
and-none true y e = e
and-none false y e = refl

-- one more state has its weight
pub rated_more : (g h : Graph) (b : Part) (old new : List (List Levels)) (p i : ℕ) (w : Levels) → AreRatedAt g h b old p i →
    ((q j : ℕ) → field zero_levels new q j ≡ cond (is_state q j p i) w (field zero_levels old q j)) → w ≡ rated_in g (package_of b p) (state_of b p i) → AreRatedAt g h b new p (i + 1)
rated_more g h b old new p i w r set e = record {
  at = λ j low known. elim (cases_eq j i) [
    | inl same ↦
        set p j
        ∙ ap (λ x. cond x w (field zero_levels old p j)) (and_from (eqb p p) (eqb j i) (eq-eqb p p refl) (eq-eqb j i same))
        ∙ e
        ∙ ap (λ k. rated_in g (package_of b p) (state_of b p k)) (sym same)
    | inr apart ↦
        set p j
        ∙ ap (λ x. cond x w (field zero_levels old p j)) (and-none (eqb p p) (eqb j i) (ne_eqb j i apart))
        ∙ r.at j (omega (arith, low, apart)) known
  ];
}

pub other_left : (old new : List (List Levels)) (p i : ℕ) (w : Levels) → ((q j : ℕ) → field zero_levels new q j ≡ cond (is_state q j p i) w (field zero_levels old q j)) →
    (q j : ℕ) → q ≢ p → field zero_levels new q j ≡ field zero_levels old q j
other_left old new p i w set q j apart = set q j ∙ ap (λ x. cond (x && eqb j i) w (field zero_levels old q j)) (ne_eqb q p apart)

-- the weight is that of the state by its number before pruning
pub rated_here : (g : Graph) (b : Part) (p i home size state : ℕ) (w : Levels) (offered : Bool) → home ≡ package_of b p → home < packages g → size ≡ states g home → 0 < size →
    state ≡ state_of b p i → offered ≡ is_offered g home (size - 1) → w ≡ rated (not offered) (size - 1) state → w ≡ rated_in g (package_of b p) (state_of b p i)
rated_here g b p i home size state w offered at known wide some is tells e =
    e
    ∙ ap (λ x. rated (not x) (size - 1) state) tells
    ∙ ap (λ n. rated (not (is_offered g home (n - 1))) (n - 1) state) wide
    ∙ ap (λ x. rated x (last g home) state) (root_told g home known (omega (arith, some, wide)))
    ∙ ap (rated_in g home) is
    ∙ ap (λ k. rated_in g k (state_of b p i)) at

-- the weights of another package are as before
pub others_rated : (g h : Graph) (b : Part) (old new : List (List Levels)) (p q n : ℕ) → ((r j : ℕ) → r ≢ p → field zero_levels new r j ≡ field zero_levels old r j) → q ≢ p →
    AreRatedAt g h b old q n → AreRatedAt g h b new q n
others_rated g h b old new p q n others apart r = record { at = λ i low known. others q i apart ∙ r.at i low known }
