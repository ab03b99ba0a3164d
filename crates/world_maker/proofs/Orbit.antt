-- The states one after another.
use Rattle.std.proofs.Common.{◌≡◌, ℕ, zero, suc, ◌+◌, ◌*◌, refl, ap, ◌∙◌, arith}
use Rattle.world_maker.specs.Draws.{stepped, drawn, state}
use Rattle.world_maker.specs.Drawn.{asked, ranged, needs_at, starts_from}
use Rattle.std.proofs.Common.{length, [], ◌∷◌, ◌++◌}
use Rattle.std.proofs.lemmas.List.FromFn.{map-range_with_len_more}

pub state_none : (x : ℕ) → state x 0 ≡ x
unfolding state
state_none x = refl

pub state_more : (x t : ℕ) → state x (t + 1) ≡ stepped (state x t)
unfolding state
state_more x t = let e : t + 1 ≡ suc t = omega arith in ap (state x) e

pub state_plus : (x a b : ℕ) → state (state x a) b ≡ state x (a + b)
unfolding state
state_plus x a zero = let e : a ≡ a + 0 = omega arith in ap (state x) e
state_plus x a (suc b) = let e : suc (a + b) ≡ a + suc b = omega arith in ap stepped (state_plus x a b) ∙ ap (state x) e

pub state_two : (x t : ℕ) → state x (2 * (t + 1)) ≡ stepped (stepped (state x (2 * t)))
state_two x t =
    let twice : 2 * (t + 1) ≡ (2 * t + 1) + 1 = omega arith in
    ap (state x) twice ∙ state_more x (2 * t + 1) ∙ ap stepped (state_more x (2 * t))

pub asked_none : (x : ℕ) → asked x 0 ≡ 0
unfolding asked
asked_none x = refl

pub asked_more : (x k : ℕ) → asked x (k + 1) ≡ asked x k + (1 + drawn (state x (asked x k)) 4)
unfolding asked
asked_more x k = let e : k + 1 ≡ suc k = omega arith in ap (asked x) e

pub ranged_none : (x count : ℕ) → ranged x count 0 ≡ 0
unfolding ranged
ranged_none x count = refl

pub ranged_more : (x count k : ℕ) → ranged x count (k + 1) ≡ ranged x count k + 16 * length (needs_at x count k)
unfolding ranged
ranged_more x count k = let e : k + 1 ≡ suc k = omega arith in ap (ranged x count) e

pub starts_more : (x k : ℕ) → starts_from x (k + 1) ≡ starts_from x k ++ drawn (state x k) 8 ∷ []
starts_more x k = map-range_with_len_more (λ i. drawn (state x i) 8) 0 k k (omega arith)
