-- What the operations on vectors of eight words hold at each lane.
use Rattle.std.proofs.Common.{◌≡◌, ◌≢◌, ℕ, zero, suc, ◌+◌, ◌<◌, ◌-◌, Bool, true, false, not, MatchBool, List, [], ◌∷◌, length, get_or, map, refl, sym, ◌∙◌, subst, arith, eqb}
use Rattle.std.proofs.lemmas.Bool.{ne_eqb}
use Rattle.std.specs.Simd.Lanes.{zip2, mask_l}
use Rattle.std.proofs.lemmas.Simd.{length-zip2, get_or-zip2}
use Rattle.bit_rows.specs.Stored.{SomeFrom, NoneFrom}
use Rattle.bit_rows.specs.Lanes.{HasLanes}

-- an operator on two vectors
pub lanes-zip2 : (f : ℕ → ℕ → ℕ) (a b : List ℕ) (x y : ℕ → ℕ) → HasLanes a x → HasLanes b y → HasLanes (zip2 f a b) (λ k. f (x k) (y k))
lanes-zip2 f a b x y p q = record {
  long = length-zip2 f a b (p.long ∙ sym q.long) ∙ p.long;
  each = λ k l. get_or-zip2 f a b k 0 0 0 (omega (arith, p.long, l)) (omega (arith, q.long, l)) ∙ (λ i. f (p.each k l i) (q.each k l i));
}

-- some lane isn't 0 where the mask isn't
mask_some : (xs : List ℕ) → mask_l (map (λ x. not (eqb x 0)) xs) ≢ 0 → (k : ℕ) × (k < length xs) × (get_or xs k 0 ≢ 0)
mask_some [] h = absurd (h refl)
mask_some (zero ∷ xs) h = let r = mask_some xs (λ e. h (omega (arith, e))) in (suc r.0, omega (arith, r.1), r.2)
mask_some (suc x ∷ xs) h = (0, omega arith, λ e. omega (arith, e))

mask_none : (xs : List ℕ) → mask_l (map (λ x. not (eqb x 0)) xs) ≡ 0 → (k : ℕ) → k < length xs → get_or xs k 0 ≡ 0
mask_none [] e k l = absurd (omega (arith, l))
mask_none (zero ∷ xs) e zero l = refl
mask_none (zero ∷ xs) e (suc k) l = mask_none xs (omega (arith, e)) k (omega (arith, l))
mask_none (suc x ∷ xs) e k l = let off = ne_eqb (suc x) 0 (λ s. omega (arith, s)) in absurd (omega (arith, rw off at e))

pub any_told : (xs : List ℕ) (n : ℕ) → length xs ≡ 8 → n ≡ mask_l (map (λ x. not (eqb x 0)) xs) → MatchBool (not (eqb n 0)) (SomeFrom (λ k. get_or xs k 0) 0 8) (NoneFrom (λ k. get_or xs k 0) 0 8)
any_told xs zero long e = λ k from to. mask_none xs (sym e) k (omega (arith, long, to))
any_told xs (suc n) long e =
    let r = mask_some xs (λ z. omega (arith, z, e)) in
    let found : SomeFrom (λ k. get_or xs k 0) 0 8 = record { at = r.0; low = omega arith; high = omega (arith, r.1, long); some = r.2 } in
    rw (ne_eqb (suc n) 0 (λ s. omega (arith, s))) found

-- what is told of the lanes is told of the words
pub lanes_told : (v : List ℕ) (f : ℕ → ℕ) (i : ℕ) (b : Bool) → HasLanes v (λ k. f (i + k)) → MatchBool b (SomeFrom (λ k. get_or v k 0) 0 8) (NoneFrom (λ k. get_or v k 0) 0 8) →
    MatchBool b (SomeFrom f i (i + 8)) (NoneFrom f i (i + 8))
lanes_told v f i true h s = record {
  at = i + s.at;
  low = omega arith;
  high = omega (arith, s.high);
  some = λ e. s.some (h.each s.at s.high ∙ e);
}
lanes_told v f i false h none = λ k from to.
    let at : i + (k - i) ≡ k = omega (arith, from) in
    subst (λ n. f n ≡ 0) at (sym (h.each (k - i) (omega (arith, from, to))) ∙ none (k - i) (omega arith) (omega (arith, from, to)))
