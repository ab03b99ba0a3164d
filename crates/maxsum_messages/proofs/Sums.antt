-- Sums of messages: all of them are all but one and that one, and how great a sum can be.
use Rattle.std.proofs.Common.{◌≡◌, ℕ, zero, suc, ◌+◌, ◌*◌, ◌^◌, ◌<◌, ◌≤◌, Bool, true, false, cond, List, [], ◌∷◌, length, get_or, refl, sym, ◌∙◌, subst, ap, arith, eqb, ◌-◌, ◌⊎◌, inl, inr}
use Rattle.std.proofs.lemmas.Bool.{eq-eqb, ne_eqb, cases_lt}
use Rattle.std.specs.List.Sorted.{IsStrictlyIncreasing}
use Rattle.maxsum_messages.specs.Post.{heard, heard_but}

-- ---- rising lists

-- the next place, as a successor
next : (k : ℕ) → k + 1 ≡ suc k
next k = omega arith

rising-step : (xs : List ℕ) → IsStrictlyIncreasing xs → (k : ℕ) → suc k < length xs → get_or xs k 0 < get_or xs (suc k) 0
rising-step xs up k h = subst (λ n. get_or xs k 0 < get_or xs n 0) (next k) (up k (omega (arith, h)))

pub rising-tail : (x : ℕ) (xs : List ℕ) → IsStrictlyIncreasing (x ∷ xs) → IsStrictlyIncreasing xs
rising-tail x xs up = λ k h. subst (λ n. get_or xs k 0 < get_or xs n 0) (sym (next k)) (rising-step (x ∷ xs) up (suc k) (omega (arith, h)))

pub rising-head : (x : ℕ) (xs : List ℕ) → IsStrictlyIncreasing (x ∷ xs) → (k : ℕ) → k < length xs → x < get_or xs k 0
rising-head x xs up zero h = rising-step (x ∷ xs) up 0 (omega (arith, h))
rising-head x xs up (suc k) h =
    let before = rising-head x xs up k (omega (arith, h)) in
    let step = rising-step (x ∷ xs) up (suc k) (omega (arith, h)) in
    omega (arith, before, step)

-- n numbers rise by n at least
pub rising-above : (xs : List ℕ) → IsStrictlyIncreasing xs → (k : ℕ) → k < length xs → k ≤ get_or xs k 0
rising-above xs up zero h = omega arith
rising-above xs up (suc k) h =
    let before = rising-above xs up k (omega (arith, h)) in
    let step = rising-step xs up k h in
    omega (arith, before, step)

rising-by : (xs : List ℕ) → IsStrictlyIncreasing xs → (k d : ℕ) → k + d < length xs → get_or xs k 0 + d ≤ get_or xs (k + d) 0
rising-by xs up k zero h = let same : k + 0 ≡ k = omega arith in omega (arith, ap (λ n. get_or xs n 0) same)
rising-by xs up k (suc d) h =
    let before = rising-by xs up k d (omega (arith, h)) in
    let step = rising-step xs up (k + d) (omega (arith, h)) in
    let same : k + suc d ≡ suc (k + d) = omega arith in
    omega (arith, before, step, ap (λ n. get_or xs n 0) same)

pub rising-ordered : (xs : List ℕ) → IsStrictlyIncreasing xs → (i j : ℕ) → i ≤ j → j < length xs → get_or xs i 0 ≤ get_or xs j 0
rising-ordered xs up i j l h =
    let same : i + (j - i) ≡ j = omega arith in
    let far = rising-by xs up i (j - i) (omega (arith, h, same)) in
    omega (arith, far, ap (λ n. get_or xs n 0) same)

-- rising numbers below n that lack one of them are fewer than n
pub rising-few : (xs : List ℕ) (n q : ℕ) → IsStrictlyIncreasing xs → ((k : ℕ) → k < length xs → get_or xs k 0 < n) → q < n → ((k : ℕ) → k < length xs → get_or xs k 0 ≡ q → ⊥) → length xs < n
rising-few xs n q up below known lacks = by_case (cases_lt (length xs) n)
  where
    by_case : (length xs < n) ⊎ (n ≤ length xs) → length xs < n
    by_case (inl h) = h
    by_case (inr h) =
        let there : q < length xs = omega arith in
        let low = rising-above xs up q there in
        let rest : q + (length xs - 1 - q) < length xs = omega arith in
        let high = rising-by xs up q (length xs - 1 - q) rest in
        let last = below (q + (length xs - 1 - q)) rest in
        let here : get_or xs q 0 ≡ q = omega (arith, low, high, last) in
        absurd (lacks q there here)

-- ---- all but one, and that one

module _ {W : Type 0} (none : W) (plus : W → W → W) (i : ℕ) where
  pub heard-silent : (keeps : plus none none ≡ none) (rows : List (List W)) → ((k : ℕ) → get_or (get_or rows k []) i none ≡ none) → heard none plus i rows ≡ none
  heard-silent keeps [] zeros = refl
  heard-silent keeps (row ∷ rows) zeros = ap (λ a. plus a (heard none plus i rows)) (zeros 0) ∙ ap (plus none) (heard-silent keeps rows (λ k. zeros (suc k))) ∙ keeps

  -- where the sender isn't among them, all count
  pub heard-absent : (q : ℕ) (rs : List ℕ) (rows : List (List W)) → length rows ≡ length rs → ((k : ℕ) → k < length rs → get_or rs k 0 ≡ q → ⊥) → heard_but none plus q i rs rows ≡ heard none plus i rows
  heard-absent q [] [] e lacks = refl
  heard-absent q [] (row ∷ rows) e lacks = absurd (omega (arith, e))
  heard-absent q (r ∷ rs) [] e lacks = refl
  heard-absent q (r ∷ rs) (row ∷ rows) e lacks =
      ap (λ b. cond b (heard_but none plus q i rs rows) (plus (get_or row i none) (heard_but none plus q i rs rows))) (ne_eqb r q (lacks 0 (omega arith)))
      ∙ ap (plus (get_or row i none)) (heard-absent q rs rows (omega (arith, e)) (λ k h. lacks (suc k) (omega (arith, h))))

  pub heard-own : ((a b : W) → plus a b ≡ plus b a) → ((a b c : W) → plus (plus a b) c ≡ plus a (plus b c)) →
      (q : ℕ) (rs : List ℕ) (rows : List (List W)) (k : ℕ) → IsStrictlyIncreasing rs → length rows ≡ length rs → k < length rs → get_or rs k 0 ≡ q →
      heard none plus i rows ≡ plus (heard_but none plus q i rs rows) (get_or (get_or rows k []) i none)
  heard-own comm assoc q [] rows k up e h at = absurd (omega (arith, h))
  heard-own comm assoc q (r ∷ rs) [] k up e h at = absurd (omega (arith, e))
  heard-own comm assoc q (r ∷ rs) (row ∷ rows) zero up e h at =
      let later : (k : ℕ) → k < length rs → get_or rs k 0 ≡ q → ⊥ = λ k l same. (let above = rising-head r rs up k l in omega (arith, above, same, at)) in
      comm (get_or row i none) (heard none plus i rows)
      ∙ ap (λ a. plus a (get_or row i none)) (sym (heard-absent q rs rows (omega (arith, e)) later))
      ∙ ap (λ b. plus (cond b (heard_but none plus q i rs rows) (plus (get_or row i none) (heard_but none plus q i rs rows))) (get_or row i none)) (sym (eq-eqb r q at))
  heard-own comm assoc q (r ∷ rs) (row ∷ rows) (suc k) up e h at =
      let above = rising-head r rs up k (omega (arith, h)) in
      let apart : r ≡ q → ⊥ = λ same. omega (arith, above, same, at) in
      let own = get_or (get_or rows k []) i none in
      ap (plus (get_or row i none)) (heard-own comm assoc q rs rows k (rising-tail r rs up) (omega (arith, e)) (omega (arith, h)) at)
      ∙ sym (assoc (get_or row i none) (heard_but none plus q i rs rows) own)
      ∙ ap (λ b. plus (cond b (heard_but none plus q i rs rows) (plus (get_or row i none) (heard_but none plus q i rs rows))) own) (sym (ne_eqb r q apart))

  -- ---- how great a sum can be

  module _ (Within : ℕ → W → Type 0) (zero_in : Within 0 none) (sum_in : (m n : ℕ) (a b : W) → Within m a → Within n b → Within (m + n) (plus a b)) (more : (m n : ℕ) (a : W) → Within m a → m ≤ n → Within n a) where
    one-more : (n : ℕ) (a b : W) → Within (2 ^ 40) a → Within (n * 2 ^ 40) b → Within ((n + 1) * 2 ^ 40) (plus a b)
    one-more n a b h k = more (2 ^ 40 + n * 2 ^ 40) ((n + 1) * 2 ^ 40) (plus a b) (sum_in (2 ^ 40) (n * 2 ^ 40) a b h k) (omega arith)

    pub heard-within : (rows : List (List W)) → ((k : ℕ) → Within (2 ^ 40) (get_or (get_or rows k []) i none)) → Within (length rows * 2 ^ 40) (heard none plus i rows)
    heard-within [] small = more 0 (length {A = List W} [] * 2 ^ 40) none zero_in (omega arith)
    heard-within (row ∷ rows) small =
        let next = one-more (length rows) (get_or row i none) (heard none plus i rows) (small 0) (heard-within rows (λ k. small (suc k))) in
        more _ (length (row ∷ rows) * 2 ^ 40) _ next (omega arith)

    pub heard_but-within : (q : ℕ) (rs : List ℕ) (rows : List (List W)) → ((k : ℕ) → Within (2 ^ 40) (get_or (get_or rows k []) i none)) → Within (length rows * 2 ^ 40) (heard_but none plus q i rs rows)
    heard_but-within q [] rows small = more 0 (length rows * 2 ^ 40) none zero_in (omega arith)
    heard_but-within q (r ∷ rs) [] small = more 0 (length {A = List W} [] * 2 ^ 40) none zero_in (omega arith)
    heard_but-within q (r ∷ rs) (row ∷ rows) small = by_sender (eqb r q) (heard_but-within q rs rows (λ k. small (suc k)))
      where
        by_sender : (b : Bool) → Within (length rows * 2 ^ 40) (heard_but none plus q i rs rows) →
            Within (length (row ∷ rows) * 2 ^ 40) (cond b (heard_but none plus q i rs rows) (plus (get_or row i none) (heard_but none plus q i rs rows)))
        by_sender true rest = more (length rows * 2 ^ 40) (length (row ∷ rows) * 2 ^ 40) _ rest (omega arith)
        by_sender false rest = more _ (length (row ∷ rows) * 2 ^ 40) _ (one-more (length rows) (get_or row i none) (heard_but none plus q i rs rows) (small 0) rest) (omega arith)
