-- What follows from messages that say the same: the same sums, the same rounds and the same beliefs.
use Rattle.std.proofs.Common.{◌≡◌, ℕ, zero, suc, ◌<◌, Bool, true, false, cond, List, [], ◌∷◌, length, get_or, refl, sym, ◌∙◌, subst, ap, arith, eqb, inl, inr}
use Rattle.std.proofs.lemmas.Bool.{cases_lt}
use Rattle.std.proofs.lemmas.List.{get_or_past}
use Rattle.std.specs.List.{list_any, range_with_len}
use Rattle.std.specs.declared.cmp.Ordering.{Ordering}
use Rattle.std.specs.declared.cmp.Ordering.TheVariants.{Equal}
use Rattle.std.specs.Cmp.{IsTotalOrder}
use Rattle.version_graph.specs.Graph.{Graph, packages, states, is_forbidden, are_neighbours}
use Rattle.version_graph.specs.Family.{Family}
use Rattle.maxsum_messages.specs.Field.{field}
use Rattle.maxsum_messages.specs.Post.{Post, senders_of, said_to, message, heard, heard_but}
use Rattle.maxsum_messages.specs.Round.{weight_for, IsMessage, IsRound, AreRounds}
use Rattle.maxsum_messages.specs.Laws.{SaySame, SilenceIsOne, RoundsAreOne, BeliefIsOne}
use Rattle.maxsum_messages.proofs.Rows.{nothing}
use Rattle.maxsum_messages.proofs.One.{message-one}
use Rattle.maxsum_messages.proofs.OneList.{list-one}

-- ---- neighbours are packages that there are

any-never : {X : Type 0} (xs : List X) → list_any (λ (x : X). false) xs ≡ false
any-never [] = refl
any-never (x ∷ xs) = any-never xs

neighbour-known : (g : Graph) (p q : ℕ) → are_neighbours g p q ≡ true → q < packages g
unfolding are_neighbours
neighbour-known g p q e =
    elim (cases_lt q (packages g)) [
      | inl h ↦ h
      | inr h ↦
          let count : states g q ≡ 0 = get_or_past g.sizes q 0 h in
          let never : are_neighbours g p q ≡ false = ap (λ n. list_any (λ i. list_any (λ j. is_forbidden g p i q j) (range_with_len 0 n)) (range_with_len 0 (states g p))) count ∙ any-never (range_with_len 0 (states g p)) in
          absurd (cc)
    ]

-- ---- sums of the same messages

module _ {W : Type 0} (none : W) (plus : W → W → W) (i : ℕ) where
  heard-same : (xs ys : List (List W)) → length xs ≡ length ys → ((k : ℕ) → k < length xs → get_or (get_or xs k []) i none ≡ get_or (get_or ys k []) i none) → heard none plus i xs ≡ heard none plus i ys
  heard-same [] [] e h = refl
  heard-same [] (y ∷ ys) e h = absurd (omega (arith, e))
  heard-same (x ∷ xs) [] e h = absurd (omega (arith, e))
  heard-same (x ∷ xs) (y ∷ ys) e h =
      ap (λ a. plus a (heard none plus i xs)) (h 0 (omega arith))
      ∙ ap (plus (get_or y i none)) (heard-same xs ys (omega (arith, e)) (λ k l. h (suc k) (omega (arith, l))))

  module _ (keeps : (a : W) → plus none a ≡ a) (q : ℕ) where
    but-none : (rs : List ℕ) (rows : List (List W)) → ((k : ℕ) → k < length rs → get_or (get_or rows k []) i none ≡ none) → heard_but none plus q i rs rows ≡ none
    but-none [] rows h = refl
    but-none (r ∷ rs) [] h = refl
    but-none (r ∷ rs) (row ∷ rows) h = by_sender (eqb r q) (but-none rs rows (λ k l. h (suc k) (omega (arith, l))))
      where
        by_sender : (b : Bool) → heard_but none plus q i rs rows ≡ none → cond b (heard_but none plus q i rs rows) (plus (get_or row i none) (heard_but none plus q i rs rows)) ≡ none
        by_sender true rest = rest
        by_sender false rest = ap (λ a. plus a (heard_but none plus q i rs rows)) (h 0 (omega arith)) ∙ keeps (heard_but none plus q i rs rows) ∙ rest

    -- a message that isn't there is zero, so the rows that are there need not be as many
    but-same : (rs : List ℕ) (xs ys : List (List W)) → ((k : ℕ) → k < length rs → get_or (get_or xs k []) i none ≡ get_or (get_or ys k []) i none) →
        heard_but none plus q i rs xs ≡ heard_but none plus q i rs ys
    but-same [] xs ys h = refl
    but-same (r ∷ rs) [] ys h = sym (but-none (r ∷ rs) ys (λ k l. sym (h k l) ∙ nothing none k i))
    but-same (r ∷ rs) (x ∷ xs) [] h = but-none (r ∷ rs) (x ∷ xs) (λ k l. h k l ∙ nothing none k i)
    but-same (r ∷ rs) (x ∷ xs) (y ∷ ys) h =
        ap (λ w. cond (eqb r q) w (plus (get_or x i none) w)) (but-same rs xs ys (λ k l. h (suc k) (omega (arith, l))))
        ∙ ap (λ w. cond (eqb r q) (heard_but none plus q i rs ys) (plus w (heard_but none plus q i rs ys))) (h 0 (omega arith))

-- ---- beliefs

pub silence-one : {W : Type 0} (none : W) → SilenceIsOne none
silence-one none = λ g m n a b s t. record {
  senders = λ q h. list-one (are_neighbours g q) (senders_of m q) (senders_of n q) (a.listed q h) (b.listed q h);
  each = λ q k j h l. s.zero q k j ∙ sym (t.zero q k j);
}

pub belief-one : {W : Type 0} (none : W) (plus : W → W → W) → BeliefIsOne none plus
belief-one none plus = λ g f m n a b same p i h.
    ap (plus (field none f p i))
    (heard-same none plus i (said_to m p) (said_to n p) (a.answered p h ∙ ap length (same.senders p h) ∙ sym (b.answered p h))
    (λ k l. same.each p k i h (omega (arith, l, a.answered p h))))

-- ---- rounds

module _ {W : Type 0} (cmp : W → W → Ordering) (total : IsTotalOrder cmp) (tied_same : (a b : W) → cmp a b ≡ Equal → a ≡ b) (none : W) (plus minus : W → W → W) (clip : W → W)
    (keeps : (a : W) → plus none a ≡ a) (g : Graph) (f : List (List W)) (d : Family) where
  -- the neighbours of each package are packages that there are
  abbrev AreKnown : Post W → Type 0
  AreKnown m = (q k : ℕ) → q < packages g → k < length (senders_of m q) → get_or (senders_of m q) k 0 < packages g

  weight-same : (m n : Post W) → SaySame none g m n → (q p : ℕ) → p < packages g → (i : ℕ) → weight_for none plus f m q p i ≡ weight_for none plus f n q p i
  weight-same m n same q p h i =
      ap (plus (field none f p i))
      (ap (λ rs. heard_but none plus q i rs (said_to m p)) (same.senders p h)
      ∙ but-same none plus i keeps q (senders_of n p) (said_to m p) (said_to n p) (λ k l. same.each p k i h (subst (λ (rs : List ℕ). k < length rs) (sym (same.senders p h)) l)))

  step-one : (m n one other : Post W) → AreKnown m → SaySame none g m n → IsRound none plus minus clip cmp g f d m one → IsRound none plus minus clip cmp g f d n other → SaySame none g one other
  step-one m n one other known same a b = record {
    senders = λ q h. ap (λ (xs : List (List ℕ)). get_or xs q []) a.same.senders ∙ same.senders q h ∙ sym (ap (λ (xs : List (List ℕ)). get_or xs q []) b.same.senders);
    each = λ q k j h l.
        let inside : k < length (senders_of m q) = subst (λ (xs : List (List ℕ)). k < length (get_or xs q [])) a.same.senders l in
        let beyond : k < length (senders_of n q) = subst (λ (rs : List ℕ). k < length rs) (same.senders q h) inside in
        let p = get_or (senders_of m q) k 0 in
        let sender : get_or (senders_of n q) k 0 ≡ p = ap (λ (rs : List ℕ). get_or rs k 0) (sym (same.senders q h)) in
        let told = subst (λ r. IsMessage none plus minus clip cmp g d (weight_for none plus f n q r) r q (message none other q k)) sender (b.each q k h beyond) in
        message-one cmp total tied_same none plus minus clip g d (weight_for none plus f m q p) (weight_for none plus f n q p) p q (message none one q k) (message none other q k)
        (weight-same m n same q p (known q k h inside)) (a.each q k h inside) told j;
  }

  rounds-senders : (k : ℕ) (before after : Post W) → AreRounds none plus minus clip cmp k g f d before after → after.senders ≡ before.senders
  rounds-senders zero before after a = ap (λ (m : Post W). m.senders) a
  rounds-senders (suc k) before after a = a.2.same.senders ∙ rounds-senders k before a.0 a.1

  pub several-one : (k : ℕ) (before likewise one other : Post W) → AreKnown before → SaySame none g before likewise →
      AreRounds none plus minus clip cmp k g f d before one → AreRounds none plus minus clip cmp k g f d likewise other → SaySame none g one other
  several-one zero before likewise one other known same a b = subst (λ (m : Post W). SaySame none g m other) (sym a) (subst (λ (m : Post W). SaySame none g before m) (sym b) same)
  several-one (suc k) before likewise one other known same a b =
      step-one a.0 b.0 one other
      (subst (λ (xs : List (List ℕ)). (q l : ℕ) → q < packages g → l < length (get_or xs q []) → get_or (get_or xs q []) l 0 < packages g) (sym (rounds-senders k before a.0 a.1)) known)
      (several-one k before likewise a.0 b.0 known same a.1 b.1) a.2 b.2

pub rounds-one : {W : Type 0} (cmp : W → W → Ordering) → IsTotalOrder cmp → ((a b : W) → cmp a b ≡ Equal → a ≡ b) → (none : W) (plus minus : W → W → W) (clip : W → W) → ((a : W) → plus none a ≡ a) →
    RoundsAreOne none plus minus clip cmp
rounds-one cmp total tied_same none plus minus clip keeps = λ g f d k before likewise one other made.
    several-one cmp total tied_same none plus minus clip keeps g f d k before likewise one other
    (λ q l h inside. neighbour-known g q (get_or (senders_of before q) l 0) ((made.listed q h).sound l inside))
