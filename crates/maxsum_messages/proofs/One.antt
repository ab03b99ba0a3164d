-- Where a definition has one result: the greatest value, a message, a round, a lead and the package that is chosen.
use Rattle.std.proofs.Common.{◌≡◌, ◌≢◌, ℕ, ◌<◌, Bool, true, false, ◌&&◌, not, [], length, get_or, refl, sym, ◌∙◌, subst, ap, arith, ◌⊎◌, inl, inr}
use Rattle.std.proofs.lemmas.Bool.{cases_lt, cases_eq}
use Rattle.std.specs.Ordering.{is_gt, ordering_reverse}
use Rattle.std.specs.declared.cmp.Ordering.{Ordering}
use Rattle.std.specs.declared.cmp.Ordering.TheVariants.{Less, Equal, Greater}
use Rattle.std.specs.Cmp.{IsTotalOrder}
use Rattle.version_graph.specs.Graph.{Graph, is_forbidden}
use Rattle.version_graph.specs.Family.{Family, IsLargestStable}
use Rattle.maxsum_messages.specs.Greatest.{IsGreatest}
use Rattle.maxsum_messages.specs.Post.{senders_of, message}
use Rattle.maxsum_messages.specs.Round.{weight_for, IsMessage}
use Rattle.maxsum_messages.specs.Choice.{IsLead, IsChosen}
use Rattle.maxsum_messages.specs.Laws.{ClosureIsStable, IsFree, HasNothingToTell, RoundIsOne, NothingToTellIsZero}
use Rattle.maxsum_messages.proofs.Best.{both-first, greatest-same}

pub closure-stable : ((g : Graph) (f : Family) → IsLargestStable g f) → ClosureIsStable
closure-stable largest = λ g f s c. record {
  meets = λ p i q here known apart.
      let met = (largest g f).meets p i q (c.sound p i here) known apart in
      record { partner = met.0; there = c.whole q met.0 met.1; allowed = met.2 };
}

module _ {W : Type 0} (cmp : W → W → Ordering) (total : IsTotalOrder cmp) (tied_same : (a b : W) → cmp a b ≡ Equal → a ≡ b) where
  -- two values of which neither is above the other are one
  level : (a b : W) → is_gt (cmp a b) ≡ false → is_gt (cmp b a) ≡ false → a ≡ b
  level a b h k = by_answer (cmp a b) refl h
    where
      by_answer : (r : Ordering) → cmp a b ≡ r → is_gt r ≡ false → a ≡ b
      by_answer Less e u = let over : is_gt (cmp b a) ≡ true = ap is_gt (total.antisymm b a ∙ ap ordering_reverse e) in absurd (cc)
      by_answer Equal e u = tied_same a b e
      by_answer Greater e u = cc

  greatest-one : (test : ℕ → Bool) (value : ℕ → W) (a b : W) → IsGreatest cmp test value a → IsGreatest cmp test value b → a ≡ b
  greatest-one test value a b g h =
      level a b
      (subst (λ w. is_gt (cmp w b) ≡ false) (sym g.here) (h.most g.place g.passes))
      (subst (λ w. is_gt (cmp w a) ≡ false) (sym h.here) (g.most h.place h.passes))

  -- ---- messages

  module _ (none : W) (plus minus : W → W → W) (clip : W → W) where
    pub message-one : (g : Graph) (d : Family) (weight other : ℕ → W) (p q : ℕ) (one two : ℕ → W) → ((i : ℕ) → weight i ≡ other i) →
        IsMessage none plus minus clip cmp g d weight p q one → IsMessage none plus minus clip cmp g d other p q two → (j : ℕ) → one j ≡ two j
    message-one g d weight other p q one two same m n j = by_place (d q j) refl
      where
        raws : (k : ℕ) → d q k ≡ true → m.raw k ≡ n.raw k
        raws k t =
            greatest-one (λ i. d p i && not (is_forbidden g p i q k)) other (m.raw k) (n.raw k)
            (greatest-same cmp (λ i. d p i && not (is_forbidden g p i q k)) weight other (m.raw k) (λ i u. same i) (m.best k t)) (n.best k t)

        tops : m.top ≡ n.top
        tops = greatest-one (d q) n.raw m.top n.top (greatest-same cmp (d q) m.raw n.raw m.top raws m.highest) n.highest

        by_place : (b : Bool) → d q j ≡ b → one j ≡ two j
        by_place true t = m.inside j t ∙ ap (λ r. clip (minus r m.top)) (raws j t) ∙ ap (λ w. clip (minus (n.raw j) w)) tops ∙ sym (n.inside j t)
        by_place false f = m.outside j f ∙ sym (n.outside j f)

    pub round-one : RoundIsOne none plus minus clip cmp
    round-one = λ g f d before one other a b. record {
      senders = λ q h. ap (λ xs. get_or xs q []) (a.same.senders ∙ sym b.same.senders);
      each = λ q k j known h.
          let inside : k < length (senders_of before q) = subst (λ xs. k < length (get_or xs q [])) a.same.senders h in
          let p = get_or (senders_of before q) k 0 in
          message-one g d (weight_for none plus f before q p) (weight_for none plus f before q p) p q (message none one q k) (message none other q k) (λ i. refl)
          (a.each q k known inside) (b.each q k known inside) j;
    }

    module _ (own : (a : W) → minus a a ≡ none) (still : clip none ≡ none) where
      -- where the greatest weights are the same at each state
      level-zero : (g : Graph) (d : Family) (weight : ℕ → W) (p q : ℕ) (said : ℕ → W) → (m : IsMessage none plus minus clip cmp g d weight p q said) →
          ((j k : ℕ) → d q j ≡ true → d q k ≡ true → m.raw j ≡ m.raw k) → (j : ℕ) → said j ≡ none
      level-zero g d weight p q said m alike j = by_place (d q j) refl
        where
          by_place : (b : Bool) → d q j ≡ b → said j ≡ none
          by_place true t =
              let top : m.top ≡ m.raw j = m.highest.here ∙ alike m.highest.place j m.highest.passes t in
              m.inside j t ∙ ap (λ w. clip (minus (m.raw j) w)) top ∙ ap clip (own (m.raw j)) ∙ still
          by_place false f = m.outside j f

      free-alike : (g : Graph) (d : Family) (weight : ℕ → W) (p q j k : ℕ) (a b : W) → IsFree g d p q → d q k ≡ true →
          IsGreatest cmp (λ i. d p i && not (is_forbidden g p i q j)) weight a → IsGreatest cmp (λ i. d p i && not (is_forbidden g p i q k)) weight b → is_gt (cmp a b) ≡ false
      free-alike g d weight p q j k a b free u m n =
          let here : d p m.place ≡ true = both-first _ _ m.passes in
          let too : (d p m.place && not (is_forbidden g p m.place q k)) ≡ true = ap (λ x. x && not (is_forbidden g p m.place q k)) here ∙ ap not (free.allowed m.place k here u) in
          subst (λ w. is_gt (cmp w b) ≡ false) (sym m.here) (n.most m.place too)

      pub nothing-zero : NothingToTellIsZero none plus minus clip cmp
      nothing-zero = λ g d weight p q said h m. level-zero g d weight p q said m (alike g d weight p q said m h)
        where
          alike : (g : Graph) (d : Family) (weight : ℕ → W) (p q : ℕ) (said : ℕ → W) → (m : IsMessage none plus minus clip cmp g d weight p q said) → HasNothingToTell g d p q →
              (j k : ℕ) → d q j ≡ true → d q k ≡ true → m.raw j ≡ m.raw k
          alike g d weight p q said m (inl single) j k t u =
              let a = m.best j t in
              let b = m.best k u in
              a.here ∙ ap weight (single a.place b.place (both-first _ _ a.passes) (both-first _ _ b.passes)) ∙ sym b.here
          alike g d weight p q said m (inr (inl single)) j k t u = ap m.raw (single j k t u)
          alike g d weight p q said m (inr (inr free)) j k t u =
              level (m.raw j) (m.raw k)
              (free-alike g d weight p q j k (m.raw j) (m.raw k) free u (m.best j t) (m.best k u))
              (free-alike g d weight p q k j (m.raw k) (m.raw j) free t (m.best k u) (m.best j t))

  -- ---- choices

  module _ (minus : W → W → W) where
    lead-one : (test : ℕ → Bool) (value : ℕ → W) (a b : W) → IsLead cmp minus test value a → IsLead cmp minus test value b → a ≡ b
    lead-one test value a b l m =
        l.here ∙ ap (λ w. minus w (value l.second)) firsts ∙ ap (minus (value m.first)) (seconds (cases_eq l.first m.first)) ∙ sym m.here
      where
        firsts : value l.first ≡ value m.first
        firsts = level (value l.first) (value m.first) (m.best l.first l.first_passes) (l.best m.first m.first_passes)

        seconds : (l.first ≡ m.first) ⊎ (l.first ≢ m.first) → value l.second ≡ value m.second
        seconds (inl same) =
            level (value l.second) (value m.second)
            (m.next l.second l.second_passes (λ e. l.apart (e ∙ sym same)))
            (l.next m.second m.second_passes (λ e. m.apart (e ∙ same)))
        seconds (inr apart) =
            level (value l.second) (value l.first) (l.best l.second l.second_passes)
            (subst (λ w. is_gt (cmp w (value l.second)) ≡ false) (sym firsts) (l.next m.first m.first_passes (λ e. apart (sym e))))
            ∙ firsts
            ∙ level (value m.first) (value m.second)
            (subst (λ w. is_gt (cmp w (value m.second)) ≡ false) firsts (m.next l.first l.first_passes apart))
            (m.best m.second m.second_passes)

    not-before : (n : ℕ) (d : Family) (value : ℕ → ℕ → W) (p q : ℕ) → IsChosen cmp minus n d value p → IsChosen cmp minus n d value q → p < q → ⊥
    not-before n d value p q a b h =
        elim (b.least p h) [
          | inl single ↦ a.led.apart (single a.led.second a.led.first a.led.second_passes a.led.first_passes)
          | inr below ↦ elim (a.most q b.known) [
            | inl single ↦ b.led.apart (single b.led.second b.led.first b.led.second_passes b.led.first_passes)
            | inr above ↦
                let yes : is_gt (cmp b.lead a.lead) ≡ true = subst (λ w. is_gt (cmp b.lead w) ≡ true) (lead-one (d p) (value p) below.0 a.lead below.1 a.led) below.2 in
                let no-more : is_gt (cmp b.lead a.lead) ≡ false = subst (λ w. is_gt (cmp w a.lead) ≡ false) (lead-one (d q) (value q) above.0 b.lead above.1 b.led) above.2 in
                cc
          ]
        ]

    pub chosen-one : (n : ℕ) (d : Family) (value : ℕ → ℕ → W) (p q : ℕ) → IsChosen cmp minus n d value p → IsChosen cmp minus n d value q → p ≡ q
    chosen-one n d value p q a b =
        elim (cases_lt p q) [
          | inl h ↦ absurd (not-before n d value p q a b h)
          | inr h ↦ elim (cases_eq p q) [
            | inl same ↦ same
            | inr apart ↦ absurd (not-before n d value q p b a (omega (arith, h, apart)))
          ]
        ]

-- what is added and taken off again leaves nothing
pub own-off : {W : Type 0} (none : W) (plus minus : W → W → W) → ((a b : W) → plus a b ≡ plus b a) → ((a : W) → plus a none ≡ a) → ((a b : W) → minus (plus a b) b ≡ a) → (a : W) → minus a a ≡ none
own-off none plus minus comm keeps off a = ap (λ x. minus x a) (sym (comm none a ∙ keeps a)) ∙ off none a
