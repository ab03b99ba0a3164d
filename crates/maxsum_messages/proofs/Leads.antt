-- A search for the greatest lead, package by package.
use Rattle.std.proofs.Common.{◌≡◌, ◌≢◌, ℕ, ◌+◌, ◌<◌, Bool, true, false, cond, refl, sym, ◌∙◌, subst, ap, arith, Option, None, Some, MatchOption, inl, inr, ◌&&◌, not, eqb}
use Rattle.std.proofs.lemmas.Bool.{eq-eqb, ne_eqb, and_parts}
use Rattle.std.proofs.lemmas.Bool.Decides.{eqb_tells}
use Rattle.std.specs.Ordering.{is_gt}
use Rattle.std.specs.declared.cmp.Ordering.{Ordering}
use Rattle.std.specs.Cmp.{IsTotalOrder, upto, tied_itself}
use Rattle.version_graph.specs.Family.{Family}
use Rattle.maxsum_messages.specs.Choice.{IsSingle, IsLead, IsChosen, Trails, TrailsClearly}
use Rattle.maxsum_messages.specs.Searched.{HasLead, leading, package_of, is_skipped}
use Rattle.maxsum_messages.specs.Greatest.{IsGreatest}
use Rattle.maxsum_messages.proofs.Best.{not_above, passed}

module _ {W : Type 0} (cmp : W → W → Ordering) (minus : W → W → W) (d : Family) (value : ℕ → ℕ → W) where
  -- the greatest lead of a package below n
  pub record IsChosenBelow (n p : ℕ) (lead : W) : Type 0 where
    pub known : p < n
    pub led : IsLead cmp minus (d p) (value p) lead
    pub most : (q : ℕ) → q < n → Trails cmp minus (d q) (value q) lead
    pub least : (q : ℕ) → q < p → TrailsClearly cmp minus (d q) (value q) lead

  abbrev pub IsLedBelow : ℕ → Option (ℕ × W) → Type 0
  IsLedBelow n None = (q : ℕ) → q < n → IsSingle (d q)
  IsLedBelow n (Some best) = IsChosenBelow n best.0 best.1

  module _ (total : IsTotalOrder cmp) where
    -- what isn't above b is below what is above b
    far_below : (x b l : W) → is_gt (cmp x b) ≡ false → is_gt (cmp l b) ≡ true → is_gt (cmp l x) ≡ true
    far_below x b l h k = by_answer (is_gt (cmp l x)) refl
      where
        by_answer : (r : Bool) → is_gt (cmp l x) ≡ r → is_gt (cmp l x) ≡ true
        by_answer true e = e
        by_answer false e = let under = upto total l x b e h in absurd (cc)

    trails_more : (q : ℕ) (b l : W) → is_gt (cmp l b) ≡ true → Trails cmp minus (d q) (value q) b → Trails cmp minus (d q) (value q) l
    trails_more q b l h (inl e) = inl e
    trails_more q b l h (inr t) = inr (t.0, t.1, upto total t.0 b l t.2 (not_above cmp total l b h))

    trails_clearly : (q : ℕ) (b l : W) → is_gt (cmp l b) ≡ true → Trails cmp minus (d q) (value q) b → TrailsClearly cmp minus (d q) (value q) l
    trails_clearly q b l h (inl e) = inl e
    trails_clearly q b l h (inr t) = inr (t.0, t.1, far_below t.0 b l t.2 h)

    -- the same of every package below n + 1
    below_next : (P : ℕ → Type 0) (n : ℕ) → ((q : ℕ) → q < n → P q) → P n → (q : ℕ) → q < n + 1 → P q
    below_next P n all last q h = elim (passed n q h) [ inl l ↦ all q l | inr e ↦ subst P (sym e) last ]

    itself : (n : ℕ) (lead : W) → IsLead cmp minus (d n) (value n) lead → Trails cmp minus (d n) (value n) lead
    itself n lead l = inr (lead, l, ap is_gt (tied_itself total lead))

    compared : (n : ℕ) (best : ℕ × W) (lead : W) → IsChosenBelow n best.0 best.1 → IsLead cmp minus (d n) (value n) lead → (b : Bool) → is_gt (cmp lead best.1) ≡ b →
        IsLedBelow (n + 1) (cond b (Some (n, lead)) (Some best))
    compared n best lead c l true e = record {
      known = omega arith;
      led = l;
      most = below_next (λ q. Trails cmp minus (d q) (value q) lead) n (λ q h. trails_more q best.1 lead e (c.most q h)) (itself n lead l);
      least = λ q h. trails_clearly q best.1 lead e (c.most q h);
    }
    compared n best lead c l false e = record {
      known = omega (arith, c.known);
      led = c.led;
      most = below_next (λ q. Trails cmp minus (d q) (value q) best.1) n c.most (inr (lead, l, e));
      least = c.least;
    }

    pub led-more : (n : ℕ) (best : Option (ℕ × W)) (lead : Option W) → IsLedBelow n best → HasLead cmp minus (d n) (value n) lead → IsLedBelow (n + 1) (leading cmp best n lead)
    led-more n None None b h = below_next (λ q. IsSingle (d q)) n b h
    led-more n None (Some lead) b h = record {
      known = omega arith;
      led = h;
      most = below_next (λ q. Trails cmp minus (d q) (value q) lead) n (λ q l. inl (b q l)) (itself n lead h);
      least = λ q l. inl (b q l);
    }
    led-more n (Some best) None b h = record {
      known = omega (arith, b.known);
      led = b.led;
      most = below_next (λ q. Trails cmp minus (d q) (value q) best.1) n b.most (inl h);
      least = b.least;
    }
    led-more n (Some best) (Some lead) b h = compared n best lead b h (is_gt (cmp lead best.1)) refl

  pub led-end : (n m : ℕ) (best : Option (ℕ × W)) → IsLedBelow n best → n ≡ m → MatchOption (package_of best) ((q : ℕ) → q < m → IsSingle (d q)) (IsChosen cmp minus m d value)
  led-end n m None b e = λ q h. b q (omega (arith, h, e))
  led-end n m (Some best) b e = record {
    known = omega (arith, b.known, e);
    lead = best.1;
    led = b.led;
    most = λ q h. b.most q (omega (arith, h, e));
    least = b.least;
  }

-- ---- the lead of one package, from its best state and the best of the others

module _ {W : Type 0} (cmp : W → W → Ordering) (minus : W → W → W) (test : ℕ → Bool) (value : ℕ → W) where
  any : (i : ℕ) → test i ≡ true → (test i && not false) ≡ true
  any i t = ap (λ b. b && true) t

  other : (i k : ℕ) → test i ≡ true → i ≢ k → (test i && not (eqb i k)) ≡ true
  other i k t apart = ap (λ b. b && not (eqb i k)) t ∙ ap not (ne_eqb i k apart)

  pub lead-none : ((i : ℕ) → (test i && not (is_skipped None i)) ≡ true → ⊥) → HasLead cmp minus test value None
  lead-none none = λ i j t u. absurd (none i (any i t))

  pub lead-one : (k : ℕ) → ((i : ℕ) → (test i && not (is_skipped (Some k) i)) ≡ true → ⊥) → HasLead cmp minus test value None
  lead-one k none = λ i j t u. same i t ∙ sym (same j u)
    where
      same : (i : ℕ) → test i ≡ true → i ≡ k
      same i t = elim (eqb_tells i k) [ inl e ↦ e.1 | inr e ↦ absurd (none i (other i k t e.1)) ]

  pub lead-two : (k l : ℕ) (lead : W) → IsGreatest (λ a b. cmp (value a) (value b)) (λ i. test i && not (is_skipped None i)) (λ i. i) k →
      IsGreatest (λ a b. cmp (value a) (value b)) (λ i. test i && not (is_skipped (Some k) i)) (λ i. i) l → lead ≡ minus (value k) (value l) → HasLead cmp minus test value (Some lead)
  lead-two k l lead a b e =
      let both = and_parts (test b.place) (not (eqb b.place k)) b.passes in
      record {
        first = k;
        second = l;
        first_passes = ap test a.here ∙ (and_parts (test a.place) true a.passes).0;
        second_passes = ap test b.here ∙ both.0;
        apart = λ same. (let here : eqb b.place k ≡ true = eq-eqb b.place k (sym b.here ∙ same) in absurd (cc (both.1)));
        best = λ i t. a.most i (any i t);
        next = λ i t apart. b.most i (other i k t apart);
        here = e;
      }
