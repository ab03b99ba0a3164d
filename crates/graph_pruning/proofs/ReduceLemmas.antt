-- What corresponds between an instance and its pruned instance.
use Rattle.std.proofs.Common.{◌≡◌, ◌≢◌, ℕ, zero, suc, ◌<◌, ◌≤◌, true, false, not, ◌&&◌, ◌||◌, List, [], ◌∷◌, ◌++◌, length, get_or, refl, sym, ◌∙◌, subst, ap, arith, inl, inr, eqb, ltb, length-append}
use Rattle.std.proofs.Math.ListN.{get_or-append}
use Rattle.std.proofs.Math.Seq.{get_or-append_seam}
use Rattle.std.proofs.lemmas.Bool.{cases_eq, cases_lt, cases_order, cases_Bool, both_ways, and_parts, and_from, or_cases, or_left, or_right, eq-eqb, eqb-true, ne_eqb, lt-ltb, ltb-true, not-true}
use Rattle.version_graph.specs.Graph.{Graph, packages, states, last, is_barred, is_offered, is_forbidden, IsSolution}
use Rattle.version_graph.specs.Family.{Family, IsWithin, IsStable, InClosure, HasEmpty, agrees, under, EmptyIsEverywhere, SolutionIsClosed}
use Rattle.version_graph.specs.Part.{Part, package_of, state_of}
use Rattle.graph_pruning.specs.Pruned.{Pruning, left, IsUnpruned}
use Rattle.graph_pruning.specs.Reduced.{IsReduction, before, AreKnown, ClosuresCorrespond, IsCutTo, IsWidenedTo, SolutionsCorrespond, whole_of}
use Rattle.graph_pruning.proofs.SpreadLemmas.{forbidden-flip}
use Rattle.graph_pruning.proofs.PruneLemmas.{some_below, some_from, some_parts, closed_offered, offered_known, offered_unbarred, offered_from, closed_before, standing_itself, both_alike, kept_known, no_need, absent_left, left_kept, left_absent, left_closed, left_solves}

-- ---- whether a state agrees with a choice

choice_parts : (q a j d : ℕ) → (not (eqb q a) || eqb j d) ≡ true → q ≡ a → j ≡ d
choice_parts q a j d e same =
    elim (or_cases (not (eqb q a)) (eqb j d) e) [
      | inl apart ↦ absurd (both_ways _ (not-true _ apart) (eq-eqb q a same))
      | inr s ↦ eqb-true j d s
    ]

choice_from : (q a j d : ℕ) → (q ≡ a → j ≡ d) → (not (eqb q a) || eqb j d) ≡ true
choice_from q a j d f =
    elim (cases_eq q a) [
      | inl same ↦ or_right (not (eqb q a)) (eqb j d) (eq-eqb j d (f same))
      | inr apart ↦ or_left (not (eqb q a)) (eqb j d) (ap not (ne_eqb q a apart))
    ]

-- one number for each place below n
pub choose_below : (P : ℕ → ℕ → Type 0) (n : ℕ) → ((p : ℕ) → p < n → (x : ℕ) × P p x) → (ys : List ℕ) × (length ys ≡ n) × ((p : ℕ) → p < n → P p (get_or ys p 0))
choose_below P zero f = ([], refl, λ p below. absurd (omega arith))
choose_below P (suc n) f =
    let rest = choose_below P n (λ p below. f p (omega (arith, below))) in
    let x = f n (omega arith) in (
      rest.0 ++ x.0 ∷ [],
      omega (arith, length-append rest.0 (x.0 ∷ []), rest.1),
      λ p below. elim (cases_eq p n) [
        | inl e ↦ subst (λ k. P k (get_or (rest.0 ++ x.0 ∷ []) k 0)) (sym e)
            (subst (P n) (sym (ap (λ k. get_or (rest.0 ++ x.0 ∷ []) k 0) (sym rest.1) ∙ get_or-append_seam rest.0 x.0 [] 0)) x.1)
        | inr apart ↦ subst (P p) (sym (get_or-append rest.0 (x.0 ∷ []) 0 p (omega (arith, below, apart, rest.1)))) (rest.2 p (omega (arith, below, apart)))
      ],
    )

module _ (g : Graph) (pr : Pruning) (h : Graph) (b : Part) (r : IsReduction g pr h b) where
  pub home : (p : ℕ) → p < packages h → package_of b p < packages g
  home p known = kept_known g pr r.graph r.plain r.pruning r.filled (package_of b p) (r.reduced.sound p known)

  pub package_same : (p q : ℕ) → p < packages h → q < packages h → package_of b p ≡ package_of b q → p ≡ q
  package_same p q first second e =
      elim (cases_order p q) [
        | inl same ↦ same
        | inr o ↦ elim o [
          | inl low ↦ let l = r.reduced.rising p q low second in absurd (omega (arith, l, e))
          | inr high ↦ let l = r.reduced.rising q p high first in absurd (omega (arith, l, e))
        ]
      ]

  state_same : (p i j : ℕ) → p < packages h → i < states h p → j < states h p → state_of b p i ≡ state_of b p j → i ≡ j
  state_same p i j known first second e =
      elim (cases_order i j) [
        | inl same ↦ same
        | inr o ↦ elim o [
          | inl low ↦ let l = r.reduced.states_rising p i j known low second in absurd (omega (arith, l, e))
          | inr high ↦ let l = r.reduced.states_rising p j i known high first in absurd (omega (arith, l, e))
        ]
      ]

  -- a closed state of a kept package is left
  inside : (p i : ℕ) → p < packages h → pr.closed (package_of b p) i ≡ true → left g pr (package_of b p) i ≡ true
  inside p i known here = left_kept g pr (package_of b p) i (r.reduced.sound p known) here

  -- the number of the state that stands for a closed one
  pub number : (p i : ℕ) → p < packages h → pr.closed (package_of b p) i ≡ true → (n : ℕ) × (n < states h p) × (state_of b p n ≡ pr.standing (package_of b p) i)
  number p i known here =
      r.reduced.states_whole p (pr.standing (package_of b p) i) known
      (standing_itself g (left g pr) pr.standing (package_of b p) i r.pruning.classes (inside p i known here))

  unbarred : (p i : ℕ) → p < packages h → i < states h p → is_barred h p i ≡ false
  unbarred p i known state =
      let own = r.reduced.states_sound p i known state in
      r.reduced.barred p i known state
      ∙ offered_unbarred g (package_of b p) (state_of b p i) (closed_offered g pr.closed (package_of b p) (state_of b p i) r.pruning.closure (left_closed g pr (package_of b p) (state_of b p i) own.inside))

  -- ---- choices

  agrees_before : (prefix : List (ℕ × ℕ)) (q j : ℕ) → AreKnown h prefix → q < packages h → agrees prefix q j ≡ true →
      agrees (before b prefix) (package_of b q) (state_of b q j) ≡ true
  agrees_before [] q j chosen known e = refl
  agrees_before (c ∷ cs) q j chosen known e =
      let parts = and_parts (not (eqb q c.0) || eqb j c.1) (agrees cs q j) e in
      and_from (not (eqb (package_of b q) (package_of b c.0)) || eqb (state_of b q j) (state_of b c.0 c.1)) (agrees (before b cs) (package_of b q) (state_of b q j))
      (choice_from (package_of b q) (package_of b c.0) (state_of b q j) (state_of b c.0 c.1) (λ same.
      let at : q ≡ c.0 = package_same q c.0 known chosen.0 same in
      ap (state_of b q) (choice_parts q c.0 j c.1 parts.0 at) ∙ ap (λ x. state_of b x c.1) at))
      (agrees_before cs q j chosen.2 known parts.1)

  agrees_after : (prefix : List (ℕ × ℕ)) (q i j : ℕ) → AreKnown h prefix → q < packages h → j < states h q → pr.standing (package_of b q) i ≡ state_of b q j →
      agrees (before b prefix) (package_of b q) i ≡ true → agrees prefix q j ≡ true
  agrees_after [] q i j chosen known state stands e = refl
  agrees_after (c ∷ cs) q i j chosen known state stands e =
      let parts = and_parts (not (eqb (package_of b q) (package_of b c.0)) || eqb i (state_of b c.0 c.1)) (agrees (before b cs) (package_of b q) i) e in
      and_from (not (eqb q c.0) || eqb j c.1) (agrees cs q j)
      (choice_from q c.0 j c.1 (λ at.
      let same : i ≡ state_of b c.0 c.1 = choice_parts (package_of b q) (package_of b c.0) i (state_of b c.0 c.1) parts.0 (ap (package_of b) at) in
      state_same q j c.1 known state (subst (λ x. c.1 < states h x) (sym at) chosen.1) (
      sym stands
      ∙ ap (λ x. pr.standing (package_of b x) i) at
      ∙ ap (pr.standing (package_of b c.0)) same
      ∙ (r.reduced.states_sound c.0 c.1 chosen.0 chosen.1).itself
      ∙ ap (λ x. state_of b x c.1) (sym at)
      )))
      (agrees_after cs q i j chosen.2 known state stands parts.1)

  agrees_absent : (prefix : List (ℕ × ℕ)) (p i : ℕ) → AreKnown h prefix → pr.kept p ≡ false → agrees (before b prefix) p i ≡ true
  agrees_absent [] p i chosen out = refl
  agrees_absent (c ∷ cs) p i chosen out =
      and_from (not (eqb p (package_of b c.0)) || eqb i (state_of b c.0 c.1)) (agrees (before b cs) p i)
      (choice_from p (package_of b c.0) i (state_of b c.0 c.1) (λ same. absurd (both_ways _ out (ap pr.kept same ∙ r.reduced.sound c.0 chosen.0))))
      (agrees_absent cs p i chosen.2 out)

  -- ---- from the instance to the pruned one

  module _ (prefix : List (ℕ × ℕ)) (chosen : AreKnown h prefix) (s : Family) (stable : IsStable g s) (within : IsWithin s (under g (before b prefix))) where
    s_offered : (p i : ℕ) → s p i ≡ true → is_offered g p i ≡ true
    s_offered p i e = (and_parts (is_offered g p i) (agrees (before b prefix) p i) (within.at p i e)).0

    s_agrees : (p i : ℕ) → s p i ≡ true → agrees (before b prefix) p i ≡ true
    s_agrees p i e = (and_parts (is_offered g p i) (agrees (before b prefix) p i) (within.at p i e)).1

    s_inside : (p i : ℕ) → p < packages h → s (package_of b p) i ≡ true → left g pr (package_of b p) i ≡ true
    s_inside p i known e = inside p i known ((closed_before g pr.closed s r.pruning.closure stable (record { at = s_offered })).at (package_of b p) i e)

    -- the states that stand for those of s
    abbrev lowered : Family
    lowered p j =
        ltb p (packages h)
        && (ltb j (states h p) && some_below (λ i. s (package_of b p) i && eqb (pr.standing (package_of b p) i) (state_of b p j)) (states g (package_of b p)))

    lowered_from : (p i j : ℕ) → p < packages h → j < states h p → s (package_of b p) i ≡ true → pr.standing (package_of b p) i ≡ state_of b p j → lowered p j ≡ true
    lowered_from p i j known state here stands =
        and_from (ltb p (packages h)) _ (lt-ltb _ _ known) (and_from (ltb j (states h p)) _ (lt-ltb _ _ state)
        (some_from (λ x. s (package_of b p) x && eqb (pr.standing (package_of b p) x) (state_of b p j)) (states g (package_of b p)) i
        (offered_known g (package_of b p) i (s_offered (package_of b p) i here)).1
        (and_from (s (package_of b p) i) _ here (eq-eqb _ _ stands))))

    lowered_parts : (p j : ℕ) → lowered p j ≡ true →
        (i : ℕ) × (p < packages h) × (j < states h p) × (s (package_of b p) i ≡ true) × (pr.standing (package_of b p) i ≡ state_of b p j)
    lowered_parts p j e =
        let first = and_parts (ltb p (packages h)) _ e in
        let second = and_parts (ltb j (states h p)) _ first.1 in
        let found = some_parts (λ x. s (package_of b p) x && eqb (pr.standing (package_of b p) x) (state_of b p j)) (states g (package_of b p)) second.1 in
        let third = and_parts (s (package_of b p) found.0) _ found.2 in
        (found.0, ltb-true _ _ first.0, ltb-true _ _ second.0, third.0, eqb-true _ _ third.1)

    lowered_stable : IsStable h lowered
    lowered_stable = record {
      meets = λ p j q here known apart.
          let low = lowered_parts p j here in
          let elsewhere : package_of b p ≢ package_of b q = λ e. apart (package_same q p known low.1 (sym e)) in
          let m = stable.meets (package_of b p) low.0 (package_of b q) low.3 (home q known) (λ e. elsewhere (sym e)) in
          let there = s_inside q m.partner known m.there in
          let n = number q m.partner known (left_closed g pr (package_of b q) m.partner there) in
          record {
            partner = n.0;
            there = lowered_from q m.partner n.0 known n.1 m.there (sym n.2);
            allowed =
                r.reduced.forbidden p j q n.0 low.1 low.2 known n.1 (λ e. apart (sym e))
                ∙ ap (λ x. is_forbidden g (package_of b p) x (package_of b q) (state_of b q n.0)) (sym low.4)
                ∙ ap (λ x. is_forbidden g (package_of b p) (pr.standing (package_of b p) low.0) (package_of b q) x) n.2
                ∙ both_alike g (left g pr) pr.standing (package_of b p) low.0 (package_of b q) m.partner r.pruning.classes elsewhere (s_inside p low.0 low.1 low.3) there
                ∙ m.allowed;
          };
    }

    lowered_within : IsWithin lowered (under h prefix)
    lowered_within = record {
      at = λ p j here.
          let low = lowered_parts p j here in
          and_from (is_offered h p j) (agrees prefix p j)
          (offered_from h p j low.1 low.2 (unbarred p j low.1 low.2))
          (agrees_after prefix p low.0 j chosen low.1 low.2 low.4 (s_agrees (package_of b p) low.0 low.3));
    }

    closed_lower : (p i j : ℕ) → p < packages h → j < states h p → s (package_of b p) i ≡ true → pr.standing (package_of b p) i ≡ state_of b p j → InClosure h (under h prefix) p j
    closed_lower p i j known state here stands = record {
      family = lowered;
      stable = lowered_stable;
      within = lowered_within;
      here = lowered_from p i j known state here stands;
    }

  -- ---- from the pruned instance to the instance

  module _ (prefix : List (ℕ × ℕ)) (chosen : AreKnown h prefix) (s : Family) (stable : IsStable h s) (within : IsWithin s (under h prefix)) (o : ℕ) (e : ℕ) (start : s o e ≡ true) where
    t_known : (p j : ℕ) → s p j ≡ true → (p < packages h) × (j < states h p)
    t_known p j here = offered_known h p j ((and_parts (is_offered h p j) (agrees prefix p j) (within.at p j here)).0)

    t_inside : (p j : ℕ) → s p j ≡ true → left g pr (package_of b p) (state_of b p j) ≡ true
    t_inside p j here = let k = t_known p j here in (r.reduced.states_sound p j k.0 k.1).inside

    some_at : (q : ℕ) → q < packages h → (j : ℕ) × (s q j ≡ true)
    some_at q known =
        elim (cases_eq q o) [
          | inl same ↦ (e, ap (λ x. s x e) same ∙ start)
          | inr apart ↦ let m = stable.meets o e q start known apart in (m.partner, m.there)
        ]

    -- whether a state of s stands for the state i of p
    abbrev has_image : Family
    has_image p i = some_below (λ q. eqb (package_of b q) p && some_below (λ j. eqb (state_of b q j) (pr.standing p i) && s q j) (states h q)) (packages h)

    image_from : (q j p i : ℕ) → s q j ≡ true → package_of b q ≡ p → state_of b q j ≡ pr.standing p i → has_image p i ≡ true
    image_from q j p i here at stands =
        let k = t_known q j here in
        some_from (λ x. eqb (package_of b x) p && some_below (λ y. eqb (state_of b x y) (pr.standing p i) && s x y) (states h x)) (packages h) q k.0
        (and_from (eqb (package_of b q) p) _ (eq-eqb _ _ at)
        (some_from (λ y. eqb (state_of b q y) (pr.standing p i) && s q y) (states h q) j k.1 (and_from (eqb (state_of b q j) (pr.standing p i)) (s q j) (eq-eqb _ _ stands) here)))

    image_parts : (p i : ℕ) → has_image p i ≡ true → (q : ℕ) × (j : ℕ) × (s q j ≡ true) × (package_of b q ≡ p) × (state_of b q j ≡ pr.standing p i)
    image_parts p i there =
        let first = some_parts (λ x. eqb (package_of b x) p && some_below (λ y. eqb (state_of b x y) (pr.standing p i) && s x y) (states h x)) (packages h) there in
        let parts = and_parts (eqb (package_of b first.0) p) _ first.2 in
        let second = some_parts (λ y. eqb (state_of b first.0 y) (pr.standing p i) && s first.0 y) (states h first.0) parts.1 in
        let more = and_parts (eqb (state_of b first.0 second.0) (pr.standing p i)) (s first.0 second.0) second.2 in
        (first.0, second.0, more.1, eqb-true _ _ parts.0, eqb-true _ _ more.0)

    -- the states for which those of s stand, as the choices have them, and the absent states of what isn't kept
    abbrev raised : Family
    raised p i = left g pr p i && (agrees (before b prefix) p i && (not (pr.kept p) || has_image p i))

    raised_left : (p i : ℕ) → raised p i ≡ true → left g pr p i ≡ true
    raised_left p i here = (and_parts (left g pr p i) _ here).0

    raised_agrees : (p i : ℕ) → raised p i ≡ true → agrees (before b prefix) p i ≡ true
    raised_agrees p i here = (and_parts (agrees (before b prefix) p i) _ (and_parts (left g pr p i) _ here).1).0

    raised_image : (p i : ℕ) → raised p i ≡ true → pr.kept p ≡ true → has_image p i ≡ true
    raised_image p i here kept =
        elim (or_cases (not (pr.kept p)) (has_image p i) (and_parts (agrees (before b prefix) p i) _ (and_parts (left g pr p i) _ here).1).1) [
          | inl out ↦ absurd (both_ways _ (not-true _ out) kept)
          | inr image ↦ image
        ]

    raised_from : (q j i : ℕ) → s q j ≡ true → left g pr (package_of b q) i ≡ true → agrees (before b prefix) (package_of b q) i ≡ true →
        pr.standing (package_of b q) i ≡ state_of b q j → raised (package_of b q) i ≡ true
    raised_from q j i here there agree stands =
        and_from (left g pr (package_of b q) i) _ there (and_from (agrees (before b prefix) (package_of b q) i) _ agree
        (or_right (not (pr.kept (package_of b q))) (has_image (package_of b q) i) (image_from q j (package_of b q) i here refl (sym stands))))

    raised_itself : (q j : ℕ) → s q j ≡ true → raised (package_of b q) (state_of b q j) ≡ true
    raised_itself q j here =
        let k = t_known q j here in
        let agree = (and_parts (is_offered h q j) (agrees prefix q j) (within.at q j here)).1 in
        raised_from q j (state_of b q j) here (t_inside q j here) (agrees_before prefix q j chosen k.0 agree) (r.reduced.states_sound q j k.0 k.1).itself

    raised_absent : (p : ℕ) → p < packages g → pr.kept p ≡ false → raised p (last g p) ≡ true
    raised_absent p known out =
        and_from (left g pr p (last g p)) _ (absent_left g pr r.graph r.plain r.pruning r.filled p known out) (and_from (agrees (before b prefix) p (last g p)) _
        (agrees_absent prefix p (last g p) chosen out) (or_left (not (pr.kept p)) (has_image p (last g p)) (ap not out)))

    raised_known : (p i : ℕ) → raised p i ≡ true → p < packages g
    raised_known p i here = (offered_known g p i (closed_offered g pr.closed p i r.pruning.closure (left_closed g pr p i (raised_left p i here)))).0

    meets_absent : (p i q : ℕ) → raised p i ≡ true → q < packages g → q ≢ p → pr.kept q ≡ false → is_forbidden g p i q (last g q) ≡ false
    meets_absent p i q here known apart out =
        elim (cases_Bool (pr.kept p)) [
          | inl kept ↦ no_need g pr r.graph r.plain r.pruning r.filled p i q kept (left_closed g pr p i (raised_left p i here)) out known apart
          | inr away ↦
              ap (λ x. is_forbidden g p x q (last g q)) (left_absent g pr p i away (raised_left p i here))
              ∙ r.plain.apart p q (raised_known p i here) known (λ same. apart (sym same))
        ]

    meets_kept : (p i n : ℕ) → raised p i ≡ true → n < packages h → package_of b n ≢ p →
        (j : ℕ) × (raised (package_of b n) j ≡ true) × (is_forbidden g p i (package_of b n) j ≡ false)
    meets_kept p i n here known apart =
        elim (cases_Bool (pr.kept p)) [
          | inl kept ↦
              let image = image_parts p i (raised_image p i here kept) in
              let m = stable.meets image.0 image.1 n image.2 known (λ same. apart (ap (package_of b) same ∙ image.3)) in
              let a = t_known image.0 image.1 image.2 in
              let c = t_known n m.partner m.there in (
                state_of b n m.partner,
                raised_itself n m.partner m.there,
                (r.pruning.classes.stands p i (raised_left p i here)).same.alike (package_of b n) (state_of b n m.partner) apart (t_inside n m.partner m.there)
                    ∙ ap (λ x. is_forbidden g p x (package_of b n) (state_of b n m.partner)) (sym image.4)
                    ∙ ap (λ x. is_forbidden g x (state_of b image.0 image.1) (package_of b n) (state_of b n m.partner)) (sym image.3)
                    ∙ sym (r.reduced.forbidden image.0 image.1 n m.partner a.0 a.1 c.0 c.1 (λ same. apart (ap (package_of b) (sym same) ∙ image.3)))
                    ∙ m.allowed,
              )
          | inr away ↦
              let w = some_at n known in (
                state_of b n w.0,
                raised_itself n w.0 w.1,
                ap (λ x. is_forbidden g p x (package_of b n) (state_of b n w.0)) (left_absent g pr p i away (raised_left p i here))
                    ∙ forbidden-flip g p (last g p) (package_of b n) (state_of b n w.0) (λ same. apart (sym same))
                    ∙ no_need g pr r.graph r.plain r.pruning r.filled (package_of b n) (state_of b n w.0) p (r.reduced.sound n known)
                    (left_closed g pr (package_of b n) (state_of b n w.0) (t_inside n w.0 w.1)) away (raised_known p i here) (λ same. apart (sym same)),
              )
        ]

    raised_stable : IsStable g raised
    raised_stable = record {
      meets = λ p i q here known apart.
          elim (cases_Bool (pr.kept q)) [
            | inl kept ↦
                let n = r.reduced.whole q kept in
                let m = meets_kept p i n.0 here n.1 (λ same. apart (sym n.2 ∙ same)) in
                record {
                  partner = m.0;
                  there = ap (λ x. raised x m.0) (sym n.2) ∙ m.1;
                  allowed = ap (λ x. is_forbidden g p i x m.0) (sym n.2) ∙ m.2;
                }
            | inr out ↦ record { partner = last g q; there = raised_absent q known out; allowed = meets_absent p i q here known apart out }
          ];
    }

    raised_within : IsWithin raised (under g (before b prefix))
    raised_within = record {
      at = λ p i here.
          and_from (is_offered g p i) (agrees (before b prefix) p i)
          (closed_offered g pr.closed p i r.pruning.closure (left_closed g pr p i (raised_left p i here))) (raised_agrees p i here);
    }

    closed_upper : (q j i : ℕ) → s q j ≡ true → left g pr (package_of b q) i ≡ true → agrees (before b prefix) (package_of b q) i ≡ true →
        pr.standing (package_of b q) i ≡ state_of b q j → InClosure g (under g (before b prefix)) (package_of b q) i
    closed_upper q j i here there agree stands = record {
      family = raised;
      stable = raised_stable;
      within = raised_within;
      here = raised_from q j i here there agree stands;
    }

  -- ---- closures

  down : (prefix : List (ℕ × ℕ)) → AreKnown h prefix → (p i j : ℕ) → p < packages h → j < states h p → pr.standing (package_of b p) i ≡ state_of b p j →
      InClosure g (under g (before b prefix)) (package_of b p) i → InClosure h (under h prefix) p j
  down prefix chosen p i j known state stands k = closed_lower prefix chosen k.family k.stable k.within p i j known state k.here stands

  up : (prefix : List (ℕ × ℕ)) → AreKnown h prefix → (p i j : ℕ) → left g pr (package_of b p) i ≡ true → agrees (before b prefix) (package_of b p) i ≡ true →
      pr.standing (package_of b p) i ≡ state_of b p j → InClosure h (under h prefix) p j → InClosure g (under g (before b prefix)) (package_of b p) i
  up prefix chosen p i j there agree stands k = closed_upper prefix chosen k.family k.stable k.within p j k.here p j i k.here there agree stands

  empty_before_pruning : (prefix : List (ℕ × ℕ)) → AreKnown h prefix → HasEmpty h (under h prefix) → HasEmpty g (under g (before b prefix))
  empty_before_pruning prefix chosen e = record {
    place = package_of b e.place;
    known = home e.place e.known;
    none = λ i k.
        let n = number e.place i e.known (left_closed g pr (package_of b e.place) i (s_inside prefix chosen k.family k.stable k.within e.place i e.known k.here)) in
        e.none n.0 (down prefix chosen e.place i n.0 e.known n.1 (sym n.2) k);
  }

  -- with no package kept nothing is chosen, and then no domain is empty
  never_empty : (prefix : List (ℕ × ℕ)) → AreKnown h prefix → packages h ≤ 0 → HasEmpty g (under g (before b prefix)) → ⊥
  never_empty [] chosen none e = let some = r.filled.some e.place e.known in e.none some.0 (r.pruning.closure.sound e.place some.0 some.1)
  never_empty (c ∷ cs) chosen none e = absurd (omega (arith, chosen.0, none))

  empty_after_pruning : EmptyIsEverywhere → (prefix : List (ℕ × ℕ)) → AreKnown h prefix → HasEmpty g (under g (before b prefix)) → HasEmpty h (under h prefix)
  empty_after_pruning law prefix chosen e =
      elim (cases_lt 0 (packages h)) [
        | inl above ↦ record {
          place = 0;
          known = above;
          none = λ j k.
              let parts = and_parts (is_offered h 0 j) (agrees prefix 0 j) (k.within.at 0 j k.here) in
              let state = (offered_known h 0 j parts.0).1 in
              let own = r.reduced.states_sound 0 j above state in
              law g (under g (before b prefix)) e (package_of b 0) (state_of b 0 j)
              (up prefix chosen 0 (state_of b 0 j) j own.inside (agrees_before prefix 0 j chosen above parts.1) own.itself k);
        }
        | inr none ↦ absurd (never_empty prefix chosen none e)
      ]

  -- each state of the pruned instance is closed where nothing is chosen, and each package has one
  pub reduced_whole : IsUnpruned h (whole_of h)
  reduced_whole = record {
    closure = record {
      sound = λ p j here.
          let parts = and_parts (ltb p (packages h)) (ltb j (states h p)) here in
          let known = ltb-true _ _ parts.0 in
          let state = ltb-true _ _ parts.1 in
          let own = r.reduced.states_sound p j known state in
          down [] tt p (state_of b p j) j known state own.itself (r.pruning.closure.sound (package_of b p) (state_of b p j) (left_closed g pr (package_of b p) (state_of b p j) own.inside));
      whole = λ p j k.
          let known = offered_known h p j (and_parts (is_offered h p j) true (k.within.at p j k.here)).0 in
          and_from (ltb p (packages h)) (ltb j (states h p)) (lt-ltb _ _ known.0) (lt-ltb _ _ known.1);
    };
    all = λ _ p known. lt-ltb _ _ known;
    known = λ p kept. ltb-true _ _ kept;
    none = λ p known none.
        let some = r.filled.some (package_of b p) (home p known) in
        let n = number p some.0 known some.1 in
        absurd (both_ways _ (none n.0) (and_from (ltb p (packages h)) (ltb n.0 (states h p)) (lt-ltb _ _ known) (lt-ltb _ _ n.1)));
    alone = λ p i. refl;
  }

  pub closures_correspond : EmptyIsEverywhere → (prefix : List (ℕ × ℕ)) → AreKnown h prefix → ClosuresCorrespond g pr h b prefix
  closures_correspond law prefix chosen = record {
    down = down prefix chosen;
    up = up prefix chosen;
    empty = (empty_before_pruning prefix chosen, empty_after_pruning law prefix chosen);
  }

  -- ---- solutions

  module _ (law : SolutionIsClosed) where
    solution_left : (xs : List ℕ) (p : ℕ) → IsSolution g xs → p < packages h → left g pr (package_of b p) (get_or xs (package_of b p) 0) ≡ true
    solution_left xs p s known =
        inside p (get_or xs (package_of b p) 0) known
        (r.pruning.closure.whole (package_of b p) (get_or xs (package_of b p) 0) (law g [] xs s (λ q _. refl) (package_of b p) (home p known)))

    solution_cut : (xs ys : List ℕ) → IsSolution g xs → IsCutTo pr h b xs ys → IsSolution h ys
    solution_cut xs ys s c = record {
      each = c.each;
      offered = λ p known. offered_from h p (get_or ys p 0) known (c.known p known) (unbarred p (get_or ys p 0) known (c.known p known));
      allowed = λ p q first second apart.
          let elsewhere : package_of b p ≢ package_of b q = λ e. apart (package_same p q first second e) in
          r.reduced.forbidden p (get_or ys p 0) q (get_or ys q 0) first (c.known p first) second (c.known q second) apart
          ∙ ap (λ x. is_forbidden g (package_of b p) x (package_of b q) (state_of b q (get_or ys q 0))) (c.stands p first)
          ∙ ap (λ x. is_forbidden g (package_of b p) (pr.standing (package_of b p) (get_or xs (package_of b p) 0)) (package_of b q) x) (c.stands q second)
          ∙ both_alike g (left g pr) pr.standing (package_of b p) (get_or xs (package_of b p) 0) (package_of b q) (get_or xs (package_of b q) 0) r.pruning.classes elsewhere
          (solution_left xs p s first) (solution_left xs q s second)
          ∙ s.allowed (package_of b p) (package_of b q) (home p first) (home q second) elsewhere;
    }

    solution_cuts : (xs : List ℕ) → IsSolution g xs → (ys : List ℕ) × IsCutTo pr h b xs ys
    solution_cuts xs s =
        let P : ℕ → ℕ → Type 0 = λ p y. (y < states h p) × (state_of b p y ≡ pr.standing (package_of b p) (get_or xs (package_of b p) 0)) in
        let c = choose_below P (packages h) (λ p known.
        let n = number p (get_or xs (package_of b p) 0) known (left_closed g pr (package_of b p) _ (solution_left xs p s known)) in
        (n.0, (n.1, n.2))) in
        (c.0, record { each = c.1; known = λ p known. (c.2 p known).0; stands = λ p known. (c.2 p known).1 })

  module _ (ys xs : List ℕ) (s : IsSolution h ys) (w : IsWidenedTo g pr h b ys xs) where
    -- the number of a kept package, and its state
    kept_state : (p : ℕ) → pr.kept p ≡ true → (n : ℕ) × (n < packages h) × (get_or ys n 0 < states h n) × (package_of b n ≡ p) × (get_or xs p 0 ≡ state_of b n (get_or ys n 0))
    kept_state p kept =
        let n = r.reduced.whole p kept in
        (n.0, n.1, (offered_known h n.0 (get_or ys n.0 0) (s.offered n.0 n.1)).1, n.2, ap (λ x. get_or xs x 0) (sym n.2) ∙ w.kept n.0 n.1)

    widened_left : (p : ℕ) → p < packages g → left g pr p (get_or xs p 0) ≡ true
    widened_left p known =
        elim (cases_Bool (pr.kept p)) [
          | inl kept ↦
              let n = kept_state p kept in
              ap (left g pr p) n.4 ∙ ap (λ x. left g pr x (state_of b n.0 (get_or ys n.0 0))) (sym n.3) ∙ (r.reduced.states_sound n.0 (get_or ys n.0 0) n.1 n.2).inside
          | inr out ↦ ap (left g pr p) (w.absent p known out) ∙ absent_left g pr r.graph r.plain r.pruning r.filled p known out
        ]

    both_kept : (p q : ℕ) → p ≢ q → pr.kept p ≡ true → pr.kept q ≡ true → is_forbidden g p (get_or xs p 0) q (get_or xs q 0) ≡ false
    both_kept p q apart one two =
        let n = kept_state p one in
        let m = kept_state q two in
        let elsewhere : n.0 ≢ m.0 = λ e. apart (sym n.3 ∙ ap (package_of b) e ∙ m.3) in
        ap (λ x. is_forbidden g p x q (get_or xs q 0)) n.4
        ∙ ap (is_forbidden g p (state_of b n.0 (get_or ys n.0 0)) q) m.4
        ∙ ap (λ x. is_forbidden g x (state_of b n.0 (get_or ys n.0 0)) q (state_of b m.0 (get_or ys m.0 0))) (sym n.3)
        ∙ ap (λ x. is_forbidden g (package_of b n.0) (state_of b n.0 (get_or ys n.0 0)) x (state_of b m.0 (get_or ys m.0 0))) (sym m.3)
        ∙ sym (r.reduced.forbidden n.0 (get_or ys n.0 0) m.0 (get_or ys m.0 0) n.1 n.2 m.1 m.2 elsewhere)
        ∙ s.allowed n.0 m.0 n.1 m.1 elsewhere

    solution_widened : IsSolution g xs
    solution_widened = left_solves g pr r.graph r.plain r.pruning r.filled xs widened_left (λ p q _ _ apart one two. both_kept p q apart one two) w.each

  -- the state of a package in a widened solution
  abbrev IsWide : List ℕ → ℕ → ℕ → Type 0
  IsWide ys p x = ((n : ℕ) → n < packages h → package_of b n ≡ p → x ≡ state_of b n (get_or ys n 0)) × (pr.kept p ≡ false → x ≡ last g p)

  wide_state : (ys : List ℕ) (p : ℕ) → (x : ℕ) × IsWide ys p x
  wide_state ys p =
      elim (cases_Bool (pr.kept p)) [
        | inl kept ↦
            let n = r.reduced.whole p kept in (
              state_of b n.0 (get_or ys n.0 0),
              (λ m known e. ap (λ k. state_of b k (get_or ys k 0)) (package_same n.0 m n.1 known (n.2 ∙ sym e)), λ out. absurd (both_ways _ out kept)),
            )
        | inr out ↦ (
          last g p,
          (λ m known e. absurd (both_ways _ out (ap pr.kept (sym e) ∙ r.reduced.sound m known)), λ _. refl),
        )
      ]

  solution_widens : (ys : List ℕ) → IsSolution h ys → (xs : List ℕ) × IsWidenedTo g pr h b ys xs
  solution_widens ys s =
      let c = choose_below (IsWide ys) (packages g) (λ p known. wide_state ys p) in
      (c.0, record { each = c.1; kept = λ p known. (c.2 (package_of b p) (home p known)).0 p known refl; absent = λ p known out. (c.2 p known).1 out })

  pub solutions_correspond : SolutionIsClosed → SolutionsCorrespond g pr h b
  solutions_correspond law = record {
    cut = solution_cut law;
    cuts = solution_cuts law;
    widened = λ ys xs s w. solution_widened ys xs s w;
    widens = solution_widens;
  }
