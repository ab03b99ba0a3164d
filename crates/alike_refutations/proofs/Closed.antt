-- Closures of instances that are alike.
use Rattle.std.proofs.Common.{◌≡◌, ℕ, ◌-◌, ◌<◌, true, false, not, ◌&&◌, ◌==◌, List, sym, ◌∙◌, subst, ap, arith, ltb}
use Rattle.std.proofs.lemmas.Bool.{and_parts, and_from, ltb-true, lt-ltb, not-true, eqb-false}
use Rattle.version_graph.specs.Graph.{Graph, packages, states, last, is_barred, is_offered, is_root, does_need, is_forbidden}
use Rattle.version_graph.specs.Family.{Family, IsWithin, IsStable, InClosure, HasEmpty, agrees, under}
use Rattle.alike_refutations.specs.Alike.{IsLike}

pub offered_known : (g : Graph) (p i : ℕ) → is_offered g p i ≡ true → (p < packages g) × (i < states g p)
unfolding is_offered
offered_known g p i e =
    let parts = and_parts (ltb p (packages g)) _ e in
    let more = and_parts (ltb i (states g p)) _ parts.1 in
    (ltb-true _ _ parts.0, ltb-true _ _ more.0)

offered_unbarred : (g : Graph) (p i : ℕ) → is_offered g p i ≡ true → is_barred g p i ≡ false
unfolding is_offered
offered_unbarred g p i e = not-true _ (and_parts (ltb i (states g p)) _ (and_parts (ltb p (packages g)) _ e).1).1

offered_from : (g : Graph) (p i : ℕ) → p < packages g → i < states g p → is_barred g p i ≡ false → is_offered g p i ≡ true
unfolding is_offered
offered_from g p i known state free = and_from _ _ (lt-ltb _ _ known) (and_from _ _ (lt-ltb _ _ state) (ap not free))

-- likeness goes both ways
pub like_back : (g h : Graph) → IsLike g h → IsLike h g
like_back g h l = record {
  each = sym l.each;
  wide = λ p known. sym (l.wide p (place_in p known));
  filled = λ p known. subst (λ n. 0 < n) (sym (l.wide p (place_in p known))) (l.filled p (place_in p known));
  barred = λ p i known state_known. sym (l.barred p i (place_in p known) (state p i known state_known));
  forbidden = λ p i q j known i_known q_known j_known apart.
      sym (l.forbidden p i q j (place_in p known) (state p i known i_known) (place_in q q_known) (state q j q_known j_known) apart);
}
  where
    place_in : (p : ℕ) → p < packages h → p < packages g
    place_in p known = subst (λ n. p < n) l.each known

    state : (p i : ℕ) → p < packages h → i < states h p → i < states g p
    state p i known here = subst (λ n. i < n) (l.wide p (place_in p known)) here

module _ (g h : Graph) (l : IsLike g h) where
  pub package_over : (p : ℕ) → p < packages g → p < packages h
  package_over p known = subst (λ n. p < n) (sym l.each) known

  pub state_over : (p i : ℕ) → p < packages g → i < states g p → i < states h p
  state_over p i known here = subst (λ n. i < n) (sym (l.wide p known)) here

  pub last_same : (p : ℕ) → p < packages g → last h p ≡ last g p
  last_same p known = ap (λ n. n - 1) (l.wide p known)

  last_known : (p : ℕ) → p < packages g → last g p < states g p
  last_known p known = let some = l.filled p known in omega (arith, some)

  pub offered_over : (p i : ℕ) → is_offered g p i ≡ true → is_offered h p i ≡ true
  offered_over p i e =
      let k = offered_known g p i e in
      offered_from h p i (package_over p k.0) (state_over p i k.0 k.1) (l.barred p i k.0 k.1 ∙ offered_unbarred g p i e)

  pub root_over : (p : ℕ) → is_root g p ≡ true → is_root h p ≡ true
  root_over p e =
      let parts = and_parts (ltb p (packages g)) (is_barred g p (last g p)) e in
      let known : p < packages g = ltb-true _ _ parts.0 in
      and_from (ltb p (packages h)) (is_barred h p (last h p)) (lt-ltb _ _ (package_over p known))
      (ap (is_barred h p) (last_same p known) ∙ l.barred p (last g p) known (last_known p known) ∙ parts.1)

  pub need_over : (p i q : ℕ) → p < packages g → i < states g p → does_need g p i q ≡ true → does_need h p i q ≡ true
  need_over p i q known state e =
      let parts = and_parts (ltb q (packages g)) (not (q == p) && is_forbidden g p i q (last g q)) e in
      let more = and_parts (not (q == p)) (is_forbidden g p i q (last g q)) parts.1 in
      let other : q < packages g = ltb-true _ _ parts.0 in
      and_from (ltb q (packages h)) (not (q == p) && is_forbidden h p i q (last h q)) (lt-ltb _ _ (package_over q other))
      (and_from (not (q == p)) (is_forbidden h p i q (last h q)) more.0
      (ap (is_forbidden h p i q) (last_same q other)
      ∙ l.forbidden p i q (last g q) known state other (last_known q other) (λ same. eqb-false q p (not-true _ more.0) (sym same)) ∙ more.1))

  stable_over : (f : Family) → IsWithin f (is_offered g) → IsStable g f → IsStable h f
  stable_over f w s = record {
    meets = λ p i q here known apart.
        let m = s.meets p i q here (subst (λ n. q < n) l.each known) apart in
        let k = offered_known g p i (w.at p i here) in
        let o = offered_known g q m.partner (w.at q m.partner m.there) in
        record {
          partner = m.partner;
          there = m.there;
          allowed = l.forbidden p i q m.partner k.0 k.1 o.0 o.1 (λ same. apart (sym same)) ∙ m.allowed;
        };
  }

  within_over : (prefix : List (ℕ × ℕ)) (f : Family) → IsWithin f (under g prefix) → IsWithin f (under h prefix)
  within_over prefix f w = record {
    at = λ p i here.
        let parts = and_parts (is_offered g p i) (agrees prefix p i) (w.at p i here) in
        and_from (is_offered h p i) (agrees prefix p i) (offered_over p i parts.0) parts.1;
  }

  all_offered : (prefix : List (ℕ × ℕ)) (f : Family) → IsWithin f (under g prefix) → IsWithin f (is_offered g)
  all_offered prefix f w = record { at = λ p i here. (and_parts (is_offered g p i) (agrees prefix p i) (w.at p i here)).0 }

  -- what is closed in the one is closed in the other
  pub closure_over : (prefix : List (ℕ × ℕ)) (p i : ℕ) → InClosure g (under g prefix) p i → InClosure h (under h prefix) p i
  closure_over prefix p i k = record {
    family = k.family;
    stable = stable_over k.family (all_offered prefix k.family k.within) k.stable;
    within = within_over prefix k.family k.within;
    here = k.here;
  }

pub empty_over : (g h : Graph) → IsLike g h → (prefix : List (ℕ × ℕ)) → HasEmpty g (under g prefix) → HasEmpty h (under h prefix)
empty_over g h l prefix e = record {
  place = e.place;
  known = package_over g h l e.place e.known;
  none = λ i k. e.none i (closure_over h g (like_back g h l) prefix e.place i k);
}
