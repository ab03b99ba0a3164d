-- The laws of the closure.
use Rattle.std.proofs.Common.{◌≡◌, ℕ, ◌<◌, true, false, ◌&&◌, List, get_or, refl, sym, subst, inl, inr, ltb, eqb}
use Rattle.std.proofs.lemmas.Bool.Decides.{eqb_tells}
use Rattle.std.proofs.lemmas.Bool.{eqb-true, eq-eqb, ltb-true, lt-ltb, and_parts, and_from}
use Rattle.version_graph.specs.Graph.{Graph, packages, is_forbidden, is_offered, IsSolution}
use Rattle.version_graph.specs.Family.{Family, InClosure, HasEmpty, IsLargestStable, IsStable, IsWithin, IsBelow, IsDecided, LiesBetween, agrees, under}

pub closure-largest : (g : Graph) (f : Family) → IsLargestStable g f
closure-largest g f = record {
  within = λ p i c. c.within.at p i c.here;
  meets = λ p i q c known apart.
      let m = c.stable.meets p i q c.here known apart in
      (m.partner, record { family = c.family; stable = c.stable; within = c.within; here = m.there }, m.allowed);
  largest = λ s stable within p i here. record { family = s; stable = stable; within = within; here = here };
}

pub nowhere : (g : Graph) (f : Family) → HasEmpty g f → (p i : ℕ) → InClosure g f p i → ⊥
nowhere g f h p i c =
    elim (eqb_tells h.place p) [
      | inl t ↦ h.none i (subst (λ x. InClosure g f x i) (sym t.1) c)
      | inr t ↦
          let m = c.stable.meets p i h.place c.here h.known t.1 in
          h.none m.partner (record { family = c.family; stable = c.stable; within = c.within; here = m.there })
    ]

-- the family of the chosen states
abbrev pub chosen_family : Graph → List ℕ → Family
chosen_family g chosen p i = ltb p (packages g) && eqb i (get_or chosen p 0)

chosen_known : (g : Graph) (chosen : List ℕ) (p i : ℕ) → chosen_family g chosen p i ≡ true → (p < packages g) × (i ≡ get_or chosen p 0)
chosen_known g chosen p i e =
    let parts = and_parts (ltb p (packages g)) (eqb i (get_or chosen p 0)) e in
    (ltb-true _ _ parts.0, eqb-true _ _ parts.1)

pub chosen_closed : (g : Graph) (prefix : List (ℕ × ℕ)) (chosen : List ℕ) → IsSolution g chosen →
    ((p : ℕ) → p < packages g → agrees prefix p (get_or chosen p 0) ≡ true) →
    (p : ℕ) → p < packages g → InClosure g (under g prefix) p (get_or chosen p 0)
chosen_closed g prefix chosen s fits p known = record {
  family = chosen_family g chosen;
  stable = record {
    meets = λ q i r there below apart.
        let k = chosen_known g chosen q i there in
        record {
          partner = get_or chosen r 0;
          there = and_from _ _ (lt-ltb _ _ below) (eq-eqb _ _ refl);
          allowed = subst (λ x. is_forbidden g q x r (get_or chosen r 0) ≡ false) (sym k.1) (s.allowed q r k.0 below (λ e. apart (sym e)));
        };
  };
  within = record {
    at = λ q i there.
        let k = chosen_known g chosen q i there in
        subst (λ x. under g prefix q x ≡ true) (sym k.1) (and_from _ _ (s.offered q k.0) (fits q k.0));
  };
  here = and_from _ _ (lt-ltb _ _ known) (eq-eqb _ _ refl);
}

pub below_within : (g : Graph) (inner outer : Family) → IsWithin inner outer → IsBelow g inner outer
below_within g inner outer w = record {
  below = λ p i k. record {
    family = k.family;
    stable = k.stable;
    within = record { at = λ q j h. w.at q j (k.within.at q j h) };
    here = k.here;
  };
}

-- the closure within the old domains is the one within the new ones
pub same_closure : (g : Graph) (old new : Family) → LiesBetween g old new → IsBelow g old new
same_closure g old new b = record {
  below = λ p i k. record {
    family = k.family;
    stable = k.stable;
    here = k.here;
    within = record { at = λ q j h. b.whole q j (record { family = k.family; stable = k.stable; within = k.within; here = h }) };
  };
}

pub closes_alike : (g : Graph) (f s : Family) → LiesBetween g f s → IsBelow g f s × IsBelow g s f
closes_alike g f s b = (same_closure g f s b, below_within g s f b.within)

pub decided_solves : (g : Graph) (f : Family) (chosen : List ℕ) → IsStable g f → IsWithin f (is_offered g) → IsDecided g f chosen → IsSolution g chosen
decided_solves g f chosen stable within decided = record {
  each = decided.each;
  offered = λ p known. within.at p (get_or chosen p 0) (decided.here p known);
  allowed = λ p q first second apart.
      let m = stable.meets p (get_or chosen p 0) q (decided.here p first) second (λ e. apart (sym e)) in
      subst (λ x. is_forbidden g p (get_or chosen p 0) q x ≡ false) (decided.alone q m.partner second m.there) m.allowed;
}
