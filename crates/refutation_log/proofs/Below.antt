-- A tree refutes wherever the closed domains are smaller, and wherever branches may be on the same packages.
use Rattle.std.proofs.Common.{◌≡◌, ℕ, ◌<◌, Bool, true, false, not, ◌&&◌, ◌||◌, ◌==◌, [], ◌∷◌, ◌++◌, refl}
use Rattle.std.proofs.lemmas.Bool.{and_parts, and_from, or_parts, or_from, not-false, not_from_true}
use Rattle.std.proofs.lemmas.List.Folds.{list_all-append, list_any-append}
use Rattle.version_graph.specs.Graph.{Graph, packages, is_offered}
use Rattle.version_graph.specs.Family.{Family, IsStable, IsWithin, IsBelow, HasEmpty, narrowed, agrees, under}
use Rattle.graph_pruning.specs.Pruned.{Pruning}
use Rattle.refutation_log.specs.Tree.{Tree, Children, leaf, branch, done, child}
use Rattle.refutation_log.specs.Refutes.{Refutes, EachRefutes, is_chosen, Prefix}
use Rattle.refutation_log.specs.Within.{RefutesIn, EachRefutesIn, choose, is_shut}

-- a family within one with smaller closure stands within the other
family_below : (g : Graph) (inner outer f : Family) → IsBelow g inner outer → IsStable g f → IsWithin f inner → IsWithin f outer
family_below g inner outer f b stable w = record {
  at = λ p i here.
      let k = b.below p i (record { family = f; stable = stable; within = w; here = here }) in k.within.at p i k.here;
}

pub below_cut : (g : Graph) (inner outer : Family) (p i : ℕ) → IsBelow g inner outer → IsBelow g (narrowed inner p i) (narrowed outer p i)
below_cut g inner outer p i b = record {
  below = λ q j k.
      let f = k.family in
      let inside : IsWithin f inner = record { at = λ a c h. (and_parts _ _ (k.within.at a c h)).0 } in
      let outside = family_below g inner outer f b k.stable inside in
      record {
        family = f;
        stable = k.stable;
        here = k.here;
        within = record { at = λ a c h. and_from _ _ (outside.at a c h) (and_parts _ _ (k.within.at a c h)).1 };
      };
}

pub empty_below : (g : Graph) (inner outer : Family) → IsBelow g inner outer → HasEmpty g outer → HasEmpty g inner
empty_below g inner outer b e = record { place = e.place; known = e.known; none = λ i k. e.none i (b.below e.place i k) }

-- a branch may be on each package on which it could be
pub record IsFreer (g : Graph) (before after : ℕ → Bool) : Type 0 where
  pub free : (q : ℕ) → q < packages g → before q ≡ false → after q ≡ false

freer_choose : (g : Graph) (before after : ℕ → Bool) (p : ℕ) → IsFreer g before after → IsFreer g (choose before p) (choose after p)
freer_choose g before after p f = record { free = λ q known b. let parts = or_parts _ _ b in or_from _ _ (f.free q known parts.0) parts.1 }

mutual
  pub refutes_below : (g : Graph) (st : ℕ → ℕ → ℕ) (inner outer : Family) (before after : ℕ → Bool) → IsBelow g inner outer → IsFreer g before after → (t : Tree) → RefutesIn g st outer before t → RefutesIn g st inner after t
  refutes_below g st inner outer before after b f leaf r = empty_below g inner outer b r
  refutes_below g st inner outer before after b f (branch p cs) r =
      (r.0, f.free p r.0 r.1, record { covers = λ i k. r.2.covers i (b.below p i k) }, each_below g st inner outer (choose before p) (choose after p) b (freer_choose g before after p f) p cs r.3)

  each_below : (g : Graph) (st : ℕ → ℕ → ℕ) (inner outer : Family) (before after : ℕ → Bool) → IsBelow g inner outer → IsFreer g before after → (p : ℕ) (cs : Children) → EachRefutesIn g st outer before p cs → EachRefutesIn g st inner after p cs
  each_below g st inner outer before after b f p done r = tt
  each_below g st inner outer before after b f p (child i t cs) r =
      (r.0, refutes_below g st (narrowed inner p i) (narrowed outer p i) before after (below_cut g inner outer p i b) f t r.1, each_below g st inner outer before after b f p cs r.2)

pub refutes_within : (g : Graph) (st : ℕ → ℕ → ℕ) (inner outer : Family) (shut : ℕ → Bool) → IsBelow g inner outer → (t : Tree) → RefutesIn g st outer shut t → RefutesIn g st inner shut t
refutes_within g st inner outer shut b t = refutes_below g st inner outer shut shut b (record { free = λ q _ e. e }) t

-- ---- prefixes and domains

or-false : (b : Bool) → b || false ≡ b
or-false true = refl
or-false false = refl

and-true : (b : Bool) → b && true ≡ b
and-true true = refl
and-true false = refl

and_assoc : (a b c : Bool) → a && (b && c) ≡ a && b && c
and_assoc true b c = refl
and_assoc false b c = refl

or_swap : (a b c : Bool) → (a || b) || c ≡ (a || c) || b
or_swap true b c = refl
or_swap false true true = refl
or_swap false true false = refl
or_swap false false true = refl
or_swap false false false = refl

under-push : (g : Graph) (prefix : Prefix) (p i : ℕ) → under g (prefix ++ (p, i) ∷ []) ≡ narrowed (under g prefix) p i
under-push g prefix p i = λ x q j. each q j x
  where
    each : (q j : ℕ) → under g (prefix ++ (p, i) ∷ []) q j ≡ narrowed (under g prefix) p i q j
    each q j = rw (list_all-append, and-true) (and_assoc (is_offered g q j) (agrees prefix q j) (not (q == p) || (j == i)))

is_shut-push : (pr : Pruning) (prefix : Prefix) (p i : ℕ) → is_shut pr (prefix ++ (p, i) ∷ []) ≡ choose (is_shut pr prefix) p
is_shut-push pr prefix p i = λ x q. each q x
  where
    each : (q : ℕ) → is_shut pr (prefix ++ (p, i) ∷ []) q ≡ choose (is_shut pr prefix) p q
    each q = rw (list_any-append, or-false) (or_swap (is_chosen prefix q) (p == q) (not (pr.kept q)))

mutual
  pub in_domains : (g : Graph) (pr : Pruning) (prefix : Prefix) (t : Tree) → Refutes g pr prefix t → RefutesIn g pr.standing (under g prefix) (is_shut pr prefix) t
  in_domains g pr prefix leaf r = r
  in_domains g pr prefix (branch p cs) r =
      (r.0, or_from (is_chosen prefix p) (not (pr.kept p)) r.2 (not_from_true _ r.1), record { covers = r.3.covers }, each_in_domains g pr prefix p cs r.4)

  each_in_domains : (g : Graph) (pr : Pruning) (prefix : Prefix) (p : ℕ) (cs : Children) → EachRefutes g pr prefix p cs → EachRefutesIn g pr.standing (under g prefix) (choose (is_shut pr prefix) p) p cs
  each_in_domains g pr prefix p done r = tt
  each_in_domains g pr prefix p (child i t cs) r =
      (r.0, rw (← under-push g prefix p i, ← is_shut-push pr prefix p i) (in_domains g pr (prefix ++ (p, i) ∷ []) t r.1), each_in_domains g pr prefix p cs r.2)

mutual
  pub from_domains : (g : Graph) (pr : Pruning) (prefix : Prefix) (t : Tree) → RefutesIn g pr.standing (under g prefix) (is_shut pr prefix) t → Refutes g pr prefix t
  from_domains g pr prefix leaf r = r
  from_domains g pr prefix (branch p cs) r =
      let parts = or_parts (is_chosen prefix p) (not (pr.kept p)) r.1 in
      (r.0, not-false _ parts.1, parts.0, record { covers = r.2.covers }, each_from_domains g pr prefix p cs r.3)

  each_from_domains : (g : Graph) (pr : Pruning) (prefix : Prefix) (p : ℕ) (cs : Children) → EachRefutesIn g pr.standing (under g prefix) (choose (is_shut pr prefix) p) p cs → EachRefutes g pr prefix p cs
  each_from_domains g pr prefix p done r = tt
  each_from_domains g pr prefix p (child i t cs) r =
      (r.0, from_domains g pr (prefix ++ (p, i) ∷ []) t (rw (under-push g prefix p i, is_shut-push pr prefix p i) r.1), each_from_domains g pr prefix p cs r.2)
