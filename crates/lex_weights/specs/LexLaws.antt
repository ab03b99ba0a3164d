-- The laws of two weights in order, from the laws of the second one.
use Rattle.std.specs.Prelude.{◌≡◌, ◌-◌, ◌^◌, ◌≤◌, ℤ, ◌+ℤ◌, ◌<ℤ◌, Bool, false, true, cond}
use Rattle.std.specs.Ordering.{is_gt, int_cmp, ordering_then, MatchOrdering}
use Rattle.std.specs.declared.cmp.Ordering.{Ordering}
use Rattle.std.specs.declared.cmp.Ordering.TheVariants.{Less, Equal, Greater}
use Rattle.std.specs.Cmp.{int_ranks, int_cmp_is}
use Rattle.std.proofs.Common.{arith, refl, sym, ap, subst, ◌∙◌, inl, inr}
use Rattle.lex_weights.specs.Levels.{clipped, is_limit, IsWithin}
use Rattle.lex_weights.specs.LevelLaws.{added_keeps_order, clipped_rises, clipped_inside, clipped_twice, inside_is_no_limit}

-- zero is within the limit too
pub none_below : 0 ≤ 2 ^ 40
none_below = omega arith

-- what stands after a clipped level: zero where that level is at the limit
abbrev pub rest : {B : Type 0} → (B → B) → B → ℤ → B → B
rest clip none z b = cond (is_limit z) none (clip b)

pub lex_keeps_order : {B : Type 0} (cmp : B → B → Ordering) (plus : B → B → B) → ((a b c : B) → cmp (plus a c) (plus b c) ≡ cmp a b) →
    (x y z : ℤ) (a b c : B) → ordering_then (int_cmp (x +ℤ z) (y +ℤ z)) (cmp (plus a c) (plus b c)) ≡ ordering_then (int_cmp x y) (cmp a b)
lex_keeps_order cmp plus keeps x y z a b c =
    ap (λ r. ordering_then r (cmp (plus a c) (plus b c))) (added_keeps_order x y z) ∙ ap (ordering_then (int_cmp x y)) (keeps a b c)

module _ {B : Type 0} (cmp : B → B → Ordering) (clip : B → B) (none : B) (itself : cmp none none ≡ Equal) (keeps : (a b : B) → is_gt (cmp a b) ≡ false → is_gt (cmp (clip a) (clip b)) ≡ false) where
  -- after one clipped level, the rests keep the order
  rest_keeps : (l : Bool) (a b : B) → is_gt (cmp a b) ≡ false → is_gt (cmp (cond l none (clip a)) (cond l none (clip b))) ≡ false
  rest_keeps true a b h = ap is_gt itself
  rest_keeps false a b h = keeps a b h

  lesser : (x y : ℤ) (a b : B) → x <ℤ y → is_gt (ordering_then (int_cmp (clipped x) (clipped y)) (cmp (rest clip none (clipped x) a) (rest clip none (clipped y) b))) ≡ false
  lesser x y a b h =
      elim (clipped_rises x y h) [
        | inl k ↦ ap (λ r. is_gt (ordering_then r (cmp (rest clip none (clipped x) a) (rest clip none (clipped y) b)))) (sym (int_cmp_is (clipped x) (clipped y) Less k))
        | inr k ↦
            subst (λ z. is_gt (ordering_then (int_cmp (clipped x) z) (cmp (rest clip none (clipped x) a) (rest clip none z b))) ≡ false) k.0
            (ap (λ r. is_gt (ordering_then r (cmp (rest clip none (clipped x) a) (rest clip none (clipped x) b)))) (sym (int_cmp_is (clipped x) (clipped x) Equal refl))
            ∙ ap (λ l. is_gt (cmp (cond l none (clip a)) (cond l none (clip b)))) k.1 ∙ ap is_gt itself)
      ]

  equal : (x : ℤ) (a b : B) → is_gt (cmp a b) ≡ false → is_gt (ordering_then (int_cmp (clipped x) (clipped x)) (cmp (rest clip none (clipped x) a) (rest clip none (clipped x) b))) ≡ false
  equal x a b h =
      ap (λ r. is_gt (ordering_then r (cmp (rest clip none (clipped x) a) (rest clip none (clipped x) b)))) (sym (int_cmp_is (clipped x) (clipped x) Equal refl))
      ∙ rest_keeps (is_limit (clipped x)) a b h

  by_rank : (x y : ℤ) (a b : B) (r : Ordering) → MatchOrdering r (x <ℤ y) (x ≡ y) (y <ℤ x) → is_gt (ordering_then r (cmp a b)) ≡ false →
      is_gt (ordering_then (int_cmp (clipped x) (clipped y)) (cmp (rest clip none (clipped x) a) (rest clip none (clipped y) b))) ≡ false
  by_rank x y a b Less m h = lesser x y a b m
  by_rank x y a b Equal m h = subst (λ z. is_gt (ordering_then (int_cmp (clipped x) (clipped z)) (cmp (rest clip none (clipped x) a) (rest clip none (clipped z) b))) ≡ false) m (equal x a b h)
  by_rank x y a b Greater m h = cc

  pub lex_clip_keeps_order : (x y : ℤ) (a b : B) → is_gt (ordering_then (int_cmp x y) (cmp a b)) ≡ false →
      is_gt (ordering_then (int_cmp (clipped x) (clipped y)) (cmp (rest clip none (clipped x) a) (rest clip none (clipped y) b))) ≡ false
  lex_clip_keeps_order x y a b h = by_rank x y a b (int_cmp x y) (int_ranks x y) h

-- two that compare as equal are the same, level by level
pub lex_same : {B : Type 0} (cmp : B → B → Ordering) → ((a b : B) → cmp a b ≡ Equal → a ≡ b) → (x y : ℤ) (a b : B) →
    ordering_then (int_cmp x y) (cmp a b) ≡ Equal → (x ≡ y) × (a ≡ b)
lex_same cmp same x y a b e = by_answer (int_cmp x y) (int_ranks x y) e
  where
    by_answer : (r : Ordering) → MatchOrdering r (x <ℤ y) (x ≡ y) (y <ℤ x) → ordering_then r (cmp a b) ≡ Equal → (x ≡ y) × (a ≡ b)
    by_answer Less m h = cc
    by_answer Equal m h = (m, same a b h)
    by_answer Greater m h = cc

-- clipping twice is clipping once, for the rest
pub rest_twice : {B : Type 0} (clip : B → B) (none : B) → ((b : B) → clip (clip b) ≡ clip b) → (z : ℤ) (b : B) →
    rest clip none (clipped (clipped z)) (rest clip none (clipped z) b) ≡ rest clip none (clipped z) b
rest_twice clip none twice z b = ap (λ y. rest clip none y (rest clip none (clipped z) b)) (clipped_twice z) ∙ by_limit (is_limit (clipped z))
  where
    by_limit : (l : Bool) → cond l none (clip (cond l none (clip b))) ≡ cond l none (clip b)
    by_limit true = refl
    by_limit false = twice b

-- a rest whose level lies inside the limit, and which is its own clip, stays as it is
pub rest_inside : {B : Type 0} (clip : B → B) (none : B) (z : ℤ) (b : B) → IsWithin (2 ^ 40 - 1) z → clip b ≡ b → rest clip none (clipped z) b ≡ b
rest_inside clip none z b h e = ap (λ l. cond l none (clip b)) (ap is_limit (clipped_inside z h) ∙ inside_is_no_limit z h) ∙ e

pub rest_within : {B : Type 0} (clip : B → B) (none : B) (IsSmall : B → Type 0) (b : B) (z : ℤ) → IsSmall none → IsSmall (clip b) → IsSmall (rest clip none z b)
rest_within clip none IsSmall b z h k = by_limit (is_limit z)
  where
    by_limit : (l : Bool) → IsSmall (cond l none (clip b))
    by_limit true = h
    by_limit false = k
