-- The laws of one level, over all whole numbers.
use Rattle.std.specs.Prelude.{◌≡◌, ℕ, ◌+◌, ◌-◌, ◌^◌, ◌≤◌, ℤ, pos, neg_ℤ, ◌+ℤ◌, ◌-ℤ◌, ◌<ℤ◌, false, true, ◌⊎◌}
use Rattle.std.specs.Ordering.{is_gt, int_cmp}
use Rattle.std.specs.declared.cmp.Ordering.TheVariants.{Equal}
use Rattle.std.proofs.Common.{arith, ap, inl, inr}
use Rattle.std.proofs.lemmas.Int.{ints, clamps, by_lt_z}
use Rattle.lex_weights.specs.Levels.{clipped, is_limit, IsWithin}

pub added_comm : (a b : ℤ) → a +ℤ b ≡ b +ℤ a
added_comm a b = omega (arith, ints)

pub added_assoc : (a b c : ℤ) → (a +ℤ b) +ℤ c ≡ a +ℤ (b +ℤ c)
added_assoc a b c = omega (arith, ints)

pub added_zero : (a : ℤ) → a +ℤ pos 0 ≡ a
added_zero a = omega (arith, ints)

pub taken_added : (a b : ℤ) → (a +ℤ b) -ℤ b ≡ a
taken_added a b = omega (arith, ints)

pub added_taken : (a b : ℤ) → (a -ℤ b) +ℤ b ≡ a
added_taken a b = omega (arith, ints)

pub added_keeps_order : (a b c : ℤ) → int_cmp (a +ℤ c) (b +ℤ c) ≡ int_cmp a b
added_keeps_order a b c = grind (arith, ints)

pub clipped_keeps_order : (a b : ℤ) → is_gt (int_cmp a b) ≡ false → is_gt (int_cmp (clipped a) (clipped b)) ≡ false
clipped_keeps_order a b h = grind (arith, ints, clamps)

pub clipped_twice : (a : ℤ) → clipped (clipped a) ≡ clipped a
clipped_twice a = omega (arith, ints, clamps)

pub clipped_inside : (a : ℤ) → IsWithin (2 ^ 40 - 1) a → clipped a ≡ a
clipped_inside a h = omega (arith, ints, clamps)

pub same_where_equal : (a b : ℤ) → int_cmp a b ≡ Equal → a ≡ b
same_where_equal a b e = grind (arith, ints)

pub zero_within : IsWithin 0 (pos 0)
zero_within = record { above = omega (arith, ints); below = omega (arith, ints) }

pub clipped_within : (a : ℤ) → IsWithin (2 ^ 40) (clipped a)
clipped_within a = record { above = omega (arith, ints, clamps); below = omega (arith, ints, clamps) }

pub added_within : (m n : ℕ) (a b : ℤ) → IsWithin m a → IsWithin n b → IsWithin (m + n) (a +ℤ b)
added_within m n a b h k = record { above = omega (arith, ints); below = omega (arith, ints) }

pub taken_within : (m n : ℕ) (a b : ℤ) → IsWithin m a → IsWithin n b → IsWithin (m + n) (a -ℤ b)
taken_within m n a b h k = record { above = omega (arith, ints); below = omega (arith, ints) }

pub within_more : (m n : ℕ) (a : ℤ) → IsWithin m a → m ≤ n → IsWithin n a
within_more m n a h l = record { above = omega (arith, ints); below = omega (arith, ints) }

-- of two levels that are clipped, the lesser stays less, or both are brought to the same limit
pub clipped_rises : (a b : ℤ) → a <ℤ b → (clipped a <ℤ clipped b) ⊎ ((clipped a ≡ clipped b) × (is_limit (clipped a) ≡ true))
clipped_rises a b h =
    by_lt_z (clipped a) (clipped b)
    (λ k. inl k)
    (λ k.
    let same : clipped a ≡ clipped b = omega (arith, ints, clamps) in
    inr (
      same,
      by_lt_z (neg_ℤ (pos (2 ^ 40))) (clipped a)
          (λ l. let top : clipped a ≡ pos (2 ^ 40) = omega (arith, ints, clamps) in ap is_limit top)
          (λ l. let bottom : clipped a ≡ neg_ℤ (pos (2 ^ 40)) = omega (arith, ints, clamps) in ap is_limit bottom),
    ))

-- strictly inside the limit no level is at it
pub inside_is_no_limit : (a : ℤ) → IsWithin (2 ^ 40 - 1) a → is_limit a ≡ false
inside_is_no_limit a h = grind (arith, ints)
