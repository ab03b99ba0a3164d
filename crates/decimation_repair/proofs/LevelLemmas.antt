-- The laws of weights of three levels that the choice rests on.
use Rattle.std.specs.Prelude.{ℤ, pos, ◌+ℤ◌}
use Rattle.std.proofs.Common.{◌≡◌, ◌∙◌}
use Rattle.std.specs.Ordering.{int_cmp}
use Rattle.std.specs.Cmp.{IsTotalOrder, on_total, then_total, int_cmp_total}
use Rattle.std.specs.declared.cmp.Ordering.TheVariants.{Equal}
use Rattle.lex_weights.specs.declared.level.Level.{Level}
use Rattle.lex_weights.specs.LevelLaws.{added_comm, added_zero, same_where_equal}
use Rattle.lex_weights.specs.LexLaws.{lex_same}
use Rattle.decimation_repair.specs.Levels.{Lower, Levels, zero_levels, plus_levels, compare_lower, compare_levels}

pub compare-total : IsTotalOrder compare_levels
compare-total = then_total (on_total (λ (a : Levels). a.0.0) int_cmp_total) (then_total (on_total (λ (a : Levels). a.1.0.0) int_cmp_total) (on_total (λ (a : Levels). a.1.1.0) int_cmp_total))

level-same : (a b : Level) → int_cmp a.0 b.0 ≡ Equal → a ≡ b
level-same a b e = λ i. record { 0 = same_where_equal a.0 b.0 e i }

lower-same : (a b : Lower) → compare_lower a b ≡ Equal → a ≡ b
lower-same a b e =
    let both = lex_same (λ (x y : Level). int_cmp x.0 y.0) level-same a.0.0 b.0.0 a.1 b.1 e in
    λ i. record { 0 = record { 0 = both.0 i }; 1 = both.1 i }

pub tied-same : (a b : Levels) → compare_levels a b ≡ Equal → a ≡ b
tied-same a b e =
    let both = lex_same compare_lower lower-same a.0.0 b.0.0 a.1 b.1 e in
    λ i. record { 0 = record { 0 = both.0 i }; 1 = both.1 i }

zero-added : (z : ℤ) → pos 0 +ℤ z ≡ z
zero-added z = added_comm (pos 0) z ∙ added_zero z

pub none-plus : (a : Levels) → plus_levels zero_levels a ≡ a
none-plus a = λ i. record { 0 = record { 0 = zero-added a.0.0 i }; 1 = record { 0 = record { 0 = zero-added a.1.0.0 i }; 1 = record { 0 = zero-added a.1.1.0 i } } }
