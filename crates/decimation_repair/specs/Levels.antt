-- The weights of the search, which have three levels: what their type does, written out.
use Rattle.std.specs.Prelude.{pos, ◌+ℤ◌, ◌-ℤ◌}
use Rattle.std.specs.Ordering.{int_cmp, ordering_then}
use Rattle.std.specs.declared.cmp.Ordering.{Ordering}
use Rattle.lex_weights.specs.declared.level.Level.{Level}
use Rattle.lex_weights.specs.declared.lex.Lex.{Lex}
use Rattle.lex_weights.specs.Levels.{clipped}
use Rattle.lex_weights.specs.LexLaws.{rest}

abbrev pub Lower : Type 0
Lower = Lex Level Level

abbrev pub Levels : Type 0
Levels = Lex Level Lower

-- ---- one level

abbrev pub none_level : Level
none_level = record { 0 = pos 0 }

abbrev pub clip_level : Level → Level
clip_level a = record { 0 = clipped a.0 }

-- ---- two levels

abbrev pub none_lower : Lower
none_lower = record { 0 = none_level; 1 = none_level }

abbrev pub plus_lower : Lower → Lower → Lower
plus_lower a b = record { 0 = record { 0 = a.0.0 +ℤ b.0.0 }; 1 = record { 0 = a.1.0 +ℤ b.1.0 } }

abbrev pub minus_lower : Lower → Lower → Lower
minus_lower a b = record { 0 = record { 0 = a.0.0 -ℤ b.0.0 }; 1 = record { 0 = a.1.0 -ℤ b.1.0 } }

abbrev pub clip_lower : Lower → Lower
clip_lower a = record { 0 = record { 0 = clipped a.0.0 }; 1 = rest clip_level none_level (clipped a.0.0) a.1 }

abbrev pub compare_lower : Lower → Lower → Ordering
compare_lower a b = ordering_then (int_cmp a.0.0 b.0.0) (int_cmp a.1.0 b.1.0)

-- ---- three levels

abbrev pub zero_levels : Levels
zero_levels = record { 0 = none_level; 1 = none_lower }

abbrev pub plus_levels : Levels → Levels → Levels
plus_levels a b = record { 0 = record { 0 = a.0.0 +ℤ b.0.0 }; 1 = plus_lower a.1 b.1 }

abbrev pub minus_levels : Levels → Levels → Levels
minus_levels a b = record { 0 = record { 0 = a.0.0 -ℤ b.0.0 }; 1 = minus_lower a.1 b.1 }

abbrev pub clip_levels : Levels → Levels
clip_levels a = record { 0 = record { 0 = clipped a.0.0 }; 1 = rest clip_lower none_lower (clipped a.0.0) a.1 }

abbrev pub compare_levels : Levels → Levels → Ordering
compare_levels a b = ordering_then (int_cmp a.0.0 b.0.0) (compare_lower a.1 b.1)
