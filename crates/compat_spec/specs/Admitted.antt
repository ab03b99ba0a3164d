-- What a specifier or a set of ranges holds, as one of them stands in an entry.
use Rattle.std.specs.Prelude.{◌≡◌, ℕ, Bool, List}
use Rattle.compat_spec.specs.declared.allowed.Allowed.{Allowed}
use Rattle.compat_spec.specs.declared.allowed.Allowed.TheVariants as kinds
use Rattle.compat_spec.specs.Meaning.{specifier_holds}
use Rattle.compat_spec.specs.RangeMeaning.{ranges_hold}

abbrev pub allowed_holds : Allowed → List ℕ → Bool
allowed_holds (kinds.Spec parts) triple = specifier_holds parts triple
allowed_holds (kinds.Ranges set) triple = ranges_hold set.items triple

-- the same parts, or the same ranges
abbrev pub SameAllowed : Allowed → Allowed → Type 0
SameAllowed (kinds.Spec parts) (kinds.Spec others) = others ≡ parts
SameAllowed (kinds.Ranges set) (kinds.Ranges other) = other.items ≡ set.items
SameAllowed (kinds.Spec parts) (kinds.Ranges other) = ⊥
SameAllowed (kinds.Ranges set) (kinds.Spec others) = ⊥
