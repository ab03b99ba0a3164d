-- One identifier is in order.
use Rattle.std.proofs.Common.{ℕ, List, [], ◌∷◌}
use Rattle.std.specs.List.Sorted.{IsStrictlySortedBy}
use Rattle.offer_terms.specs.ById.{AreRising}

pub one_rises : (id : List ℕ) → AreRising (id ∷ [])
unfolding IsStrictlySortedBy
one_rises id = (tt, tt)
