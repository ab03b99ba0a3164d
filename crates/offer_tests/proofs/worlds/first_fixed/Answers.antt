use Rattle.std.proofs.Common.{[], ◌∷◌, ◌++◌, map, sym, subst}
use Rattle.offer_terms.specs.ById.{AreRising}
use Rattle.offer_tests.proofs.OneId.{one_rises}
use Rattle.offer_tests.proofs.worlds.first_fixed.Goals as goal

pub push-requires : goal.push-requires
push-requires c =
    let fixed = c.in_ok-fixed_copy.field-0 in
    subst (λ items. AreRising (map (λ it. it.uuid) (items ++ fixed ∷ []))) (sym c.make-list.ensures.items) (one_rises fixed.uuid)
