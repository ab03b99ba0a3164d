use Rattle.std.proofs.Common.{◌≡◌, [], ◌++◌, drop, arith, map, ap, sym, ◌∙◌, append-nil}
use Rattle.std.proofs.lemmas.Grind.{common_steps}
use Rattle.offer_terms.specs.ById.{AreRising}
use Rattle.offer_terms.specs.Demanded.{fixed_said}
use Rattle.project_changes.specs.Fixing as spec
use Rattle.project_changes.proofs.Rising.{without-rises}
use Rattle.project_changes.proofs.fixing.without_fixed.Goals as goal

pub of-requires : goal.of-requires
of-requires c =
    let items = c.items-items.result.now in
    let copies = c.loop-fixed.copies.items in
    let none : drop c.loop-fixed.fixed-index items ≡ [] = grind (arith, common_steps) in
    let rising : AreRising (map (λ it. it.uuid) items) = rw c.items-items.ensures.items c.items-items.ensures.rising in
    without-rises items copies rising c.args.uuid.now
    (sym (c.loop-fixed.invariant ∙ ap (λ rest. map fixed_said copies ++ spec.without_fixed c.args.uuid.now (map fixed_said rest)) none ∙ append-nil (map fixed_said copies)))
