use Rattle.std.proofs.Common.{◌≡◌, [], map, ap, arith}
use Rattle.std.proofs.lemmas.Grind.{common_steps}
use Rattle.offer_terms.specs.Demanded.{fixed_said}
use Rattle.offer_catalog.specs.Catalogued.{fixed_of}
use Rattle.offer_catalog.proofs.InOrder.{entries-next, all-rising}
use Rattle.offer_catalog.proofs.fixed_list.fixed_list.Goals as goal

pub packages-preserved : goal.packages-preserved
packages-preserved c =
    let (said, ids) = c.packages.invariant in (
      entries-next fixed_of fixed_said _ c.packages.list.items _ c.fixed_of-fixed.result c.in-Some.entry c.packages.left.entries _ c.in-Some.ensures.removal c.fixed_of-fixed.ensures.said c.in_ok-push.ensures.ok said,
      entries-next (λ e. e.0) (λ it. it.uuid) _ c.packages.list.items _ c.fixed_of-fixed.result c.in-Some.entry c.packages.left.entries _ c.in-Some.ensures.removal c.fixed_of-fixed.ensures.uuid c.in_ok-push.ensures.ok ids,
    )

pub of-requires : goal.of-requires
of-requires c =
    let none : c.packages.left.entries ≡ [] = grind (arith, common_steps) in
    all-rising _ (map (λ it. it.uuid) c.packages.list.items) (map (λ e. e.0) c.packages.left.entries) c.len-count.ensures.ordered c.packages.invariant.1 (ap (map (λ e. e.0)) none)
