-- The list itself, where the own package isn't among them.
use Rattle.std.proofs.Common.{◌≡◌, false, sym, ◌∙◌}
use Rattle.std.specs.List.{list_any}
use Rattle.std.specs.Str.{bytes_eq}
use Rattle.package_offers.proofs.OfferLemmas.{others-kept}
use Rattle.package_offers.proofs.offer_parts.without.Goals as goal

pub returns-then-has_id : goal.returns-then-has_id
returns-then-has_id c = rw c.items-then-has_id.ensures.items at c.without_own.ensures

pub returns-else-has_id : goal.returns-else-has_id
returns-else-has_id c =
    let none : list_any (λ p. bytes_eq c.args.own.now p.1) c.args.ids.items ≡ false = rw c.items.ensures.items at (sym c.has_id.ensures ∙ c.if-has_id.false) in
    sym (others-kept c.args.own.now c.args.ids.items none)
