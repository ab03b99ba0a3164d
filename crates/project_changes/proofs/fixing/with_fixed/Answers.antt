use Rattle.std.proofs.Common.{◌≡◌, [], ◌∷◌, ◌++◌, map, filter, ap, ◌∙◌}
use Rattle.std.proofs.lemmas.List.{map-append, append_assoc}
use Rattle.offer_terms.specs.ById.{AreRising}
use Rattle.offer_terms.specs.Demanded.{fixed_said}
use Rattle.project_changes.specs.Fixing as spec
use Rattle.project_changes.proofs.Rising.{with-rises}
use Rattle.project_changes.proofs.fixing.with_fixed.Goals as goal

pub of-requires : goal.of-requires
of-requires c =
    let items = c.items-items.result.now in
    let id = c.args.given.uuid in
    let front = filter (spec.is_before id) (map fixed_said items) in
    let back = filter (spec.is_behind id) (map fixed_said items) in
    let rising : AreRising (map (λ it. it.uuid) items) = rw c.items-items.ensures.items c.items-items.ensures.rising in
    let first : map fixed_said c.push_before.new.copies.items ≡ front = c.in_ok-push_before.ensures ∙ ap (λ es. map fixed_said es ++ front) c.make-copies.ensures.items in
    let then_it : map fixed_said c.push.new.self.items ≡ front ++ fixed_said c.args.given ∷ [] =
    ap (map fixed_said) c.in_ok-push.ensures.ok ∙ map-append fixed_said c.push_before.new.copies.items (c.args.given ∷ []) ∙ ap (λ es. es ++ fixed_said c.args.given ∷ []) first in
    with-rises items c.push_behind.new.copies.items rising (fixed_said c.args.given)
    (c.in_ok-push_behind.ensures ∙ ap (λ es. es ++ back) then_it ∙ append_assoc front (fixed_said c.args.given ∷ []) back)
