use Rattle.std.proofs.Common.{◌≡◌, ◌+◌, [], ◌∷◌, ◌++◌, map, ap, sym, ◌∙◌, arith}
use Rattle.std.proofs.lemmas.List.{map-append}
use Rattle.std.proofs.lemmas.List.FromFn.{map-range_with_len_more}
use Rattle.std.specs.List.{range_with_len}
use Rattle.world_maker.specs.Draws.{drawn, state}
use Rattle.world_maker.specs.Drawn.{needs_at, needs_from, asked}
use Rattle.world_maker.proofs.Orbit.{state_none, state_plus, asked_none, asked_more}
use Rattle.world_maker.proofs.needs.all_needs.Goals as goal

pub needs-init : goal.needs-init
needs-init c =
    let x = c.args.draws.now.state in
    record { taken = ap (map (λ needs. needs.items)) c.new-all.ensures.items; at = sym (ap (state x) (asked_none x) ∙ state_none x) }

pub needs-preserved : goal.needs-preserved
needs-preserved c =
    let x = c.args.draws.now.state in
    let k = c.needs.«package» in
    let here = c.needs.invariant.at in
    record {
      taken = ap (map (λ needs. needs.items)) c.in_ok-push.ensures.items
          ∙ map-append (λ needs. needs.items) c.needs.all.items (c.in_ok-needs_of.field-0 ∷ [])
          ∙ ap (λ xs. xs ++ c.in_ok-needs_of.field-0.items ∷ []) c.needs.invariant.taken
          ∙ ap (λ row. map (needs_at x c.args.count) (range_with_len 0 k) ++ row ∷ []) (c.in_ok-needs_of.ensures.drawn ∙ ap (λ s. needs_from s k c.args.count) here)
          ∙ sym (map-range_with_len_more (needs_at x c.args.count) 0 k k (omega arith));
      at = c.in_ok-needs_of.ensures.next ∙ ap (λ s. state s (1 + drawn s 4)) here ∙ state_plus x (asked x k) (1 + drawn (state x (asked x k)) 4) ∙ ap (state x) (sym (asked_more x k));
    }

pub returns-clause-drawn : goal.returns-clause-drawn
returns-clause-drawn c =
    let whole : c.needs.«package» ≡ c.args.count = omega (arith, c.needs-test.false, c.needs.auto.package-end) in
    c.needs.invariant.taken ∙ ap (λ n. map (needs_at c.args.draws.now.state c.args.count) (range_with_len 0 n)) whole

pub returns-clause-next : goal.returns-clause-next
returns-clause-next c =
    let whole : c.needs.«package» ≡ c.args.count = omega (arith, c.needs-test.false, c.needs.auto.package-end) in
    c.needs.invariant.at ∙ ap (λ n. state c.args.draws.now.state (asked c.args.draws.now.state n)) whole
