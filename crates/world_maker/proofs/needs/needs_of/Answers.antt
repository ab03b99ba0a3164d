use Rattle.std.proofs.Common.{◌≡◌, ◌+◌, nat_lt, map, ap, sym, ◌∙◌, arith}
use Rattle.std.specs.List.{filter, range_with_len}
use Rattle.world_maker.specs.Draws.{stepped, drawn, state}
use Rattle.world_maker.specs.Drawn.{distinct, candidate, with_need}
use Rattle.world_maker.proofs.Once.{candidates_more}
use Rattle.world_maker.proofs.Orbit.{state_none, state_more}
use Rattle.world_maker.proofs.needs.needs_of.Goals as goal

pub tries-init : goal.tries-init
tries-init c =
    let x = c.args.draws.now.state in
    record { taken = c.new-needs.ensures.items; at = c.draw-tries.ensures.next ∙ ap stepped (sym (state_none x)) ∙ sym (state_more x 0) }

pub tries-preserved : goal.tries-preserved
tries-preserved c =
    let x = c.args.draws.now.state in
    let j = c.tries._try in
    let other : c.args.«package» + 1 + c.draw.result ≡ candidate x c.args.«package» j = ap (λ r. c.args.«package» + 1 + r) (c.draw.ensures.drawn ∙ ap (λ s. drawn s 20) c.tries.invariant.at) in
    record {
      taken = c.in_ok-push_need.ensures ∙ ap (λ d. with_need c.args.count d c.tries.needs.items) other
          ∙ ap (with_need c.args.count (candidate x c.args.«package» j)) c.tries.invariant.taken ∙ sym (candidates_more x c.args.«package» c.args.count j);
      at = c.draw.ensures.next ∙ ap stepped c.tries.invariant.at ∙ sym (state_more x (j + 1));
    }

pub returns-clause-drawn : goal.returns-clause-drawn
returns-clause-drawn c =
    let x = c.args.draws.now.state in
    let whole : c.tries._try ≡ c.draw-tries.result = omega (arith, c.tries-test.false, c.tries.auto._try-end) in
    c.tries.invariant.taken ∙ ap (λ n. distinct (filter (λ d. nat_lt d c.args.count) (map (candidate x c.args.«package») (range_with_len 0 n)))) (whole ∙ c.draw-tries.ensures.drawn)

pub returns-clause-next : goal.returns-clause-next
returns-clause-next c =
    let x = c.args.draws.now.state in
    let whole : c.tries._try ≡ c.draw-tries.result = omega (arith, c.tries-test.false, c.tries.auto._try-end) in
    let count : c.tries._try + 1 ≡ 1 + drawn x 4 = omega (arith, whole, c.draw-tries.ensures.drawn) in
    c.tries.invariant.at ∙ ap (state x) count
