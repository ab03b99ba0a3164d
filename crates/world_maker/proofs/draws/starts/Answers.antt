use Rattle.std.proofs.Common.{◌≡◌, [], ◌∷◌, ◌++◌, ap, sym, ◌∙◌, arith}
use Rattle.world_maker.specs.Draws.{stepped, drawn, state}
use Rattle.world_maker.specs.Drawn.{starts_from}
use Rattle.world_maker.proofs.Orbit.{state_none, state_more, starts_more}
use Rattle.world_maker.proofs.draws.starts.Goals as goal

pub starts-init : goal.starts-init
starts-init c = record { taken = c.new-starts.ensures.items; at = sym (state_none c.args.draws.now.state) }

pub starts-preserved : goal.starts-preserved
starts-preserved c =
    let x = c.args.draws.now.state in
    let k = c.starts._package in
    record {
      taken = c.in_ok-push.ensures.items ∙ ap (λ xs. xs ++ c.draw.result ∷ []) c.starts.invariant.taken
          ∙ ap (λ r. starts_from x k ++ r ∷ []) (c.draw.ensures.drawn ∙ ap (λ s. drawn s 8) c.starts.invariant.at) ∙ sym (starts_more x k);
      at = c.draw.ensures.next ∙ ap stepped c.starts.invariant.at ∙ sym (state_more x k);
    }

pub returns-clause-drawn : goal.returns-clause-drawn
returns-clause-drawn c =
    let whole : c.starts._package ≡ c.args.count = omega (arith, c.starts-test.false, c.starts.auto._package-end) in
    c.starts.invariant.taken ∙ ap (starts_from c.args.draws.now.state) whole

pub returns-clause-next : goal.returns-clause-next
returns-clause-next c =
    let whole : c.starts._package ≡ c.args.count = omega (arith, c.starts-test.false, c.starts.auto._package-end) in
    c.starts.invariant.at ∙ ap (state c.args.draws.now.state) whole
