use Rattle.std.proofs.Common.{◌≡◌, ◌*◌, [], ◌∷◌, ◌++◌, map, length, ap, sym, ◌∙◌, arith}
use Rattle.std.proofs.lemmas.List.FromFn.{map-range_with_len_more}
use Rattle.std.specs.List.{range_with_len}
use Rattle.world_maker.specs.Draws.{stepped, state}
use Rattle.world_maker.specs.Drawn.{span_at, span_of}
use Rattle.world_maker.proofs.Orbit.{state_none, state_two}
use Rattle.world_maker.proofs.ranges.spans_of.Goals as goal

pub spans-init : goal.spans-init
spans-init c = record { taken = c.new-spans.ensures.items; at = sym (state_none c.args.draws.now.state) }

pub spans-preserved : goal.spans-preserved
spans-preserved c =
    let x = c.args.draws.now.state in
    let n = c.spans.place in
    let f = span_of x c.args.starts.now c.args.needs.now in
    record {
      taken = c.in_ok-push.ensures.items ∙ ap (λ xs. xs ++ c.draw_span.result ∷ []) c.spans.invariant.taken
          ∙ ap (λ r. map f (range_with_len 0 n) ++ r ∷ []) (c.draw_span.ensures.drawn ∙ ap (λ s. span_at s c.start_of-start.result) c.spans.invariant.at ∙ ap (span_at (state x (2 * n))) c.start_of-start.ensures.found)
          ∙ sym (map-range_with_len_more f 0 n n (omega arith));
      at = c.draw_span.ensures.next ∙ ap (λ s. stepped (stepped s)) c.spans.invariant.at ∙ sym (state_two x n);
    }

pub returns-clause-drawn : goal.returns-clause-drawn
returns-clause-drawn c =
    let whole : c.spans.place ≡ 8 * length c.args.needs.now = omega (arith, c.spans-test.false, c.spans.auto.place-end) in
    c.spans.invariant.taken ∙ ap (λ n. map (span_of c.args.draws.now.state c.args.starts.now c.args.needs.now) (range_with_len 0 n)) whole

pub returns-clause-next : goal.returns-clause-next
returns-clause-next c =
    let whole : 2 * c.spans.place ≡ 16 * length c.args.needs.now = omega (arith, c.spans-test.false, c.spans.auto.place-end) in
    c.spans.invariant.at ∙ ap (state c.args.draws.now.state) whole
