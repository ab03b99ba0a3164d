use Rattle.std.proofs.Common.{◌≡◌, ◌∙◌, ◌<◌, ℕ, true, arith, ap, sym, length, get_or, inl, inr}
use Rattle.std.proofs.lemmas.Bool.{cases_lt}
use Rattle.std.proofs.lemmas.Grind.{get_or_default_zero}
use Rattle.version_graph.specs.Graph.{is_forbidden}
use Rattle.version_graph.specs.Part.{package_of, states_of, state_of}
use Rattle.version_graph.specs.Copied.{is_forbidden_at}
use Rattle.version_graph.proofs.PartLemmas.{copies-on}
use Rattle.version_graph.proofs.graph.Instance.copy_pairs.Goals as goal

pub loop-q-preserved : goal.loop-q-preserved
loop-q-preserved c =
    let g = c.args.self.now in
    let m = c.args.part.now in
    let more = c.in_ok-copy_near.ensures.copies in
    record {
      copies = copies-on g m c.args.builder.now c.loop-q.builder c.copy_near.new.builder c.loop-q.invariant.copies more;
      here = λ n k i j below before number first second e. elim (cases_lt n c.loop-q.q-index) [
        | inl l ↦ more.forbidden c.args.p i k j (c.loop-q.invariant.here n k i j l before number first second e)
        | inr l ↦
            let same : n ≡ c.loop-q.q-index = omega (arith, below, l) in
            c.in_ok-copy_near.ensures.here k i j before (number ∙ ap (λ x. get_or c.neighbours-near.result.now x 0) same) first second e
      ];
    }

pub returns-clause-here : goal.returns-clause-here
returns-clause-here c i q j before first second e =
    let g = c.args.self.now in
    let m = c.args.part.now in
    let near = c.neighbours-near.result.now in
    let at : is_forbidden g c.package.result (state_of m c.args.p i) (package_of m q) (state_of m q j) ≡ is_forbidden_at g m c.args.p i q j =
    λ n. is_forbidden g (c.package.ensures n) (state_of m c.args.p i) (package_of m q) (state_of m q j) in
    let there = c.neighbours-near.ensures.whole (state_of m c.args.p i) (package_of m q) (state_of m q j) (at ∙ e) in
    let number : package_of m q ≡ get_or near there.0 0 = sym there.2 ∙ get_or_default_zero near there.0 (package_of m q) there.1 in
    c.loop-q.invariant.here there.0 q i j (omega (arith, there.1, c.loop-q-test.false)) before number first second e
