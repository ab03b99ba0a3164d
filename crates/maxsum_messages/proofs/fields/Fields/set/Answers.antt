use Rattle.std.proofs.Common.{◌≡◌, ◌^◌, ◌<◌, ◌∙◌, ℕ, ap, subst, sym, cond, Bool, true, false, arith, length, get_or, []}
use Rattle.version_graph.specs.Graph.{is_state}
use Rattle.maxsum_messages.proofs.Rows.{cell, cell-written}
use Rattle.maxsum_messages.proofs.fields.Fields.set.Goals as goal
use Rattle.maxsum_messages.proofs.fields.Fields.set.Goals.{After-set}
use Rattle.maxsum_messages.proofs.fields.Fields.set.Given.{Over}

after : (g : Over) (c : After-set g) (q j : ℕ) →
    cell g.W.Weight.none c.set.new.self q j ≡ cond (is_state q j c.args.p c.args.i) c.args.w (cell g.W.Weight.none c.self.inside.grid q j)
after g c q j =
    let known : c.args.p < length c.self.inside.grid = omega (arith, c.requires.known, ap length c.self.view_is) in
    let there : c.args.i < length (get_or c.self.inside.grid c.args.p []) = omega (arith, c.requires.state, ap (λ f. length (get_or f c.args.p [])) c.self.view_is) in
    ap (λ f. cell g.W.Weight.none f q j) c.set.ensures
    ∙ cell-written g.W.Weight.none c.self.inside.grid c.args.p c.args.i c.args.w q j known there

pub returns-clause-set : goal.returns-clause-set
returns-clause-set g c q j =
    after g c q j ∙ ap (λ f. cond (is_state q j c.args.p c.args.i) c.args.w (cell g.W.Weight.none f q j)) c.self.view_is

either : {W : Type 0} (P : W → Type 0) (b : Bool) (v w : W) → P v → P w → P (cond b v w)
either P true v w h k = h
either P false v w h k = k

pub invariant_of-self : goal.invariant_of-self
invariant_of-self g c = record {
  at = λ q j.
      subst (g.W.Weight.is_within (2 ^ 24)) (sym (after g c q j))
      (either (g.W.Weight.is_within (2 ^ 24)) (is_state q j c.args.p c.args.i) c.args.w (cell g.W.Weight.none c.self.inside.grid q j) c.requires.small (c.self.invariant.at q j));
}
