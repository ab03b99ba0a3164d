use Rattle.std.proofs.Common.{◌≡◌, ◌∙◌, [], ap, subst, sym, slice_index_or, false}
use Rattle.version_graph.specs.Family.{IsBelow, under}
use Rattle.version_graph.specs.Domain.{has}
use Rattle.graph_pruning.specs.Marked.{standing_in}
use Rattle.refutation_log.specs.Scratch.{marks}
use Rattle.refutation_log.proofs.Holding.{full_domains}
use Rattle.refutation_log.proofs.Whole.{no_refutation_of_nothing, no_refutation_with_state, whole_is_refutation}
use Rattle.refutation_log.proofs.scratch.RefuteScratch.accepts.Goals as goal

pub returns-in_default-clause-exact : goal.returns-in_default-clause-exact
returns-in_default-clause-exact c =
    (λ e. absurd (cc), λ r. absurd (no_refutation_of_nothing _ _ c.in_default.ensures.cases r))

pub returns-then-is_some-clause-exact : goal.returns-then-is_some-clause-exact
returns-then-is_some-clause-exact c =
    (λ e. absurd (cc), λ r. absurd (no_refutation_with_state _ c.in-Some.first.now c.args.nodes.now _ c.in-Some.ensures.cases.0 (sym c.if-is_some.ensures) r))

pub returns-clause-exact : goal.returns-clause-exact
returns-clause-exact c =
    let g = c.args.instance.now in
    let s = c.args.self.now in
    let r = c.requires in
    let d = has s.board.domains in
    let full : d ≡ under g [] = full_domains _ _ _ r.fits.domains r.full in
    let same : IsBelow g d d = record { below = λ p i k. k } in
    let one = whole_is_refutation c.one_pruning.ensures g r.pruning (standing_in s.classes) d (marks s.board) c.in-Some.first.now c.args.nodes.now _
    r.prunes r.stands r.free c.in-Some.ensures.cases.0 (sym c.if-is_some.ensures) (subst (IsBelow g d) full same) (subst (λ f. IsBelow g f d) full same) in
    let whole = c.accepts.ensures.whole in
    (λ e. one.0 (whole.0 e), λ t. whole.1 (one.1 t))

pub returns-clause-made : goal.returns-clause-made
returns-clause-made c =
    let r = c.requires in
    let back = c.accepts.ensures.restored in
    record {
      fits = c.accepts.ensures.fits;
      full = back.trail ∙ r.full;
      pruning = r.pruning;
      prunes = r.prunes;
      stands = r.stands;
      free = λ p known. ap (λ xs. slice_index_or xs p false) back.shut ∙ r.free p known;
    }
