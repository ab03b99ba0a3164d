use Rattle.std.proofs.Common.{◌∙◌, ap, arith, get_or, inl, inr}
use Rattle.std.proofs.lemmas.Bool.{cases_eq}
use Rattle.graph_pruning.specs.Marked.{marked}
use Rattle.graph_pruning.proofs.ReachLemmas.{grows-trans}
use Rattle.graph_pruning.proofs.reaching.Reached.add_all.Goals as goal

pub loop-number-preserved : goal.loop-number-preserved
loop-number-preserved c =
    let inv = c.loop-number.invariant in
    let new = c.in_ok-add.ensures in
    record {
      grows = grows-trans _ _ _ inv.grows new.grows;
      here = λ k below. elim (cases_eq k c.loop-number.number-index) [
        | inl e ↦ ap (λ x. marked c.add.new.self.marks.items (get_or c.args.numbers.now x 0)) e ∙ new.here
        | inr apart ↦ new.grows.marks (get_or c.args.numbers.now k 0) (inv.here k (omega (arith, below, apart)))
      ];
      keeps = λ g f r sets. new.keeps g f (inv.keeps g f r sets) (λ set s. sets set s c.loop-number.number-index (omega arith));
    }
