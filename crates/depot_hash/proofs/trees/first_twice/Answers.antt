use Rattle.std.proofs.Common.{◌≡◌, take, sym, ◌∙◌, arith}
use Rattle.std.proofs.lemmas.Grind.{common_steps}
use Rattle.std.proofs.lemmas.Bool.{not-true, not-false}
use Rattle.std.specs.Option.{option_copied}
use Rattle.depot_hash.proofs.Keys.{met_more, first_if_new, first_if_met}
use Rattle.depot_hash.proofs.trees.first_twice.Goals as goal
use Rattle.depot_hash.proofs.trees.first_twice.Goals.{then-not-branch, else-not-branch}

pub loop-entry-preserved : goal.loop-entry-preserved
loop-entry-preserved c =
    let e = c.entry-item.result in
    let i = c.loop-entry.entry-index in
    let before = c.loop-entry.invariant.first in
    let met = c.loop-entry.invariant.met e.name in
    let added = rw c.of_name.ensures at c.in_ok-insert.ensures.added in
    record {
      met = met_more c.args.entries.now i e c.loop-entry.met c.insert.new.self c.loop-entry-test.true c.entry-item.is c.loop-entry.invariant.met (rw c.of_name.ensures at c.in_ok-insert.ensures.updates);
      first = elim c.if-not-branch.branch [
        | then-not-branch w ↦
            let had = not-false _ (sym added ∙ w.if-not-branch.true) in
            rw (w.first-is, w.lesser.ensures) (first_if_met c.args.entries.now i e (option_copied c.loop-entry.first) c.loop-entry-test.true c.entry-item.is (sym met ∙ had) before)
        | else-not-branch w ↦
            let new = not-true _ (sym added ∙ w.if-not-branch.false) in
            rw w.first-is (first_if_new c.args.entries.now i e (option_copied c.loop-entry.first) c.loop-entry-test.true c.entry-item.is (sym met ∙ new) before)
      ];
    }

pub returns : goal.returns
returns c =
    let all : take c.loop-entry.entry-index c.args.entries.now ≡ c.args.entries.now = grind (arith, common_steps) in
    rw (all, c.in-None.is) at c.loop-entry.invariant.first
