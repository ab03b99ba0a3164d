use Rattle.std.proofs.Common.{◌≡◌, ◌∙◌, ap, sym, arith, length, reverse}
use Rattle.refutation_log.specs.Moved.{top_of, take_child}
use Rattle.refutation_log.proofs.MovedLemmas.{none_left}
use Rattle.refutation_log.proofs.writing.next_child.Goals as goal

pub returns-in-None-clause-parent : goal.returns-in-None-clause-parent
returns-in-None-clause-parent c =
    let old = c.args.waiting.now.items in
    sym (ap (λ xs. top_of (reverse xs)) (none_left old (omega (arith, c.in-None.ensures.cases.0, c.args.waiting.now.ok.0))))

pub returns-in-None-clause-waiting : goal.returns-in-None-clause-waiting
returns-in-None-clause-waiting c =
    let old = c.args.waiting.now.items in
    let new = c.pop.new.self.items in
    ap reverse (none_left new (omega (arith, c.in-None.ensures.cases.1, c.pop.new.self.ok.0)))
    ∙ sym (ap (λ xs. take_child (reverse xs)) (none_left old (omega (arith, c.in-None.ensures.cases.0, c.args.waiting.now.ok.0))))
