use Rattle.version_graph.specs.Domain.{has}
use Rattle.graph_pruning.proofs.ReachLemmas.{none_kept, nothing_reached, kept_when_spread}
use Rattle.graph_pruning.proofs.reaching.drop_unreachable.Goals as goal

pub returns-then-not-are_filled-clause-kept : goal.returns-then-not-are_filled-clause-kept
returns-then-not-are_filled-clause-kept c =
    let e = c.if-not-are_filled.ensures in
    none_kept c.args.instance.now (has c.args.domains.now) _ _ c.in_ok-marks.ensures e.0 e.1 e.2

pub spread-requires-clause-reaching : goal.spread-requires-clause-reaching
spread-requires-clause-reaching c =
    c.in_ok-add_all.ensures.keeps c.args.instance.now (has c.args.domains.now)
    (nothing_reached c.args.instance.now (has c.args.domains.now) _ _ c.in_ok-marks.ensures c.packages.ensures.count c.new.ensures.items)
    (λ set s k below. s.roots _ (c.requires.starts.sound k below))

pub returns-clause-kept : goal.returns-clause-kept
returns-clause-kept c =
    kept_when_spread c.args.instance.now (has c.args.domains.now) c.spread.new.self c.args.roots.now c.if-not-are_filled.ensures c.requires.starts
    (λ k below. c.in_ok-spread.ensures.grows.marks _ (c.in_ok-add_all.ensures.here k below))
    c.in_ok-spread.ensures.reaching c.in_ok-spread.ensures.done
