use Rattle.std.proofs.Common.{◌∙◌}
use Rattle.version_graph.specs.Domain.{has}
use Rattle.graph_pruning.specs.Marked.{pruning_of}
use Rattle.resolve_core.proofs.Classes.{has_states, all_listed, if_listed}
use Rattle.resolve_core.proofs.classing.classes_in.Goals as goal

pub classes_left-requires-clause-marks : goal.classes_left-requires-clause-marks
classes_left-requires-clause-marks c = c.in_ok-pruned.ensures.pruned.each

pub classes_left-requires-clause-made : goal.classes_left-requires-clause-made
classes_left-requires-clause-made c =
    has_states c.args.instance.now c.prune.new.domains c.in_ok-pruned.pruned.kept c.in_ok-pruned.pruned.classes c.in_ok-pruned.pruned.is_open c.prune.new.trail
    c.held_is_offered.ensures c.offered_is_known.ensures c.in_ok-pruned.ensures.keeps c.in_ok-pruned.ensures.pruned

pub returns : goal.returns
returns c =
    let pruned = c.in_ok-pruned.ensures.pruned in
    if_listed c.classes_left.result
    (λ table listed. record {
      «pruning» = pruning_of pruned.closed c.in_ok-pruned.pruned.kept c.in_ok-pruned.pruned.classes;
      prunes = pruned.pruning;
      listed = listed ∙ all_listed c.args.instance.now (has c.prune.new.domains) (pruning_of pruned.closed c.in_ok-pruned.pruned.kept c.in_ok-pruned.pruned.classes) pruned.domains;
    })
    c.classes_left.ensures
