use Rattle.std.proofs.Common.{◌∙◌, refl}
use Rattle.graph_pruning.specs.Marked.{pruning_of}
use Rattle.refutation_log.proofs.Standing.{standing_known, standing_offered}
use Rattle.refutation_log.proofs.scratch.RefuteScratch.make.Goals as goal

pub returns : goal.returns
returns c =
    let g = c.args.instance.now in
    let p = c.in_ok-kept.ensures.pruned in
    record {
      fits = record {
        domains = c.undo_to.ensures.keeps g c.in_ok-kept.ensures.keeps;
        missing = c.in_ok-missing.ensures.fresh c.in_ok-missed.missed c.in_ok-missed.ensures;
        shut = c.in_ok-shut.ensures.each;
        whole = λ q i _ offered. c.in_ok-missing.ensures.offered q i ∙ offered;
        shape = p.shape;
        known = standing_known g p.closed _ _ p.pruning;
        offered = standing_offered g p.closed _ _ c.in_ok-shut.shut.items p.pruning c.in_ok-shut.ensures.shut;
      };
      full = c.undo_to.ensures.notes;
      pruning = pruning_of p.closed _ _;
      prunes = p.pruning;
      stands = refl;
      free = c.in_ok-shut.ensures.shut;
    }
