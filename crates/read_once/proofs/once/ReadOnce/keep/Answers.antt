use Rattle.read_once.proofs.Truth.{kept_is_true, unchanged_is_true, on_either}
use Rattle.read_once.proofs.once.ReadOnce.keep.Goals as goal

pub invariant_of-self : goal.invariant_of-self
invariant_of-self g c =
    let before = c.args.self.now in
    let after = c.keep.new.self in
    record {
      true_so_far =
          on_either _ _ _ _ c.keep.result c.keep.ensures.ok c.keep.ensures.err (kept_is_true _ _ _ before.seen after c.keep.ensures.plain c.requires.held before.true_so_far) (unchanged_is_true _ before.seen after before.true_so_far);
    }
