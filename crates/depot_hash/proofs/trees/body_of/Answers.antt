use Rattle.depot_hash.proofs.Keys.{lines_seen}
use Rattle.depot_hash.proofs.trees.body_of.Goals as goal

pub loop-entry-init : goal.loop-entry-init
loop-entry-init c = rw (c.new-body.ensures.items, c.into_iter-entry-iterator.ensures.into_iter_gives, c.values-entry-items.ensures.rest) (lines_seen c.args.placed.now.entries)
