use Rattle.std.proofs.Common.{string_bytes}
use Rattle.pkg_world.specs.Stored.{leaf_view, node_view, files_view}
use Rattle.pkg_world.proofs.Kept.{slot_at, slot_found, no_slot_at, set_back, set_same, entered_there}
use Rattle.pkg_world.proofs.tree.+enter.Goals as goal

pub enter-add-requires : goal.enter-add-requires
enter-add-requires t c =
    let k = string_bytes c.args.name.now in
    let value = rw c.as_str.ensures.value at c.get_mut.ensures.value in
    rw c.get_mut.follows.holds-at-none (no_slot_at k c.args.entries.now c.get_mut.result c.in-None.is value)

pub enter-returns-in-Some : goal.enter-returns-in-Some
enter-returns-in-Some t c =
    let k = string_bytes c.args.name.now in
    let value = rw c.as_str.ensures.value at c.get_mut.ensures.value in
    let there = slot_at k c.args.entries.now c.get_mut.result c.in-Some.slot c.in-Some.is value in
    let w = c.change-node.result.0 in
    let kept = c.get_mut.follows.lender w in
    let set = rw c.as_str.ensures.value at (c.get_mut.follows.holds w).0 in
    entered_there (leaf_view c.args.leaf) k _ (files_view c.args.entries.now) (files_view kept) (node_view c.in-Some.slot.now) (node_view w) c.change-node.result.1
    (slot_found k c.args.entries.now c.in-Some.slot.now there)
    (rw c.take.ensures at c.change-node.ensures)
    (set_back c.args.name.now c.args.entries.now kept w c.in-Some.slot.now c.get_mut.ensures.ordered there set)
    (set_same k c.args.entries.now kept w c.in-Some.slot.now there set)
