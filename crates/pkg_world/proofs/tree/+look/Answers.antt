use Rattle.std.proofs.Common.{string_bytes}
use Rattle.pkg_world.specs.Stored.{files_view}
use Rattle.pkg_world.proofs.Kept.{parts-front, found_at, missing_at, look_on, look_none, node_view-File, past_file}
use Rattle.pkg_world.proofs.tree.+look.Goals as goal

pub look-returns-in-Some : goal.look-returns-in-Some
look-returns-in-Some t c =
    let k = string_bytes c.part-item.result in
    let front = parts-front c.args.parts.now c.part-item.result _ c.in-len1-up.len_at_least c.part-item.is in
    let value = rw c.as_str.ensures.value at c.get.ensures.value in
    look_on _ _ k (files_view c.args.entries.now) _ _ front (found_at k c.args.entries.now c.get.result c.in-Some.node c.in-Some.is value) c.look_in.ensures

pub look-returns-in-None : goal.look-returns-in-None
look-returns-in-None t c =
    let k = string_bytes c.part-item.result in
    let front = parts-front c.args.parts.now c.part-item.result _ c.in-len1-up.len_at_least c.part-item.is in
    let value = rw c.as_str.ensures.value at c.get.ensures.value in
    look_none _ _ k (files_view c.args.entries.now) front (missing_at k c.args.entries.now c.get.result c.in-None.is value)

pub look_in-returns-else-is_empty : goal.look_in-returns-else-is_empty
look_in-returns-else-is_empty t c =
    rw (c.in-File.is, node_view-File c.in-File.bytes) (past_file c.args.parts.now c.in-File.bytes (rw c.is_empty.ensures at c.if-is_empty.false))
