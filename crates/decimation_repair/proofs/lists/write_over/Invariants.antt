use Rattle.std.proofs.Common.{◌≡◌, ◌≤◌, take, vec_capacity}
use Rattle.decimation_repair.proofs.lists.write_over.Given as goal

abbrev pub invariant-loop-item : goal.invariant-loop-item
invariant-loop-item g l = record {
  items : l.list.items ≡ take l.item-index l.items;
  room : vec_capacity l.fn.list ≤ vec_capacity l.list;
}
