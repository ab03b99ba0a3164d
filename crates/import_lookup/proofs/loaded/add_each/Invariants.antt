-- What was kept so far stands behind what there was.
use Rattle.std.proofs.Common.{◌≡◌, ◌≤◌, IfSome}
use Rattle.std.specs.VecDeque.{deque_len}
use Rattle.pkg_world.specs.Each.{onto}
use Rattle.import_lookup.specs.Loading.{all_loaded}
use Rattle.import_lookup.proofs.loaded.add_each.Given as goal

abbrev pub invariant-envs : goal.invariant-envs
invariant-envs g l =
    (g.S.Store.files l.store ≡ g.S.Store.files l.initial.store) ×
    (g.S.Store.read_faults l.initial.store ≤ g.S.Store.read_faults l.store) ×
    (g.S.Store.write_faults l.store ≡ g.S.Store.write_faults l.initial.store) ×
    IfSome (g.S.Store.files l.initial.store) (λ all. onto l.initial.list.items (all_loaded all l.names.items l.fn.envs.items) ≡ onto l.list.items (all_loaded all l.names.items l.left.items))

abbrev pub decreases-envs : goal.decreases-envs
decreases-envs g l = deque_len l.left
