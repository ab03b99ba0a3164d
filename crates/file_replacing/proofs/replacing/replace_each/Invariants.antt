-- How the rest is replaced from here is how all are from the start.
use Rattle.std.proofs.Common.{◌≡◌, ◌≤◌, Option, Result, drop, map}
use Rattle.pkg_world.specs.Tree.{Files}
use Rattle.command_answers.specs.declared.status.Status.{Status}
use Rattle.command_answers.specs.Endings.{said_write}
use Rattle.file_replacing.specs.Replacing.{Replaces}
use Rattle.file_replacing.proofs.replacing.replace_each.Given as goal

abbrev pub invariant-loop-write : goal.invariant-loop-write
invariant-loop-write g l =
    ((new : Option Files) (answer : Result (Unit {0}) Status) → Replaces (map said_write (drop l.write-index l.writes)) (g.S.Store.files l.store) new answer
    → Replaces (map said_write l.writes) (g.S.Store.files l.initial.store) new answer) ×
    (l.write-index ≡ 0 → g.S.Store.write_faults l.store ≡ g.S.Store.write_faults l.initial.store) ×
    (g.S.Store.write_faults l.initial.store ≤ g.S.Store.write_faults l.store) ×
    (g.S.Store.read_faults l.store ≡ g.S.Store.read_faults l.initial.store)
