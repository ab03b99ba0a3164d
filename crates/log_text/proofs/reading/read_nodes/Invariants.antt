-- the nodes so far, and what the rest of the bytes means
use Rattle.std.proofs.Common.{◌≡◌, ◌+◌, ◌-◌, true}
use Rattle.std.specs.Prelude.{◌==◌}
use Rattle.pkg_world.specs.Each.{onto}
use Rattle.log_text.specs.Meant.{nodes_meant}
use Rattle.log_text.proofs.reading.read_nodes.Given as goal

abbrev pub invariant-loop-place : goal.invariant-loop-place
invariant-loop-place l = nodes_meant l.count true 2 l.bytes ≡ onto l.log.items (nodes_meant (l.count - l.place) (l.place == 0) (l.place + 2) l.rest)
