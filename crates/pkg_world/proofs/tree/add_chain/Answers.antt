use Rattle.std.proofs.Common.{◌≡◌, string_bytes, arith}
use Rattle.std.proofs.lemmas.Grind.{common_steps}
use Rattle.pkg_world.proofs.Kept.{entries_view-insert_entry}
use Rattle.pkg_world.proofs.tree.add_chain.Goals as goal

pub returns-clause-ok : goal.returns-clause-ok
returns-clause-ok c =
    let same : string_bytes c.in_ok-clone.field-0 ≡ string_bytes c.args.name.now = grind (arith, common_steps) in
    rw c.in_ok-node.ensures (grind (arith, common_steps, entries_view-insert_entry))
