use Rattle.std.proofs.Common.{◌≡◌, ◌∷◌, arith}
use Rattle.std.proofs.lemmas.Grind.{common_steps}
use Rattle.package_tables.proofs.Walks.{TomlEntry}
use Rattle.registry_tables.proofs.Packages.{packages-next, refused-next}
use Rattle.registry_tables.proofs.registry.read_packages.Goals as goal

pub returns-in-Err : goal.returns-in-Err
returns-in-Err c =
    let (can, finite, same) = c.members.invariant in
    let e : TomlEntry = (c.in-Some.key.now, c.in-Some.value.now) in
    let iter : c.members.key-iterator ≡ e ∷ c.next.new.self = grind (arith, common_steps) in
    refused-next c.in-Err.stop c.args.path.now.folder c.members.list c.members.key-iterator c.next.new.self e _ iter
    (rw c.as_str.ensures.value at c.in-Err.ensures.read) same

pub members-preserved : goal.members-preserved
members-preserved c =
    let (can, finite, same) = c.members.invariant in
    let e : TomlEntry = (c.in-Some.key.now, c.in-Some.value.now) in
    let iter : c.members.key-iterator ≡ e ∷ c.next.new.self = grind (arith, common_steps) in
    let there = rw c.as_str.ensures.value at c.in-Ok.ensures.read in (
      tt,
      tt,
      rw c.in_ok-push-in-Ok.ensures (packages-next c.args.path.now.folder c.members.list c.in-Ok.package c.members.key-iterator c.next.new.self e _ iter there same),
    )
