use Rattle.depot_hash.specs.Installed.{below_depots}
use Rattle.depot_hash.specs.Slugs.{slug_of}
use Rattle.depot_hash.proofs.Finding.{told_in_front, told_behind}
use Rattle.depot_hash.proofs.packages.installed.Goals as goal

pub returns-in-Ok-Some-clause-told : goal.returns-in-Ok-Some-clause-told
returns-in-Ok-Some-clause-told g c =
    let depots = c.args.depots.now.items in
    let name = c.args.name.now in
    let five = rw c.slug.ensures.text at rw c.in-Ok-Some.field-0-is at c.in-Ok-Some.ensures.told in
    told_in_front (g.S.Store.files c.args.store.now) (below_depots depots name (slug_of 5 c.args.uuid.now c.args.tree.now)) (below_depots depots name (slug_of 4 c.args.uuid.now c.args.tree.now)) c.in-Ok-Some.path five

pub returns-in-Ok-None-clause-told : goal.returns-in-Ok-None-clause-told
returns-in-Ok-None-clause-told g c =
    let depots = c.args.depots.now.items in
    let name = c.args.name.now in
    let five = rw c.slug.ensures.text at rw c.in-Ok-None.field-0-is at c.in-Ok-None.ensures.told in
    let four = rw c.slug4.ensures.text at rw c.in-Ok-None.ensures.files at c.below-in-Ok-None.ensures.told in
    told_behind (g.S.Store.files c.args.store.now) (below_depots depots name (slug_of 5 c.args.uuid.now c.args.tree.now)) (below_depots depots name (slug_of 4 c.args.uuid.now c.args.tree.now)) _ five four
