use Rattle.std.proofs.Common.{ap, ◌∙◌}
use Rattle.std.specs.BTreeMap.{insert_entry}
use Rattle.manifest_writing.specs.Views.{keyed}
use Rattle.manifest_writing.specs.Writing.{by_key}
use Rattle.manifest_writing.proofs.Keyed.{keyed-insert}
use Rattle.manifest_writing.proofs.order.put.Goals as goal

pub returns : goal.returns
returns c =
    let old = c.args.packages.now.entries in
    let id = c.args.uuid.now in
    let name = c.in_ok-name.ensures.ok ∙ c.name_in.ensures in
    let version = c.in_ok-version.ensures in
    ap keyed c.in_ok-insert.ensures.entries ∙ keyed-insert old (c.in_ok-name.name, id) c.in_ok-version.version
    ∙ (λ i. insert_entry by_key (keyed old) (name i, id) (version i))
