-- What stands at an identifier is the package that has it.
use Rattle.std.proofs.Common.{◌≡◌, find, ap, ◌∙◌}
use Rattle.std.specs.Str.{bytes_eq}
use Rattle.registry_tables.proofs.Listing.{found-by-id}
use Rattle.registry_tables.proofs.package_list.PackageList.get.Goals as goal

pub returns : goal.returns
returns c =
    c.get.ensures.value ∙ found-by-id c.args.uuid.now c.self.inside.by_id.entries c.self.invariant
    ∙ ap (find (λ it. bytes_eq c.args.uuid.now it.uuid)) c.self.view_is
