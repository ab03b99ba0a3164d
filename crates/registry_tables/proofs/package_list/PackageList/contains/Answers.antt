-- A package that is listed stands at its identifier.
use Rattle.std.proofs.Common.{◌≡◌, ap, ◌∙◌}
use Rattle.registry_tables.specs.Packages.{is_listed}
use Rattle.registry_tables.proofs.Listing.{listed-by-id}
use Rattle.registry_tables.proofs.package_list.PackageList.contains.Goals as goal

pub returns : goal.returns
returns c =
    c.contains_key.ensures ∙ listed-by-id c.args.uuid.now c.self.inside.by_id.entries c.self.invariant
    ∙ ap (λ packages. is_listed packages c.args.uuid.now) c.self.view_is
