-- A package that isn't listed goes last.
use Rattle.std.proofs.Common.{◌≡◌, ◌∷◌, [], ◌++◌, true, false, true≢false, is_some, Option, Some, None, bytes_eq, refl, sym, ap, ◌∙◌, subst}
use Rattle.std.specs.Map.{values_of}
use Rattle.indexmap.proofs.CallerLemmas.{insert_entry-new}
use Rattle.registry_tables.specs.Packages.{is_listed, IsById}
use Rattle.registry_tables.proofs.Listing.{listed-by-id, values-push, by-id-push}
use Rattle.registry_tables.proofs.package_list.PackageList.push.Goals as goal

none_from : {T : Type 0} (o : Option T) → is_some o ≡ false → o ≡ None
none_from None no_value = refl
none_from (Some x) no_value = absurd (true≢false no_value)

pub invariant_of-self-2 : goal.invariant_of-self-2
invariant_of-self-2 c =
    let absent = none_from _ (listed-by-id c.args.listed.uuid c.self.inside.by_id.entries c.self.invariant ∙ ap (λ ps. is_listed ps c.args.listed.uuid) c.self.view_is ∙ c.requires) in
    let new = c.in_ok-insert.ensures.entries ∙ insert_entry-new bytes_eq c.self.inside.by_id c.args.listed.uuid c.args.listed absent in
    subst IsById (sym new) (by-id-push c.self.inside.by_id.entries c.args.listed c.self.invariant)

pub returns : goal.returns
returns c =
    let absent = none_from _ (listed-by-id c.args.listed.uuid c.self.inside.by_id.entries c.self.invariant ∙ ap (λ ps. is_listed ps c.args.listed.uuid) c.self.view_is ∙ c.requires) in
    let new = c.in_ok-insert.ensures.entries ∙ insert_entry-new bytes_eq c.self.inside.by_id c.args.listed.uuid c.args.listed absent in
    ap values_of new ∙ values-push c.self.inside.by_id.entries c.args.listed ∙ ap (λ ps. ps ++ c.args.listed ∷ []) c.self.view_is
