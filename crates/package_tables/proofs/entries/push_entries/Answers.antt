use Rattle.std.proofs.Common.{◌≡◌, ◌∷◌, arith, ◌∙◌}
use Rattle.std.proofs.lemmas.Grind.{common_steps}
use Rattle.package_tables.specs.Sections as spec
use Rattle.package_tables.proofs.Walks.{TomlEntry, entries-next}
use Rattle.package_tables.proofs.entries.push_entries.Goals as goal

pub names-preserved : goal.names-preserved
names-preserved g c =
    let (can, finite, same) = c.names.invariant in
    let e : TomlEntry = (c.in-Some.name.now, c.in-Some.value.now) in
    let iter : c.names.name-iterator ≡ e ∷ c.next.new.self = grind (arith, common_steps) in
    let found = rw c.as_str.ensures.value at c.in_ok-found.ensures.ok in
    let named = c.as_str-in-names.ensures.value in
    let pushed = c.in_ok-push_entry.ensures in (
      tt,
      tt,
      rw (pushed, named) (same ∙ entries-next (spec.entry_in c.args.section.now) (g.R.Reader.gives c.args.reader.now) c.names.entries.items c.names.name-iterator c.next.new.self e c.in_ok-found.found iter found),
    )
