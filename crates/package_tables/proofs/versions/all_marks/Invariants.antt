-- the versions so far, in order, and the keys to come
use Rattle.std.proofs.Common.{◌≡◌, List, [], map}
use Rattle.toml.specs.View.{members_view}
use Rattle.jl_versions.specs.Order.{version_cmp}
use Rattle.pkg_world.specs.Each.{onto}
use Rattle.package_tables.specs.Row.{put_to}
use Rattle.package_tables.specs.Sections as spec
use Rattle.package_tables.proofs.Marks.{Pair}
use Rattle.package_tables.proofs.versions.all_marks.Given as goal

abbrev pub invariant-versions : goal.invariant-versions
invariant-versions l =
    (goal.iterator-versions).can_next l.key-iterator ×
    (goal.iterator-versions).is_finite l.key-iterator ×
    ((done : List Pair) × (l.marks.entries ≡ put_to version_cmp [] done)
    × (spec.all_marked [] (members_view l.table.entries) ≡ onto done (spec.all_marked (map (λ p. p.0) done) (members_view l.key-iterator))))
