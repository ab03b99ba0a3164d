-- The room of a table's lists says nothing of a version's row.
use Rattle.std.proofs.Common.{◌≡◌, Bool, true, false, cond, ◌&&◌, List, [], ◌∷◌, ◌++◌, map, filter, Result, Ok, Err, IfOk, refl, sym, ap, ◌∙◌}
use Rattle.jl_versions.specs.declared.version.Version.{Version}
use Rattle.compat_spec.specs.Listing.{Listing}
use Rattle.compat_spec.specs.Ranges.{Ranged}
use Rattle.package_tables.specs.Sections.{bare}
use Rattle.package_tables.specs.Row as kept
use Rattle.package_tables.specs.Row.{IsRow, holds, counts, put_to, by_spot, some_ranges}
use Rattle.package_tables.specs.declared.expanding.Row.{Row}
use Rattle.package_tables.specs.declared.package_rows.Entry.{Entry}
use Rattle.package_tables.specs.declared.package_rows.PackageRows.{PackageRows}
use Rattle.registry_tables.specs.Rows.{Rows, seen_rows}
use Rattle.registered_offers.specs.SaidRow.{deps_named, weak_named, spotted, counting, compat_of, IsRowOf}

spotted_step : (kind test : Bool) (e : Entry (Listing Ranged)) (said : List (Entry (List Ranged))) (list : List (Entry (Listing Ranged)))
    → map (spotted kind) said ≡ map (kept.spotted kind) list
    → map (spotted kind) (cond test (bare e ∷ said) said) ≡ map (kept.spotted kind) (cond test (e ∷ list) list)
spotted_step kind true e said list h = ap (λ t. kept.spotted kind e ∷ t) h
spotted_step kind false e said list h = h

counting_said : (rows : PackageRows) (v : Version) (kind : Bool) (entries : List (Entry (Listing Ranged)))
    → counting (seen_rows rows) v kind (map bare entries) ≡ kept.counting (kept.deps_named rows v) (kept.weak_named rows v) v kind entries
counting_said rows v kind [] = refl
counting_said rows v kind (e ∷ es) =
    let counted : Entry (List Ranged) → Bool = λ f. holds v f && counts (deps_named (seen_rows rows) v) (weak_named (seen_rows rows) v) f.name in
    let was_counted : Entry (Listing Ranged) → Bool = λ f. holds v f && counts (kept.deps_named rows v) (kept.weak_named rows v) f.name in
    spotted_step kind (was_counted e) e (filter counted (map bare es)) (filter was_counted es) (counting_said rows v kind es)

compat_said : (rows : PackageRows) (v : Version) → kept.compat_of rows v ≡ compat_of (seen_rows rows) v
compat_said rows v =
    ap (λ t. map (λ p. (p.0.0, p.1)) (put_to by_spot [] (t ++ kept.counting (kept.deps_named rows v) (kept.weak_named rows v) v true rows.weakcompat.items)))
    (sym (counting_said rows v false rows.compat.items))
    ∙ ap (λ t. map (λ p. (p.0.0, p.1)) (put_to by_spot [] (counting (seen_rows rows) v false (map bare rows.compat.items) ++ t)))
    (sym (counting_said rows v true rows.weakcompat.items))

row_said : (rows : PackageRows) (v : Version) (row : Row) → IsRow rows v row → IsRowOf (seen_rows rows) v row
row_said rows v row h = record { deps = h.deps; weak = h.weak; compat = h.compat ∙ ap (map some_ranges) (compat_said rows v) }

-- the row that was made of kept tables
pub row-told : {E : Type 0} (rows : PackageRows) (seen : Rows) (v : Version) (answer : Result Row E) → seen_rows rows ≡ seen → IfOk answer (IsRow rows v) → IfOk answer (IsRowOf seen v)
row-told rows seen v (Ok row) same h = rw (← same) (row_said rows v row h)
row-told rows seen v (Err fault) same h = tt
