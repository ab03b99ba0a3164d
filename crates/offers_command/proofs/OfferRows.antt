-- The lines of a row are those that its lists give.
use Rattle.std.proofs.Common.{◌≡◌, ℕ, List, [], ◌∷◌, ◌++◌, map, refl, ap}
use Rattle.std.specs.List.{flat_map}
use Rattle.jl_versions.specs.declared.version.Version.{Version}
use Rattle.compat_spec.specs.Ranges.{Ranged}
use Rattle.package_tables.specs.Row.{some_ranges}
use Rattle.package_tables.specs.declared.expanding.Row.{Row}
use Rattle.registry_tables.specs.Rows.{Rows}
use Rattle.registered_offers.specs.SaidRow.{compat_of, IsRowOf}
use Rattle.offers_command.specs.OfferLines.{compat_line, entry_line, made_lines, row_lines}

some_lines : (entries : List (List ℕ × List Ranged)) → flat_map entry_line (map some_ranges entries) ≡ flat_map compat_line entries
some_lines [] = refl
some_lines (e ∷ es) = ap (λ t. compat_line e ++ t) (some_lines es)

-- the lines of a row that was made
pub lines-of-row : (rows : Rows) (v : Version) (row : Row) → IsRowOf rows v row → made_lines row ≡ row_lines rows v
lines-of-row rows v row h = rw (h.deps, h.weak, h.compat, some_lines (compat_of rows v)) refl
