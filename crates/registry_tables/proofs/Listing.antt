-- Packages that are kept at their identifiers.
use Rattle.std.proofs.Common.{◌≡◌, ℕ, Bool, true, false, cond, ◌||◌, List, [], ◌∷◌, ◌++◌, map, find, Option, Some, None, is_some, refl, sym, ap, ◌∙◌}
use Rattle.std.specs.List.{list_any}
use Rattle.std.specs.Map.{lookup, values_of}
use Rattle.std.specs.Str.{bytes_eq}
use Rattle.std.proofs.lemmas.List.{map-append}
use Rattle.registry_tables.specs.Packages.{is_listed, with_id, IsById}
use Rattle.registry_tables.specs.declared.package_list.Package.{Package}

found_with_id : (u : List ℕ) (packages : List Package) → lookup (bytes_eq u) (map with_id packages) ≡ find (λ it. bytes_eq u it.uuid) packages
found_with_id u [] = refl
found_with_id u (x ∷ xs) = ap (λ o. cond (bytes_eq u x.uuid) (Some x) o) (found_with_id u xs)

listed_by : (b : Bool) (x : Package) (rest : Option Package) (more : Bool) → is_some rest ≡ more → is_some (cond b (Some x) rest) ≡ (b || more)
listed_by true x rest more h = refl
listed_by false x rest more h = h

listed_with_id : (u : List ℕ) (packages : List Package) → is_some (lookup (bytes_eq u) (map with_id packages)) ≡ is_listed packages u
listed_with_id u [] = refl
listed_with_id u (x ∷ xs) = listed_by (bytes_eq u x.uuid) x (lookup (bytes_eq u) (map with_id xs)) (is_listed xs u) (listed_with_id u xs)

-- what stands at an identifier is the package that has it
pub found-by-id : (u : List ℕ) (entries : List (List ℕ × Package)) → IsById entries → lookup (bytes_eq u) entries ≡ find (λ it. bytes_eq u it.uuid) (values_of entries)
found-by-id u entries kept = ap (lookup (bytes_eq u)) kept ∙ found_with_id u (values_of entries)

pub listed-by-id : (u : List ℕ) (entries : List (List ℕ × Package)) → IsById entries → is_some (lookup (bytes_eq u) entries) ≡ is_listed (values_of entries) u
listed-by-id u entries kept = ap (λ es. is_some (lookup (bytes_eq u) es)) kept ∙ listed_with_id u (values_of entries)

-- one package more
pub values-push : (entries : List (List ℕ × Package)) (x : Package) → values_of (entries ++ with_id x ∷ []) ≡ values_of entries ++ x ∷ []
values-push entries x = map-append (λ e. e.1) entries (with_id x ∷ [])

pub by-id-push : (entries : List (List ℕ × Package)) (x : Package) → IsById entries → IsById (entries ++ with_id x ∷ [])
by-id-push entries x kept =
    ap (λ es. es ++ with_id x ∷ []) kept ∙ sym (map-append with_id (values_of entries) (x ∷ [])) ∙ ap (map with_id) (sym (values-push entries x))
